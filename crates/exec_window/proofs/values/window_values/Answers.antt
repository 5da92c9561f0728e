use Rattle.std.proofs.Common.{◌≡◌, ◌∙◌, Err, List, ap, map, None, subst, sym}
use Rattle.std.specs.List.{All}
use Rattle.col_value.specs.declared.wide.Wide.TheVariants.{Null}
use Rattle.exec_window.specs.declared.fault.WindowFault.TheVariants.{SumOutOfRange}
use Rattle.exec_window.specs.declared.tuples.Tuple.{Tuple}
use Rattle.exec_window.specs.declared.walk.Step.{Step}
use Rattle.exec_window.specs.Walks.{AllFit, IsRowOf, SomeGreat, pair_of, steps, written}
use Rattle.exec_window.proofs.Ending.{ends, fails, fits, tuples_are_rows}
use Rattle.exec_window.proofs.values.window_values.Goals as goal

pub walk-requires-clause-rows : goal.walk-requires-clause-rows
walk-requires-clause-rows c =
    let (ts, placed, same) = c.in_ok-tuples.ensures.same in
    subst (All IsRowOf) (sym c.as_slice.ensures.value) (tuples_are_rows c.args.rows.now ts c.in_ok-tuples.tuples.items placed same c.requires.rows)

pub returns-in-Ok-clause-values : goal.returns-in-Ok-clause-values
returns-in-Ok-clause-values c =
    let w = c.args.window.now in
    let a = c.args.aggregate.now in
    let rows = c.args.rows.now in
    let vs = c.in_ok-tuples.tuples.items in
    let (ts, placed, same) = c.in_ok-tuples.ensures.same in
    let here : c.as_slice.result.now ≡ vs = c.as_slice.ensures.value in
    let fit : AllFit w a None (map pair_of vs) = subst (λ (l : List Tuple). AllFit w a None (map pair_of l)) here c.in-Ok.ensures.fits in
    let left : c.as_slice-in-Ok.result.now ≡ steps w a None (map pair_of vs) = c.as_slice-in-Ok.ensures.value ∙ c.in-Ok.ensures.steps ∙ ap (λ (l : List Tuple). steps w a None (map pair_of l)) here in
    c.in_ok-settled-in-Ok.ensures ∙ ap (λ (ss : List Step). written w.kind ss (map (λ r. Null) rows)) left ∙ ends w a rows ts vs placed same c.in_ok-tuples.ensures.ascending fit

pub returns-in-Ok-clause-in_range : goal.returns-in-Ok-clause-in_range
returns-in-Ok-clause-in_range c =
    let w = c.args.window.now in
    let a = c.args.aggregate.now in
    let vs = c.in_ok-tuples.tuples.items in
    let (ts, placed, same) = c.in_ok-tuples.ensures.same in
    let fit : AllFit w a None (map pair_of vs) = subst (λ (l : List Tuple). AllFit w a None (map pair_of l)) c.as_slice.ensures.value c.in-Ok.ensures.fits in
    fits w a c.args.rows.now ts vs placed same c.in_ok-tuples.ensures.ascending fit

pub returns-clause-great : goal.returns-clause-great
returns-clause-great c = λ failed.
    let w = c.args.window.now in
    let a = c.args.aggregate.now in
    let vs = c.in_ok-tuples.tuples.items in
    let (ts, placed, same) = c.in_ok-tuples.ensures.same in
    let sum : c.in-Err.fault ≡ SumOutOfRange = cc in
    let great : SomeGreat w a None (map pair_of vs) = subst (λ (l : List Tuple). SomeGreat w a None (map pair_of l)) c.as_slice.ensures.value (c.in-Err.ensures.great (ap Err sum)) in
    fails w a c.args.rows.now ts vs placed same c.in_ok-tuples.ensures.ascending great
