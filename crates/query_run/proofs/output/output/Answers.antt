use Rattle.std.proofs.Common.{◌∙◌, Err, List, ap, arith, map, refl, subst, sym}
use Rattle.std.proofs.lemmas.Result.{IfOk-weaker}
use Rattle.std.specs.List.{All}
use Rattle.col_value.specs.Order.{IsRow}
use Rattle.col_value.specs.declared.value.Value.{Value}
use Rattle.col_value.specs.declared.wide.Wide.{Wide}
use Rattle.query_laws.proofs.TupleRows.{kept_are_rows}
use Rattle.sql_bound.specs.Outputs.{kept, window_scopes}
use Rattle.query_order.specs.Enough.{IsEnough}
use Rattle.exec_group.specs.Groups.{HoldsGroups}
use Rattle.query_run.specs.Outputs.{items_in, IsWindowed}
use Rattle.query_run.proofs.Scopes.{groups_fit, groups_great, groups_put_out, held_few, scopes_fit, seen_are_rows, windows_put_out}
use Rattle.query_run.proofs.output.output.Goals as goal

pub of_groups-requires-clause-groups : goal.of_groups-requires-clause-groups
of_groups-requires-clause-groups c =
    let q = c.args.query.now in
    let (inputs, has) = c.requires.some in
    let rows = kept q inputs in
    let groups : HoldsGroups q rows c.args.collected.groups = has.held.groups c.if-not-query.false in
    scopes_fit q rows c.in-Ok.grouped (c.in-Ok.ensures.groups q rows groups) (kept_are_rows q.keep inputs rows refl has.rows)
    (omega (arith, held_few q rows c.args.collected has.held)) (c.in-Ok.ensures.in_range q rows groups)

pub returns-in-Ok-clause-rows : goal.returns-in-Ok-clause-rows
returns-in-Ok-clause-rows c = λ inputs has.
    let q = c.args.query.now in
    let rows = kept q inputs in
    let groups : HoldsGroups q rows c.args.collected.groups = has.held.groups c.if-not-query.false in
    let all = groups_put_out q inputs c.in-Ok.grouped c.if-not-query.false (c.in-Ok.ensures.groups q rows groups) in
    subst (λ (rows : List (List Wide)). IsEnough q.order q.limit rows c.in_ok-of_groups-in-Ok.field-0.items) all c.in_ok-of_groups-in-Ok.ensures

pub returns-in-Ok-clause-in_range : goal.returns-in-Ok-clause-in_range
returns-in-Ok-clause-in_range c = λ inputs has great.
    let q = c.args.query.now in
    let rows = kept q inputs in
    c.in-Ok.ensures.in_range q rows (has.held.groups c.if-not-query.false) (groups_fit q inputs c.if-not-query.false great)

pub returns-in-Err-SumOutOfRange-clause-great : goal.returns-in-Err-SumOutOfRange-clause-great
returns-in-Err-SumOutOfRange-clause-great c = λ failed inputs has.
    let q = c.args.query.now in
    groups_great q inputs c.if-not-query.false (c.in-Err-SumOutOfRange.ensures.great (ap Err c.in-Err-SumOutOfRange.field-0-is) q (kept q inputs) (has.held.groups c.if-not-query.false))

pub of_windows-requires-clause-rows : goal.of_windows-requires-clause-rows
of_windows-requires-clause-rows c =
    let q = c.args.query.now in
    let (inputs, has) = c.requires.some in
    let is : IsWindowed q = record { rows = c.if-not-query.true; windows = c.has_windows.ensures.some c.if-has_windows.true } in
    subst (All IsRow) (sym c.as_slice.ensures.value) (seen_are_rows q inputs c.args.collected is (kept_are_rows q.keep inputs (kept q inputs) refl has.rows) has.held)

pub returns-then-has_windows-clause-rows : goal.returns-then-has_windows-clause-rows
returns-then-has_windows-clause-rows c =
    let q = c.args.query.now in
    let is : IsWindowed q = record { rows = c.if-not-query.true; windows = c.has_windows.ensures.some c.if-has_windows.true } in
    IfOk-weaker c.of_windows.result _ _ (λ v enough inputs has.
    subst (λ (all : List (List Wide)). IsEnough q.order q.limit all v.items)
    (ap (λ (seen : List (List Value)). map (items_in q) (window_scopes q seen)) c.as_slice.ensures.value ∙ windows_put_out q inputs c.args.collected is has.held) enough) c.of_windows.ensures.rows
