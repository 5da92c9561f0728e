use Rattle.std.proofs.Common.{◌≡◌, ◌≤◌, ◌<◌, ◌∙◌, ◌++◌, ◌∷◌, ℕ, List, [], get_or, length, map, take, refl, rules, subst, sym}
use Rattle.std.specs.List.{enumerate_from}
use Rattle.col_value.specs.declared.value.Value.{Value}
use Rattle.col_value.specs.declared.wide.Wide.{Wide}
use Rattle.query_order.specs.Enough.{AreFew, IsEnough}
use Rattle.sql_bound.specs.Outputs.{window_scope, window_scopes}
use Rattle.query_run.specs.Outputs.{items_in}
use Rattle.query_run.proofs.Bars.{none_enough, none_few}
use Rattle.query_run.proofs.Beside.{all_beside, inside_enumerated, past_enumerated, row_at_place}
use Rattle.query_run.proofs.Columns.{mapped_all, mapped_more}
use Rattle.query_run.proofs.windows.rows_beside.Goals as goal

pub loop-i-init : goal.loop-i-init
loop-i-init c =
    let q = c.args.query.now in
    record {
      enough = subst (IsEnough q.order q.limit []) (sym c.new-out.ensures.items) (none_enough q);
      few = subst (AreFew q.limit) (sym c.new-out.ensures.items) (none_few q.limit);
      bar = tt;
    }

pub loop-i-preserved : goal.loop-i-preserved
loop-i-preserved c =
    let q = c.args.query.now in
    let rows = c.args.rows.now in
    let i = c.loop-i.i in
    let h : i < length rows = search rules in
    let t : ℕ × List Value = (i, get_or rows i []) in
    let f : ℕ × List Value → List Wide = λ t. items_in q (window_scope q rows t) in
    let before = map f (take i (enumerate_from 0 rows)) in
    let added = c.in_ok-add_made.ensures in
    record {
      enough = subst (λ (all : List (List Wide)). IsEnough q.order q.limit all c.add_made.new.rows.items)
          (mapped_more f (enumerate_from 0 rows) i t c.in_ok-made.made before (before ++ c.in_ok-made.made ∷ []) (inside_enumerated rows i h) (sym (row_at_place rows i t h)) c.in_ok-made.ensures refl refl)
          (added.enough before c.loop-i.invariant.enough);
      few = added.few;
      bar = added.barred c.loop-i.invariant.bar;
    }

pub returns : goal.returns
returns c =
    let q = c.args.query.now in
    let rows = c.args.rows.now in
    let f : ℕ × List Value → List Wide = λ t. items_in q (window_scope q rows t) in
    let past : length rows ≤ c.loop-i.i = search rules in
    let all : map f (take c.loop-i.i (enumerate_from 0 rows)) ≡ map (items_in q) (window_scopes q rows) =
    mapped_all f (enumerate_from 0 rows) c.loop-i.i (map f (take c.loop-i.i (enumerate_from 0 rows))) (past_enumerated rows c.loop-i.i past) refl ∙ all_beside q rows in
    subst (λ (rs : List (List Wide)). IsEnough q.order q.limit rs c.loop-i.out.items) all c.loop-i.invariant.enough
