use Rattle.std.proofs.Common.{◌≡◌, ◌<◌, ◌≤◌, ◌+◌, [], ◌∙◌, List, length, get_or, ap, rules, subst}
use Rattle.std.proofs.lemmas.List.{take_all}
use Rattle.std.specs.List.{list_any}
use Rattle.std.proofs.lemmas.Result.{on_ok_weaker}
use Rattle.sql_bound.specs.declared.expr.Expr.{Expr}
use Rattle.sql_bound.specs.Outputs.{is_kept}
use Rattle.sql_bound.specs.Values.{is_true, of_row, value_of}
use Rattle.row_bounds.proofs.Parts.{and_holds, part_holds}
use Rattle.row_bounds.specs.declared.bound.Bound.{Bound}
use Rattle.row_bounds.specs.Bounds.{within}
use Rattle.row_bounds.proofs.Hulls.{later_at, or_holds, shares_more}
use Rattle.row_bounds.proofs.Sets.{found_more, AreFound}
use Rattle.row_bounds.proofs.finding.+adding.Goals as goal

pub add_bounds-returns-in-And-clause-kept : goal.add_bounds-returns-in-And-clause-kept
add_bounds-returns-in-And-clause-kept t c =
    on_ok_weaker c.add_all.result
    (λ more row is. more row (ap (λ (ps : List Expr). is_kept ps row) c.as_slice.ensures ∙ and_holds row c.args.e.now c.in-And.parts c.in-And.is is)) c.add_all.ensures.kept

pub add_bounds-returns-in-Or-clause-kept : goal.add_bounds-returns-in-Or-clause-kept
add_bounds-returns-in-Or-clause-kept t c =
    on_ok_weaker c.add_some.result
    (λ more row is. more row (ap (list_any (λ (e : Expr). is_true (value_of (of_row row) e))) c.as_slice-in-Or.ensures ∙ or_holds row c.args.e.now c.in-Or.parts c.in-Or.is is)) c.add_some.ensures.kept

pub add_some-loop-part-preserved : goal.add_some-loop-part-preserved
add_some-loop-part-preserved t c =
    let i = c.loop-part.part-index + 1 in
    let shared = c.loop-part.shared.items in
    let others = c.add_bounds-in-loop-part.new.out.items in
    let lt : i < length c.args.parts.now = search rules in
    let is : c.part-item.result ≡ get_or c.args.parts.now i c.part-item.result = later_at c.args.parts.now c.loop-part.part-index c.part-item.result lt c.part-item.is in
    let none : c.new-others.result.items ≡ [] = c.new-others.ensures.items in
    let told : c.as_slice.result.now ≡ others = c.as_slice.ensures.value in (
      c.in_ok-shared.ensures.own c.args.columns c.loop-part.invariant.0,
      shares_more c.args.parts.now i c.part-item.result shared others c.in_ok-shared.shared.items lt is c.loop-part.invariant.1
          (λ row holds. c.in_ok-add_bounds-2.ensures.kept row holds (ap (λ (bs : List Bound). within bs row) none)) c.in_ok-shared.ensures.first
          (λ row w. c.in_ok-shared.ensures.second row (ap (λ (bs : List Bound). within bs row) told ∙ w)),
    )

pub add_all-loop-part-preserved : goal.add_all-loop-part-preserved
add_all-loop-part-preserved t c =
    let parts = c.args.parts.now in
    let i = c.loop-part.part-index in
    let lt : i < length parts = search rules in
    let is : c.part-item.result ≡ get_or parts i c.part-item.result = c.part-item.is in
    record {
      own = c.in_ok-add_bounds.ensures.own;
      kept = λ row kept was. c.in_ok-add_bounds.ensures.kept row (part_holds row parts i c.part-item.result lt is kept) (c.loop-part.invariant.kept row kept was);
      stays = λ b was. c.in_ok-add_bounds.ensures.stays b (c.loop-part.invariant.stays b was);
      set = found_more parts i c.part-item.result c.args.columns c.loop-part.out.items c.add_bounds.new.out.items lt is c.in_ok-add_bounds.ensures.stays c.in_ok-add_bounds.ensures.set c.loop-part.invariant.set;
    }

pub add_all-returns-clause-set : goal.add_all-returns-clause-set
add_all-returns-clause-set t c =
    let past : length c.args.parts.now ≤ c.loop-part.part-index = search rules in
    subst (λ (es : List Expr). AreFound es c.args.columns c.loop-part.out.items) (take_all c.loop-part.part-index c.args.parts.now past) c.loop-part.invariant.set
