use Rattle.std.proofs.Common.{◌<◌, ◌≤◌, sym, subst, length, ◌∙◌, arith, rules}
use Rattle.std.specs.List.{All}
use Rattle.std.proofs.lemmas.List.{take_all}
use Rattle.std.proofs.lemmas.List.Elements.{All-more}
use Rattle.col_value.specs.declared.value.Value.TheVariants.{Null}
use Rattle.ros_container.specs.Rows.{IsEpochOf}
use Rattle.container_blocks.proofs.stamps.are_epochs.Goals as goal

pub loop-i-preserved : goal.loop-i-preserved
loop-i-preserved c =
    let lt : c.loop-i.i < length c.args.values.now = omega (arith, c.loop-i-test.true, c.len-i-end.ensures) in
    let is : IsEpochOf c.args.entry.now c.value.result.now = search rules in
    All-more (IsEpochOf c.args.entry.now) c.args.values.now c.loop-i.i Null lt c.loop-i.invariant (subst (IsEpochOf c.args.entry.now) (c.value.ensures ∙ c.cell-cell.ensures) is)

pub returns-then-not-is_epoch-clause-no : goal.returns-then-not-is_epoch-clause-no
returns-then-not-is_epoch-clause-no c _ all =
    let lt : c.loop-i.i < length c.args.values.now = omega (arith, c.loop-i-test.true, c.len-i-end.ensures) in
    let fails : IsEpochOf c.args.entry.now c.value.result.now → ⊥ = search rules in
    fails (subst (IsEpochOf c.args.entry.now) (sym (c.value.ensures ∙ c.cell-cell.ensures)) (all c.loop-i.i Null lt))

pub returns-clause-yes : goal.returns-clause-yes
returns-clause-yes c _ =
    let all : length c.args.values.now ≤ c.loop-i.i = omega (arith, c.loop-i-test.false, c.len-i-end.ensures) in
    subst (All (IsEpochOf c.args.entry.now)) (take_all c.loop-i.i c.args.values.now all) c.loop-i.invariant
