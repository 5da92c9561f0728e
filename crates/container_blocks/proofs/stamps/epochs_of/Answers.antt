use Rattle.std.proofs.Common.{sym, subst, ◌∙◌, ◌<◌, length, arith}
use Rattle.col_value.specs.declared.value.Value.TheVariants.{Null}
use Rattle.ros_container.specs.Rows.{IsEpochOf}
use Rattle.container_blocks.proofs.stamps.epochs_of.Goals as goal

pub returns-in-None-clause-none : goal.returns-in-None-clause-none
returns-in-None-clause-none c all =
    let lt : c.loop-i.i < length c.args.values.now = omega (arith, c.loop-i-test.true, c.len-i-end.ensures) in
    c.in-None.ensures.none (subst (IsEpochOf c.args.entry.now) (sym (c.value.ensures ∙ c.cell-cell.ensures)) (all c.loop-i.i Null lt))
