use Rattle.std.proofs.Common.{rules, ◌∙◌, ◌<◌, length, arith}
use Rattle.col_value.specs.declared.value.Value.TheVariants.{Null}
use Rattle.ros_container.specs.Rows.{IsEpochOf}
use Rattle.audit_files.proofs.Epochs.{all_more, all_ended, one_lacks, not_both}
use Rattle.audit_files.proofs.stored.are_epochs.Goals as goal

pub loop-i-preserved : goal.loop-i-preserved
loop-i-preserved c =
    let lt : c.loop-i.i < length c.args.values.now = omega (arith, c.loop-i-test.true, c.len-i-end.ensures) in
    all_more (IsEpochOf c.args.entry.now) c.args.values.now c.loop-i.i Null c.value.result.now lt (c.value.ensures ∙ c.cell-cell.ensures) c.loop-i.invariant (c.is_epoch.ensures.0 (search rules))

pub returns-then-not-is_epoch : goal.returns-then-not-is_epoch
returns-then-not-is_epoch c =
    let lt : c.loop-i.i < length c.args.values.now = omega (arith, c.loop-i-test.true, c.len-i-end.ensures) in (
      λ never. absurd cc,
      λ all. absurd (one_lacks (IsEpochOf c.args.entry.now) c.args.values.now c.loop-i.i Null c.value.result.now lt (c.value.ensures ∙ c.cell-cell.ensures) (λ is. not_both c.is_epoch.result (search rules) (c.is_epoch.ensures.1 is)) all),
    )

pub returns : goal.returns
returns c = (λ yes. all_ended (IsEpochOf c.args.entry.now) c.args.values.now c.loop-i.i (omega (arith, c.loop-i-test.false, c.len-i-end.ensures)) c.loop-i.invariant, λ all. search rules)
