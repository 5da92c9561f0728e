use Rattle.std.proofs.Common.{refl, ◌∙◌}
use Rattle.col_disk.proofs.Moving.{moved_join, moved_none}
use Rattle.catalog_root.proofs.cleaning.sweep_numbers.Goals as goal

pub loop-number-init : goal.loop-number-init
loop-number-init g c = record { moved = moved_none g.D.Disk c.args.disk.now; unfailed = refl }

pub returns-in_err-sweep_one-clause-moved : goal.returns-in_err-sweep_one-clause-moved
returns-in_err-sweep_one-clause-moved g c = moved_join g.D.Disk c.loop-number.invariant.moved c.sweep_one.ensures.moved

pub loop-number-preserved : goal.loop-number-preserved
loop-number-preserved g c = record {
  moved = moved_join g.D.Disk c.loop-number.invariant.moved c.sweep_one.ensures.moved;
  unfailed = c.in_ok-sweep_one.ensures.unfailed ∙ c.loop-number.invariant.unfailed;
}
