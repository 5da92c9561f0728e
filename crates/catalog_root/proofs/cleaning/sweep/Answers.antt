use Rattle.std.proofs.Common.{arith, refl, ◌∙◌}
use Rattle.col_disk.proofs.Moving.{moved_join, moved_none}
use Rattle.catalog_root.specs.Listed.{IsSwept}
use Rattle.catalog_root.proofs.Sweeps.{gone_more, gone_all, names_fit}
use Rattle.catalog_root.proofs.cleaning.sweep.Goals as goal

pub loop-name-init : goal.loop-name-init
loop-name-init g c = record { gone = λ m told j lt r. absurd (omega (arith, lt)); moved = moved_none g.D.Disk c.args.disk.now; unfailed = refl }

pub returns-in_err-sweep_one-clause-fits : goal.returns-in_err-sweep_one-clause-fits
returns-in_err-sweep_one-clause-fits g c = names_fit c.args.names.now (λ i. (c.type_inv.names i).fits)

pub returns-in_err-sweep_one-clause-moved : goal.returns-in_err-sweep_one-clause-moved
returns-in_err-sweep_one-clause-moved g c = moved_join g.D.Disk c.loop-name.invariant.moved c.sweep_one.ensures.moved

pub loop-name-preserved : goal.loop-name-preserved
loop-name-preserved g c = record {
  gone = gone_more (IsSwept c.args.version c.args.numbers.now) c.args.names.now c.loop-name.name-index (g.D.Disk.holds c.loop-name.disk) (g.D.Disk.holds c.sweep_one.new.disk) c.sweep_one.ensures.moved.contents c.in_ok-sweep_one.ensures.gone c.loop-name.invariant.gone;
  moved = moved_join g.D.Disk c.loop-name.invariant.moved c.sweep_one.ensures.moved;
  unfailed = c.in_ok-sweep_one.ensures.unfailed ∙ c.loop-name.invariant.unfailed;
}

pub returns-clause-fits : goal.returns-clause-fits
returns-clause-fits g c = names_fit c.args.names.now (λ i. (c.type_inv.names i).fits)

pub returns-clause-gone : goal.returns-clause-gone
returns-clause-gone g c =
    gone_all (IsSwept c.args.version c.args.numbers.now) c.args.names.now c.loop-name.name-index (g.D.Disk.holds c.loop-name.disk) (omega (arith, c.loop-name-test.false, c.loop-name.auto.name-index-end)) c.loop-name.invariant.gone
