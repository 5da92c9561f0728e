use Rattle.std.proofs.Common.{◌∙◌, sym}
use Rattle.exec_scan.proofs.Alive.{chosen_none, epochs_next}
use Rattle.exec_scan.proofs.chosen.chosen_epochs.Goals as goal

pub loop-i-init : goal.loop-i-init
loop-i-init c = c.new-epochs.ensures.items ∙ sym (chosen_none c.args.alive.now)

pub loop-i-preserved : goal.loop-i-preserved
loop-i-preserved c =
    epochs_next c.args.alive.now c.args.inserted.now c.loop-i.epochs.items c.put_epoch.new.epochs.items c.loop-i.i c.is_alive.result c.loop-i-test.true c.is_alive.ensures c.in_ok-put_epoch.ensures c.loop-i.invariant
