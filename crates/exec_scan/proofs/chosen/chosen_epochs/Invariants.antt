use Rattle.std.proofs.Common.{◌≡◌, take}
use Rattle.exec_scan.specs.Batches.{chosen}
use Rattle.exec_scan.proofs.chosen.chosen_epochs.Given as goal

abbrev pub invariant-loop-i : goal.invariant-loop-i
invariant-loop-i l = l.epochs.items ≡ chosen l.alive (take l.i l.inserted)
