use Rattle.std.proofs.Common.{◌≡◌, take}
use Rattle.stored_rows.specs.Held.{greatest_epoch}
use Rattle.vector_files.proofs.fitting.greatest_epoch.Given as goal

abbrev pub invariant-loop-mark : goal.invariant-loop-mark
invariant-loop-mark l = l.greatest ≡ greatest_epoch (take l.mark-index l.marks)
