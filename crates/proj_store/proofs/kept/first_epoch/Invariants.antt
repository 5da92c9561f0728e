use Rattle.std.proofs.Common.{◌≡◌, drop}
use Rattle.del_vector.specs.Marks.{epoch_at}
use Rattle.proj_store.proofs.kept.first_epoch.Given as goal

abbrev pub invariant-loop-mark : goal.invariant-loop-mark
invariant-loop-mark l = epoch_at (drop l.mark-index l.marks) l.position ≡ epoch_at l.marks l.position
