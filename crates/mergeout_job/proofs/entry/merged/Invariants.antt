use Rattle.std.proofs.Common.{◌≡◌, ◌++◌, drop}
use Rattle.container_writer.specs.Writing.{listed}
use Rattle.merge_rows.specs.Inputs.{replaced}
use Rattle.mergeout_job.proofs.Put.{left_of}
use Rattle.mergeout_job.proofs.entry.merged.Given as goal

abbrev pub invariant-loop-i : goal.invariant-loop-i
invariant-loop-i l = l.out.items ++ left_of l.first (drop l.i l.inputs) (listed l.made) (drop l.i l.containers) ≡ replaced l.inputs (listed l.made) l.containers
