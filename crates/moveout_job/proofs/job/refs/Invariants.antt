use Rattle.std.proofs.Common.{◌≡◌, map, take}
use Rattle.container_writer.specs.Ordered.{stamped_of}
use Rattle.write_store.specs.Memory.{stamp}
use Rattle.moveout_job.proofs.job.refs.Given as goal

abbrev pub invariant-loop-held : goal.invariant-loop-held
invariant-loop-held l = map stamped_of l.out.items ≡ map stamp (take l.held-index l.rows)
