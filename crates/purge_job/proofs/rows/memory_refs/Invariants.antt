use Rattle.std.proofs.Common.{◌≡◌, ◌++◌, map, drop}
use Rattle.container_writer.specs.Ordered.{stamped_of}
use Rattle.row_history.specs.History.{retained}
use Rattle.write_store.specs.Memory.{stamp}
use Rattle.purge_job.proofs.rows.memory_refs.Given as goal

abbrev pub invariant-loop-held : goal.invariant-loop-held
invariant-loop-held l = map stamped_of l.out.items ++ retained l.mark (map stamp (drop l.held-index l.rows)) ≡ retained l.mark (map stamp l.rows)
