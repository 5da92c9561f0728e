use Rattle.std.proofs.Common.{◌≡◌, map, take}
use Rattle.container_writer.specs.Ordered.{stamped_of}
use Rattle.purge_job.proofs.rows.refs.Given as goal

abbrev pub invariant-loop-stamped : goal.invariant-loop-stamped
invariant-loop-stamped l = map stamped_of l.out.items ≡ take l.stamped-index l.rows
