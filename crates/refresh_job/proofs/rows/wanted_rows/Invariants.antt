use Rattle.std.proofs.Common.{◌≡◌, ◌++◌, drop, map}
use Rattle.write_store.specs.Memory.{stamp}
use Rattle.refresh_job.specs.Rows.{wanted}
use Rattle.refresh_job.proofs.rows.wanted_rows.Given as goal

abbrev pub invariant-loop-held : goal.invariant-loop-held
invariant-loop-held l = l.out.items ++ wanted l.mark l.via (map stamp (drop l.held-index l.rows)) ≡ wanted l.mark l.via (map stamp l.rows)
