use Rattle.std.proofs.Common.{◌≡◌, drop}
use Rattle.merge_rows.specs.Rewritten.{reached_by}
use Rattle.purge_job.proofs.entry.reached.Given as goal

abbrev pub invariant-loop-container : goal.invariant-loop-container
invariant-loop-container l = reached_by l.greatest (drop l.container-index l.containers) ≡ reached_by l.epoch l.containers
