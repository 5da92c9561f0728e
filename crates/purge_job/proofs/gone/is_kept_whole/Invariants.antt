use Rattle.std.proofs.Common.{take}
use Rattle.std.specs.List.{All}
use Rattle.purge_job.specs.Purging.{AreLate}
use Rattle.purge_job.proofs.gone.is_kept_whole.Given as goal

abbrev pub invariant-loop-i : goal.invariant-loop-i
invariant-loop-i l = All (AreLate l.mark) (take l.i l.p.stored.beside)
