use Rattle.std.proofs.Common.{length}
use Rattle.catalog_laws.specs.Entries.{AreAmong}
use Rattle.catalog_laws.proofs.among.are_among.Given as goal

abbrev pub invariant-loop-rest : goal.invariant-loop-rest
invariant-loop-rest l = AreAmong l.first l.left l.rest → AreAmong l.first l.olds l.news

abbrev pub decreases-loop-rest : goal.decreases-loop-rest
decreases-loop-rest l = length l.rest
