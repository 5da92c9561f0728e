use Rattle.std.proofs.Common.{◌≡◌, length}
use Rattle.catalog_laws.specs.Entries.{from_files}
use Rattle.catalog_laws.proofs.among.from_files.Given as goal

abbrev pub invariant-loop-rest : goal.invariant-loop-rest
invariant-loop-rest l = from_files l.k l.rest ≡ from_files l.k l.olds

abbrev pub decreases-loop-rest : goal.decreases-loop-rest
decreases-loop-rest l = length l.rest
