use Rattle.std.proofs.Common.{ℕ, List, length}
use Rattle.std.specs.List.{AllZip}
use Rattle.catch_schemas.specs.Schemas.{IsFirstApart, IsSameTable}
use Rattle.catch_schemas.proofs.tables.first_differing.Given as goal

abbrev pub invariant-loop-first : goal.invariant-loop-first
invariant-loop-first l = record {
  some : (name : List ℕ) → IsFirstApart l.first l.second name → IsFirstApart l.xs l.ys name;
  none : AllZip IsSameTable l.first l.second → AllZip IsSameTable l.xs l.ys;
}

abbrev pub decreases-loop-first : goal.decreases-loop-first
decreases-loop-first l = length l.first
