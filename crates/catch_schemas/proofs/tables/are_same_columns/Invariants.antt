use Rattle.std.proofs.Common.{◌≡◌, length}
use Rattle.catch_schemas.specs.Schemas.{are_same_columns}
use Rattle.catch_schemas.proofs.tables.are_same_columns.Given as goal

abbrev pub decreases-loop-first : goal.decreases-loop-first
decreases-loop-first l = length l.first

abbrev pub invariant-loop-first : goal.invariant-loop-first
invariant-loop-first l = are_same_columns l.first l.second ≡ are_same_columns l.xs l.ys
