use Rattle.std.proofs.Common.{◌++◌, List, take}
use Rattle.catalog_types.specs.declared.catalogue.Projection.{Projection}
use Rattle.mover_policy.specs.Merging.{IsBest}
use Rattle.mover_policy.proofs.merging.first_of_table.Given as goal

abbrev pub invariant-loop-place : goal.invariant-loop-place
invariant-loop-place l = (seen : List Projection) → IsBest l.tables seen l.fn.best → IsBest l.tables (seen ++ take l.place l.projections) l.best
