use Rattle.std.proofs.Common.{take}
use Rattle.mover_policy.specs.First.{all_projections}
use Rattle.mover_policy.specs.Merging.{IsBest}
use Rattle.mover_policy.proofs.merging.first_due.Given as goal

abbrev pub invariant-loop-table : goal.invariant-loop-table
invariant-loop-table l = IsBest l.tables (all_projections (take l.table l.tables)) l.best
