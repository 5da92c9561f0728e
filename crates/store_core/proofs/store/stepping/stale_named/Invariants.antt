use Rattle.std.proofs.Common.{take}
use Rattle.std.specs.List.{All}
use Rattle.store_core.specs.Stepping.{IsStaleNamed}
use Rattle.store_core.proofs.store.stepping.stale_named.Given as goal

abbrev pub invariant-loop-place : goal.invariant-loop-place
invariant-loop-place l = All (λ p. IsStaleNamed l.name p → ⊥) (take l.place l.projections)
