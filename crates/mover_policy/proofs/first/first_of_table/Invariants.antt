use Rattle.std.proofs.Common.{◌≡◌, drop}
use Rattle.std.specs.Prelude.{true, is_some, IfSome}
use Rattle.mover_policy.specs.First.{behind_in, projection_at, shape_at}
use Rattle.mover_policy.specs.Taking.{first_from}
use Rattle.mover_policy.proofs.first.first_of_table.Given as goal

abbrev pub invariant-loop-place : goal.invariant-loop-place
invariant-loop-place l = record {
  first : first_from (shape_at l.tables l.best) (behind_in l.last (drop l.place l.projections)) ≡ first_from (shape_at l.tables l.fn.best) (behind_in l.last l.projections);
  there : IfSome l.fn.best (λ at. is_some (projection_at l.tables at) ≡ true) → IfSome l.best (λ at. is_some (projection_at l.tables at) ≡ true);
}
