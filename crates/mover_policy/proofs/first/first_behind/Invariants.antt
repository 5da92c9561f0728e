use Rattle.std.proofs.Common.{◌≡◌, drop}
use Rattle.std.specs.Prelude.{true, None, is_some, IfSome}
use Rattle.mover_policy.specs.First.{all_projections, behind_in, projection_at, shape_at}
use Rattle.mover_policy.specs.Taking.{first_from}
use Rattle.mover_policy.proofs.first.first_behind.Given as goal

abbrev pub invariant-loop-table : goal.invariant-loop-table
invariant-loop-table l = record {
  first : first_from (shape_at l.tables l.best) (behind_in l.last (all_projections (drop l.table l.tables))) ≡ first_from None (behind_in l.last (all_projections l.tables));
  there : IfSome l.best (λ at. is_some (projection_at l.tables at) ≡ true);
}
