use Rattle.std.proofs.Common.{◌≡◌, ◌<◌, ◌+◌, ℕ, true, List, drop}
use Rattle.std.specs.List.{All}
use Rattle.col_value.specs.declared.value.Value.{Value}
use Rattle.row_bounds.specs.Bounds.{within}
use Rattle.row_bounds.proofs.Sets.{AreMoved}
use Rattle.row_bounds.proofs.shifting.shifted.Given as goal

abbrev pub invariant-loop-bound : goal.invariant-loop-bound
invariant-loop-bound l = record {
  own : (n : ℕ) → All (λ b. b.column < l.first + n) l.fn.bounds.items → All (λ b. b.column < n) l.out.items × All (λ b. b.column < l.first + n) l.bound-iterator.rest.items;
  kept : (row : List Value) → within l.fn.bounds.items row ≡ true → (within l.out.items (drop l.first row) ≡ true) × (within l.bound-iterator.rest.items row ≡ true);
  moved : AreMoved l.first l.fn.bounds.items l.out.items l.bound-iterator.rest.items;
}
