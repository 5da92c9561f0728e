use Rattle.std.proofs.Common.{◌≡◌, ◌<◌, ℕ, true, List}
use Rattle.std.specs.List.{All}
use Rattle.col_value.specs.declared.value.Value.{Value}
use Rattle.row_bounds.specs.Bounds.{within}
use Rattle.row_bounds.proofs.hull.hulls.Given as goal

abbrev pub invariant-loop-bound : goal.invariant-loop-bound
invariant-loop-bound l = record {
  own : (n : ℕ) → All (λ b. b.column < n) l.fn.bounds.items → All (λ b. b.column < n) l.out.items × All (λ b. b.column < n) l.bound-iterator.rest.items;
  first : (row : List Value) → within l.fn.bounds.items row ≡ true → (within l.out.items row ≡ true) × (within l.bound-iterator.rest.items row ≡ true);
  second : (row : List Value) → within l.others row ≡ true → within l.out.items row ≡ true;
}
