use Rattle.std.proofs.Common.{◌≤◌, ◌<◌, ◌+◌, ℕ, List, length}
use Rattle.std.specs.Prelude.{Option}
use Rattle.std.specs.List.{All}
use Rattle.col_value.specs.declared.row.Asked.{Asked}
use Rattle.wanted_rows.specs.Wanted.{need_in}
use Rattle.wanted_rows.specs.Picked.{PicksBefore, StandFrom}
use Rattle.proj_store.proofs.picks.pick_from.Given as goal

abbrev pub invariant-loop-i : goal.invariant-loop-i
invariant-loop-i l = record {
  picked :
      (mark : ℕ → Option ℕ) (all : List Asked) → StandFrom l.first mark all (need_in l.fn.wants) l.some → (start : Asked → ℕ) → PicksBefore l.first mark all l.fn.places.items start (need_in l.fn.wants)
      → PicksBefore (l.first + l.i) mark all l.places.items start (need_in l.wants);
  inside : (n : ℕ) → l.first + l.i ≤ n → All (λ p. p < n) l.fn.places.items → All (λ p. p < n) l.places.items;
  fewer : (q : Asked) → need_in l.wants q ≤ need_in l.fn.wants q;
  within : l.i ≤ length l.some;
}
