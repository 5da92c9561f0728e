use Rattle.std.proofs.Common.{◌≡◌, ◌+◌, ◌<◌, ℕ, false, length, get_or}
use Rattle.std.specs.Prelude.{is_none}
use Rattle.proj_store.specs.Blocks.{in_list}
use Rattle.proj_store.proofs.alive.undeleted.Given as goal

abbrev pub invariant-loop-i : goal.invariant-loop-i
invariant-loop-i l = record {
  long : length l.alive.items ≡ l.i;
  live : (j : ℕ) → j < length l.alive.items → get_or l.alive.items j false ≡ is_none (in_list l.deletes (l.first + j));
}
