use Rattle.std.proofs.Common.{◌≡◌, ℕ, ◌≤◌, take, map, length, get_or}
use Rattle.proj_store.specs.declared.kept.Kept.{Kept}
use Rattle.proj_store.specs.Loaded.{beside_of}
use Rattle.proj_store.specs.Marking.{all_marked}
use Rattle.proj_store.proofs.marking.mark_each.Given as goal

abbrev pub invariant-loop-i : goal.invariant-loop-i
invariant-loop-i l = record {
  long : length l.kept ≡ length l.fn.kept;
  marked : map beside_of l.kept ≡ all_marked l.epoch (map beside_of l.fn.kept) (take l.i l.each);
  rest : (j : ℕ) (d : Kept) → l.i ≤ j → get_or l.kept j d ≡ get_or l.fn.kept j d;
}
