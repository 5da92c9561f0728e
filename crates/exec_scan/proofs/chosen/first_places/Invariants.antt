use Rattle.std.proofs.Common.{◌≡◌, ◌<◌, ℕ, List, get_or, length}
use Rattle.exec_scan.proofs.chosen.first_places.Given as goal

pub record AreFirst (places : List ℕ) (count i : ℕ) : Type 0 where
  pub long : length places ≡ count
  pub each : (k : ℕ) → k < i → get_or places k 0 ≡ k

abbrev pub invariant-loop-i : goal.invariant-loop-i
invariant-loop-i l = AreFirst l.places.items l.count l.i
