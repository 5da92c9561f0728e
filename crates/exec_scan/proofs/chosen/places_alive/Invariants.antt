use Rattle.std.proofs.Common.{◌≡◌}
use Rattle.std.specs.List.{range_with_len}
use Rattle.exec_scan.specs.Batches.{chosen}
use Rattle.exec_scan.proofs.chosen.places_alive.Given as goal

abbrev pub invariant-loop-i : goal.invariant-loop-i
invariant-loop-i l = l.places.items ≡ chosen l.alive (range_with_len 0 l.i)
