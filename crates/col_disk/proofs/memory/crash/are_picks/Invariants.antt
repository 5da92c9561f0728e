use Rattle.std.proofs.Common.{◌≡◌, length, map}
use Rattle.col_disk.specs.Picks.{are_picks}
use Rattle.col_disk.proofs.memory.crash.are_picks.Given as goal

abbrev pub invariant-loop-rest : goal.invariant-loop-rest
invariant-loop-rest l = are_picks (map (λ u. (u.name, u.is_written)) l.rest) l.left ≡ are_picks (map (λ u. (u.name, u.is_written)) l.names) l.picks

abbrev pub decreases-loop-rest : goal.decreases-loop-rest
decreases-loop-rest l = length l.rest
