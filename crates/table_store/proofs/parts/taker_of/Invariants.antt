use Rattle.std.proofs.Common.{◌≤◌, length}
use Rattle.table_store.proofs.parts.taker_of.Given as goal

abbrev pub invariant-loop-place : goal.invariant-loop-place
invariant-loop-place l = l.place ≤ length l.stores

abbrev pub decreases-loop-place : goal.decreases-loop-place
decreases-loop-place l = l.place
