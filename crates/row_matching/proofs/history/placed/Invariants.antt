use Rattle.std.proofs.Common.{◌≡◌, take}
use Rattle.query_cover.specs.Seen.{placed}
use Rattle.row_matching.proofs.history.placed.Given as goal

abbrev pub invariant-loop-place : goal.invariant-loop-place
invariant-loop-place l = l.out.items ≡ placed (take l.place-index l.places) l.row
