use Rattle.std.proofs.Common.{◌≡◌, take}
use Rattle.row_matching.proofs.sifting.wants_of.Given as goal

abbrev pub invariant-loop-asked : goal.invariant-loop-asked
invariant-loop-asked l = l.rows.items ≡ take l.asked-index l.gone
