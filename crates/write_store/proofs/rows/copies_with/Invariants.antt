use Rattle.std.proofs.Common.{◌≡◌, take, map}
use Rattle.write_store.specs.Memory.{wider}
use Rattle.write_store.proofs.rows.copies_with.Given as goal

abbrev pub invariant-loop-row : goal.invariant-loop-row
invariant-loop-row l = l.taken.items ≡ map (wider l.last) (take l.row-index l.rows)
