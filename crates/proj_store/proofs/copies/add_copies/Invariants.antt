use Rattle.std.proofs.Common.{◌≡◌, ◌++◌, take, map}
use Rattle.write_store.specs.Memory.{stamp}
use Rattle.proj_store.proofs.copies.add_copies.Given as goal

abbrev pub invariant-loop-row : goal.invariant-loop-row
invariant-loop-row l = l.out.items ≡ l.fn.out.items ++ map stamp (take l.row-index l.rows)
