use Rattle.std.proofs.Common.{◌≡◌, take, map}
use Rattle.std.specs.Prelude.{filter, nat_le}
use Rattle.write_store.specs.Memory.{stamp}
use Rattle.write_store.proofs.rows.copies_upto.Given as goal

abbrev pub invariant-loop-row : goal.invariant-loop-row
invariant-loop-row l = l.taken.items ≡ filter (λ s. nat_le s.ins l.epoch) (map stamp (take l.row-index l.rows))
