use Rattle.std.proofs.Common.{◌≡◌, map, filter, take, nat_lt}
use Rattle.catch_tables.specs.Keyed.{by_insert, own_insert}
use Rattle.catch_tables.proofs.epochs.inserted_after.Given as goal

abbrev pub invariant-loop-stamped : goal.invariant-loop-stamped
invariant-loop-stamped l = map by_insert l.out.items ≡ map own_insert (filter (λ s. nat_lt l.after s.ins) (take l.stamped-index l.rows))
