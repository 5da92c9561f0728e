use Rattle.std.proofs.Common.{◌≡◌, map, filter, take}
use Rattle.catch_tables.specs.Keyed.{by_delete, is_deleted_after, own_delete}
use Rattle.catch_tables.proofs.epochs.deleted_after.Given as goal

abbrev pub invariant-loop-stamped : goal.invariant-loop-stamped
invariant-loop-stamped l = map by_delete l.out.items ≡ map own_delete (filter (is_deleted_after l.after) (take l.stamped-index l.rows))
