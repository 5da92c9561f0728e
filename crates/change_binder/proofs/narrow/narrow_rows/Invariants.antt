use Rattle.std.proofs.Common.{◌≡◌, map, take}
use Rattle.sql_binding.specs.Inserts.{narrowed}
use Rattle.change_binder.proofs.narrow.narrow_rows.Given as goal

abbrev pub invariant-loop-row : goal.invariant-loop-row
invariant-loop-row l = l.out.items ≡ map (map narrowed) (take l.row-index l.rows)
