use Rattle.std.proofs.Common.{◌≡◌, map, take}
use Rattle.sql_binding.specs.Inserts.{narrowed}
use Rattle.change_binder.proofs.narrow.narrow_row.Given as goal

abbrev pub invariant-loop-literal : goal.invariant-loop-literal
invariant-loop-literal l = l.out.items ≡ map narrowed (take l.literal-index l.row)
