use Rattle.std.proofs.Common.{◌≡◌, map, take}
use Rattle.sql_binding.specs.Projections.{bound_new_part}
use Rattle.change_binder.proofs.shapes.bound_parts.Given as goal

abbrev pub invariant-loop-part : goal.invariant-loop-part
invariant-loop-part l = l.out.items ≡ map (bound_new_part l.columns) (take l.part-index l.parts)
