use Rattle.std.proofs.Common.{◌≡◌, map, take}
use Rattle.change_binder.proofs.shapes.part_names.Given as goal

abbrev pub invariant-loop-part : goal.invariant-loop-part
invariant-loop-part l = l.out.items ≡ map (λ c. c.name) (take l.part-index l.parts)
