use Rattle.std.proofs.Common.{◌≡◌, map, take}
use Rattle.sql_binding.specs.Outputs.{output_name}
use Rattle.name_binder.proofs.outputs.item_names.Given as goal

abbrev pub invariant-loop-item : goal.invariant-loop-item
invariant-loop-item l = l.out.items ≡ map output_name (take l.item-index l.items)
