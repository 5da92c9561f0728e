use Rattle.std.proofs.Common.{◌≡◌, drop}
use Rattle.std.specs.List.{list_any}
use Rattle.sql_binding.specs.Uses.{item_has_aggregate}
use Rattle.name_binder.proofs.groups.any_item_has.Given as goal

abbrev pub invariant-loop-item : goal.invariant-loop-item
invariant-loop-item l = list_any (λ i. item_has_aggregate i.tree) (drop l.item-index l.items) ≡ list_any (λ i. item_has_aggregate i.tree) l.items
