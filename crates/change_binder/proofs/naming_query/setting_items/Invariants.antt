use Rattle.std.proofs.Common.{◌≡◌, take}
use Rattle.std.specs.List.{flat_map}
use Rattle.sql_binding.specs.Changes.{setting_items}
use Rattle.change_binder.proofs.naming_query.setting_items.Given as goal

abbrev pub invariant-loop-setting : goal.invariant-loop-setting
invariant-loop-setting l = l.out.items ≡ flat_map setting_items (take l.setting-index l.settings)
