use Rattle.std.proofs.Common.{◌≡◌, drop, []}
use Rattle.std.specs.List.{list_all}
use Rattle.sql_binding.specs.Changes.{is_typed_setting}
use Rattle.change_binder.proofs.settings.are_typed_settings.Given as goal

abbrev pub invariant-loop-setting : goal.invariant-loop-setting
invariant-loop-setting l = list_all (is_typed_setting (record { columns = l.columns; keys = []; aggs = [] })) (drop l.setting-index l.settings) ≡ list_all (is_typed_setting (record { columns = l.columns; keys = []; aggs = [] })) l.settings
