use Rattle.std.proofs.Common.{◌≡◌, drop, []}
use Rattle.std.specs.List.{list_all}
use Rattle.sql_bound.specs.Bounds.{is_narrow}
use Rattle.change_binder.proofs.settings.are_narrow_settings.Given as goal

abbrev pub invariant-loop-setting : goal.invariant-loop-setting
invariant-loop-setting l = list_all (λ a. is_narrow [] a.1) (drop l.setting-index l.settings) ≡ list_all (λ a. is_narrow [] a.1) l.settings
