use Rattle.std.proofs.Common.{◌≡◌, map, take}
use Rattle.sql_binding.specs.Changes.{bound_setting}
use Rattle.statement_binder.specs.Scopes.{scope_of}
use Rattle.change_binder.proofs.settings.bind_settings.Given as goal

abbrev pub invariant-loop-setting : goal.invariant-loop-setting
invariant-loop-setting l = l.out.items ≡ map (bound_setting (scope_of l.scope)) (take l.setting-index l.settings)
