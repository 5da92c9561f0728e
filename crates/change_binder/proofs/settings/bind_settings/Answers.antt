use Rattle.std.proofs.Common.{ap, ◌∙◌, ◌++◌, ℕ, [], ◌∷◌}
use Rattle.sql_tree.specs.declared.statement.Setting.{Setting}
use Rattle.sql_bound.specs.declared.expr.Expr.{Expr}
use Rattle.sql_binding.specs.Changes.{bound_setting}
use Rattle.statement_binder.specs.Scopes.{scope_of}
use Rattle.statement_binder.proofs.Growing.{value_more}
use Rattle.change_binder.proofs.settings.bind_settings.Goals as goal

pub loop-setting-preserved : goal.loop-setting-preserved
loop-setting-preserved c =
    let f = bound_setting (scope_of c.args.scope) in
    let x = c.setting-item.result in
    let out = c.loop-setting.out.items in
    c.in_ok-push.ensures.items
    ∙ (ap (λ (v : ℕ × Expr). out ++ (v ∷ [])) (c.in_ok-bind_setting.ensures)
    ∙ value_more Setting (ℕ × Expr) f c.args.settings.now c.loop-setting.setting-index x out c.loop-setting-test.true c.setting-item.is c.loop-setting.invariant)
