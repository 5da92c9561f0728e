use Rattle.std.proofs.Common.{length, ap, not, ◌||◌, ◌∙◌}
use Rattle.db_model.specs.State.{State, has_changes, is_empty}
use Rattle.statement_plan.proofs.Filled.{filled}
use Rattle.statement_plan.proofs.frame.Frame.loading.Goals as goal

pub returns : goal.returns
returns c = λ eight.
    let f = c.self.inside in
    filled f.tables.now f.last f.mark f.next f.txns.now f.current c.args.self.now c.args.name.now c.args.rows.now c.has_some.result c.closing.result c.self.view_is
    (ap (λ (s : State). length s.sessions) c.self.view_is ∙ eight) c.self.invariant.0 c.self.invariant.1 (c.has_some.ensures ∙ ap (λ s. not (is_empty c.args.rows.now) || has_changes s) c.session.ensures) c.closing.ensures
