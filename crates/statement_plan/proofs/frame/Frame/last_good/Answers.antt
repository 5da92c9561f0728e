use Rattle.std.proofs.Common.{◌∙◌, sym, ap}
use Rattle.db_model.specs.Epochs.{last_good}
use Rattle.db_model.specs.State.{State}
use Rattle.statement_plan.proofs.Good.{bare_good}
use Rattle.statement_plan.proofs.frame.Frame.last_good.Goals as goal

pub returns : goal.returns
returns c = c.last_good.ensures ∙ sym (bare_good c.self.inside.last c.self.inside.tables.now) ∙ ap (λ (s : State). last_good s.database) c.self.view_is
