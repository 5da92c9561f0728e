use Rattle.std.proofs.Common.{ℕ, List, ◌∙◌, ap}
use Rattle.std.specs.Prelude.{option_map}
use Rattle.db_model.specs.Views.{table_found}
use Rattle.statement_plan.proofs.Marked.{pair, update_planned}
use Rattle.statement_plan.proofs.changing.plan_update.Goals as goal

pub returns-in-Ok-clause-planned : goal.returns-in-Ok-clause-planned
returns-in-Ok-clause-planned c =
    update_planned c.args.frame.now c.args.update.now c.found-found.result c.in-Ok.bound c.place_of.result
    (c.found-found.ensures ∙ ap (λ (n : List ℕ). option_map pair (table_found n c.args.frame.now.database.tables)) c.as_slice.ensures) c.in-Ok.ensures.bound
    c.place_of.ensures
