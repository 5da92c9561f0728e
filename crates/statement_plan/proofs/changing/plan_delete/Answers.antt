use Rattle.std.proofs.Common.{ℕ, List, true, sym, ◌∙◌, ap}
use Rattle.std.specs.Prelude.{option_map}
use Rattle.db_model.specs.Refusals.{locked}
use Rattle.db_model.specs.Views.{table_found}
use Rattle.statement_plan.proofs.Marked.{delete_behind, delete_planned, pair}
use Rattle.statement_plan.proofs.changing.plan_delete.Goals as goal

pub returns-in-Some-clause-refused : goal.returns-in-Some-clause-refused
returns-in-Some-clause-refused c =
    delete_behind c.args.frame.now c.args.delete.now c.found-found.result c.in-Ok.bound
    (c.found-found.ensures ∙ ap (λ (n : List ℕ). option_map pair (table_found n c.args.frame.now.database.tables)) c.as_slice-name.ensures) c.in-Ok.ensures.bound
    ∙ sym (ap (λ (n : List ℕ). locked c.args.frame.now n true) c.as_slice-name.ensures) ∙ sym c.locked.ensures ∙ c.in-Some.is

pub returns-in-None-clause-planned : goal.returns-in-None-clause-planned
returns-in-None-clause-planned c =
    delete_planned c.args.frame.now c.args.delete.now c.found-found.result c.in-Ok.bound c.place_of.result
    (c.found-found.ensures ∙ ap (λ (n : List ℕ). option_map pair (table_found n c.args.frame.now.database.tables)) c.as_slice-name.ensures) c.in-Ok.ensures.bound
    (sym (ap (λ (n : List ℕ). locked c.args.frame.now n true) c.as_slice-name.ensures) ∙ sym c.locked.ensures ∙ c.in-None.is) c.place_of.ensures
