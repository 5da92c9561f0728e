use Rattle.std.proofs.Common.{◌≡◌, ℕ, List, true, rules, sym, ◌∙◌, ap, subst}
use Rattle.std.specs.Prelude.{Option, None, option_map}
use Rattle.sql_tree.specs.declared.refusal.Refusal.{Refusal}
use Rattle.db_model.specs.Database.{Shape}
use Rattle.db_model.specs.Numbers.{spent_refusal}
use Rattle.db_model.specs.Refusals.{is_last_super}
use Rattle.name_binder.specs.Refusing.{RefusesBy}
use Rattle.statement_plan.specs.Places.{owner_found, shape_found}
use Rattle.statement_plan.proofs.Owners.{drop_planned, dropped_is}
use Rattle.statement_plan.proofs.dropping.plan_projection_drop.Goals as goal

pub returns-then-is_last_super-clause-refused : goal.returns-then-is_last_super-clause-refused
returns-then-is_last_super-clause-refused c =
    subst (λ (why : Option Refusal). RefusesBy why c.last_super.result)
    (sym (dropped_is c.args.frame.now c.args.name.now c.owner.result c.in-Some.owner true
    (c.owner.ensures ∙ ap (λ (n : List ℕ). owner_found n c.args.frame.now.database.tables) c.as_slice.ensures) c.in-Some.is
    (sym c.if-is_last_super.true ∙ c.is_last_super.ensures ∙ ap (λ (n : List ℕ). is_last_super n c.in-Some.owner.1) c.as_slice-2.ensures)))
    c.last_super.ensures

pub returns-in-Some-spent-clause-refused : goal.returns-in-Some-spent-clause-refused
returns-in-Some-spent-clause-refused c =
    dropped_is c.args.frame.now c.args.name.now c.owner.result c.in-Some.owner c.is_last_super.result
    (c.owner.ensures ∙ ap (λ (n : List ℕ). owner_found n c.args.frame.now.database.tables) c.as_slice.ensures) c.in-Some.is
    (c.is_last_super.ensures ∙ ap (λ (n : List ℕ). is_last_super n c.in-Some.owner.1) c.as_slice-2.ensures)
    ∙ rw c.if-is_last_super.false (sym c.spent.ensures ∙ c.in-Some-spent.is)

pub returns-clause-planned : goal.returns-clause-planned
returns-clause-planned c =
    let left : spent_refusal c.args.frame.now ≡ None = search rules in
    drop_planned c.args.frame.now c.args.name.now c.owner.result c.in-Some.owner c.place.result c.in-Some-projection.place
    (c.owner.ensures ∙ ap (λ (n : List ℕ). owner_found n c.args.frame.now.database.tables) c.as_slice.ensures) c.in-Some.is
    (sym (c.is_last_super.ensures ∙ ap (λ (n : List ℕ). is_last_super n c.in-Some.owner.1) c.as_slice-2.ensures) ∙ c.if-is_last_super.false) left
    (sym (ap (λ (n : List ℕ). option_map (λ (s : ℕ × Shape). s.0) (shape_found n c.in-Some.owner.1)) c.as_slice-3.ensures) ∙ sym c.projection.ensures ∙ c.in-Some-projection.is)
    c.place.ensures
