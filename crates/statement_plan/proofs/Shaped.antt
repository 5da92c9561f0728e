-- Why a new projection is refused: the limit on a table's projections comes before that on the name.
use Rattle.std.proofs.Common.{◌≡◌, ℕ, List, Bool, true, false, cond, length, refl, sym, ◌∙◌, ap, subst}
use Rattle.std.specs.Prelude.{Option, Some, None, option_map, option_and_then, nat_lt, IfErr, Result, Ok, Err}
use Rattle.std.specs.Option.{option_map_or}
use Rattle.std.proofs.lemmas.Option.{same_Some}
use Rattle.col_value.specs.declared.column.Column.{Column}
use Rattle.col_value.specs.declared.kinds.Encoding.{Encoding}
use Rattle.sql_tree.specs.declared.refusal.Refusal.{Refusal}
use Rattle.sql_tree.specs.declared.refusal.Which.{Which}
use Rattle.sql_tree.specs.declared.statement.NewProjection.{NewProjection}
use Rattle.sql_tree.specs.declared.statement.Statement.{Statement}
use Rattle.sql_binding.specs.Firsts.{first_of, refused_where}
use Rattle.sql_binding.specs.Projections.{bad_encoding, bound_projection, is_bad_projection, name_limit, projection_form_over, projection_form_refusal, projection_name_refusal, projection_refusal}
use Rattle.name_binder.specs.declared.fault.BindFault.{BindFault}
use Rattle.name_binder.specs.Refusing.{RefusesBy}
use Rattle.change_binder.specs.Answers.{IsBoundProjection}
use Rattle.change_binder.specs.declared.projections.ProjectionShape.{ProjectionShape}
use Rattle.db_model.specs.Database.{Table}
use Rattle.db_model.specs.State.{State}
use Rattle.db_model.specs.Numbers.{spent_refusal}
use Rattle.db_model.specs.Refusing.{if_taken}
use Rattle.db_model.specs.Refusals.{projection_created_refusal, projection_refusal_over, projections_limit}
use Rattle.db_model.specs.Views.{table_found}
use Rattle.statement_plan.specs.Places.{placed_projection}
use Rattle.statement_plan.specs.Planned.{IsPlanned}
use Rattle.statement_plan.specs.Projecting.{before_limits, is_limit, refusal_behind_names, refusal_on}
use Rattle.statement_plan.specs.declared.plans.Plan.{Plan}
use Rattle.statement_plan.proofs.Sources.{first_none, second_none}

-- what a projection is refused for is no limit
no_limit : (wrong : Bool) (name : List ℕ) (bad : Option (List ℕ)) (r : Refusal)
    → first_of (refused_where wrong (Refusal.BadProjection name)) (option_map Refusal.BadEncoding bad) ≡ Some r → is_limit r ≡ false
no_limit true name bad r is = subst (λ (told : Refusal). is_limit told ≡ false) (same_Some (Refusal.BadProjection name) r is) refl
no_limit false name (Some column) r is = subst (λ (told : Refusal). is_limit told ≡ false) (same_Some (Refusal.BadEncoding column) r is) refl
no_limit false name None r is = absurd (cc)

a_limit : (long : Bool) (r : Refusal) → refused_where long (Refusal.Limit Which.Name 120) ≡ Some r → is_limit r ≡ true
a_limit true r is = subst (λ (told : Refusal). is_limit told ≡ true) (same_Some (Refusal.Limit Which.Name 120) r is) refl
a_limit false r is = absurd (cc)

kept_first : (r : Refusal) (limit : Option Refusal) → is_limit r ≡ false → before_limits r limit ≡ r
kept_first r limit is = ap (λ (b : Bool). cond b (option_map_or (λ (l : Refusal). l) limit r) r) is

put_behind : (r : Refusal) (limit : Option Refusal) → is_limit r ≡ true → before_limits r limit ≡ option_map_or (λ (l : Refusal). l) limit r
put_behind r limit is = ap (λ (b : Bool). cond b (option_map_or (λ (l : Refusal). l) limit r) r) is

limit_first : (limit : Option Refusal) (r : Refusal) → first_of limit (Some r) ≡ Some (option_map_or (λ (l : Refusal). l) limit r)
limit_first None r = refl
limit_first (Some l) r = refl

ordered_by : (form limit name : Option Refusal) (r : Refusal)
    → ((x : Refusal) → form ≡ Some x → is_limit x ≡ false) → ((x : Refusal) → name ≡ Some x → is_limit x ≡ true)
    → first_of form name ≡ Some r → first_of form (first_of limit name) ≡ Some (before_limits r limit)
ordered_by (Some x) limit name r before behind is =
    is ∙ ap (λ (told : Refusal). Some told) (sym (kept_first r limit (before r is)))
ordered_by None limit (Some x) r before behind is =
    ap (λ (told : Option Refusal). first_of limit told) is
    ∙ limit_first limit r ∙ ap (λ (told : Refusal). Some told) (sym (put_behind r limit (behind r is)))
ordered_by None limit None r before behind is = absurd (cc)

-- a projection that is refused for what it is
pub ordered_form : (p : NewProjection) (t : Table) (columns : List Column) (limit : Option Refusal) (r : Refusal) → columns ≡ t.columns → limit ≡ projections_limit t
    → projection_form_over (Some columns) p ≡ Some r → projection_refusal_over p t ≡ Some (before_limits r limit)
ordered_form p t columns limit r those is told =
    ap (λ (o : Option Refusal). first_of (projection_form_refusal t.columns p) (first_of o (name_limit p.name))) (sym is)
    ∙ ordered_by (projection_form_refusal t.columns p) limit (name_limit p.name) r
    (no_limit (is_bad_projection p) p.name (bad_encoding t.columns p)) (a_limit (nat_lt 120 (length p.name)))
    (sym (ap (λ (cs : List Column). projection_form_over (Some cs) p) those) ∙ told)

-- one that isn't is refused for the limit on projections alone
form_free : (form limit name : Option Refusal) → first_of form name ≡ None → first_of form (first_of limit name) ≡ limit
form_free (Some x) limit name is = absurd (cc)
form_free None (Some l) name is = refl
form_free None None name is = is

pub limit_alone : (p : NewProjection) (t : Table) → projection_form_over (Some t.columns) p ≡ None → projection_refusal_over p t ≡ projections_limit t
limit_alone p t is = form_free (projection_form_refusal t.columns p) (projections_limit t) (name_limit p.name) is

-- a projection that isn't refused is bound
skipped : (form limit name : Option Refusal) → first_of form (first_of limit name) ≡ None → first_of form name ≡ None
skipped (Some x) limit name is = is
skipped None limit name is = second_none limit name is

pub not_refused : (state : State) (p : NewProjection) (t : Table) → projection_name_refusal (Some t.columns) p ≡ None → refusal_behind_names state p t ≡ None
    → projection_refusal (Some t.columns) p ≡ None
not_refused state p t names behind =
    ap (λ (o : Option Refusal). first_of o (projection_form_over (Some t.columns) p)) names
    ∙ skipped (projection_form_refusal t.columns p) (projections_limit t) (name_limit p.name)
    (first_none (projection_refusal_over p t) (spent_refusal state)
    (second_none (option_map Refusal.Exists (if_taken state.database.tables p.name)) (first_of (projection_refusal_over p t) (spent_refusal state)) behind))

none_left : (before : Option Refusal) (why : Option Refusal) (fault : BindFault) → before ≡ None → RefusesBy before fault → RefusesBy why fault
none_left before why (BindFault.Refused r) none is = absurd (cc)
none_left before why BindFault.Memory none is = tt

told_nothing : (before why : Option Refusal) (result : Result ProjectionShape BindFault) → before ≡ None → IfErr result (RefusesBy before) → IfErr result (RefusesBy why)
told_nothing before why (Ok s) none is = tt
told_nothing before why (Err fault) none is = none_left before why fault none is

pub never_refused : (state : State) (p : NewProjection) (t : Table) (columns : List Column) (result : Result ProjectionShape BindFault) → columns ≡ t.columns
    → projection_name_refusal (Some columns) p ≡ None → refusal_behind_names state p t ≡ None
    → IfErr result (RefusesBy (projection_refusal (Some columns) p)) → IfErr result (RefusesBy (refusal_on state p t))
never_refused state p t columns result those names behind is =
    told_nothing (projection_refusal (Some columns) p) (refusal_on state p t) result
    (ap (λ (cs : List Column). projection_refusal (Some cs) p) those
    ∙ not_refused state p t (sym (ap (λ (cs : List Column). projection_name_refusal (Some cs) p) those) ∙ names) behind)
    is

pub shape_is : (state : State) (p : NewProjection) (t : Table) (s : ProjectionShape) → projection_name_refusal (Some t.columns) p ≡ None → refusal_behind_names state p t ≡ None
    → IsBoundProjection (Some t.columns) p s → (bound_projection t.columns p ≡ (s.columns, s.sort)) × (refusal_on state p t ≡ None)
shape_is state p t s names behind bound = (
  same_Some (bound_projection t.columns p) (s.columns, s.sort) bound.shape,
  ap (λ (o : Option Refusal). first_of o (refusal_behind_names state p t)) names ∙ behind,
)

-- over the tables of a state
pub created_is : (state : State) (p : NewProjection) (found : Option (ℕ × Table)) (e : ℕ × Table)
    → found ≡ table_found p.table state.database.tables → found ≡ Some e → projection_created_refusal state p ≡ refusal_on state p e.1
created_is state p found e is some =
    ap (λ (o : Option (ℕ × Table)). over o) (sym is ∙ some)
  where
    over : Option (ℕ × Table) → Option Refusal
    over o = first_of (projection_name_refusal (option_map (λ (e : ℕ × Table). e.1.columns) o) p)
        (first_of (option_map Refusal.Exists (if_taken state.database.tables p.name))
        (first_of (option_and_then (λ (e : ℕ × Table). projection_refusal_over p e.1) o) (spent_refusal state)))

pub created_nowhere : (state : State) (p : NewProjection) (found : Option (ℕ × Table))
    → found ≡ table_found p.table state.database.tables → found ≡ None → projection_created_refusal state p ≡ Some (Refusal.UnknownTable p.table)
created_nowhere state p found is none =
    ap (λ (o : Option (ℕ × Table)). over o) (sym is ∙ none)
  where
    over : Option (ℕ × Table) → Option Refusal
    over o = first_of (projection_name_refusal (option_map (λ (e : ℕ × Table). e.1.columns) o) p)
        (first_of (option_map Refusal.Exists (if_taken state.database.tables p.name))
        (first_of (option_and_then (λ (e : ℕ × Table). projection_refusal_over p e.1) o) (spent_refusal state)))

pub created_planned : (state : State) (p : NewProjection) (found : Option (ℕ × Table)) (e : ℕ × Table) (s : ProjectionShape) (place : ℕ)
    → found ≡ table_found p.table state.database.tables → found ≡ Some e → place ≡ e.0
    → (bound_projection e.1.columns p ≡ (s.columns, s.sort)) × (refusal_on state p e.1 ≡ None)
    → IsPlanned state (Statement.CreateProjection p) (Plan.CreateProjection place s)
created_planned state p found e s place is some at bound = record {
  accepted = created_is state p found e is some ∙ bound.1;
  of = ap (λ (o : Option (ℕ × Table)). option_map (placed_projection p) o) (sym is ∙ some)
      ∙ ap (λ (n : ℕ). Some (n, bound_projection e.1.columns p)) (sym at)
      ∙ ap (λ (b : List (ℕ × Encoding) × List ℕ). Some (place, b)) bound.0;
}
