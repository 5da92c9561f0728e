-- What DELETE and UPDATE were bound to, over the tables of a state.
use Rattle.std.proofs.Common.{◌≡◌, ℕ, List, [], ◌∷◌, Bool, true, false, cond, refl, sym, ◌∙◌, ap, ap₂, subst}
use Rattle.std.specs.Prelude.{Option, Some, None, option_map, not}
use Rattle.std.specs.List.{All, list_all}
use Rattle.std.specs.Option.{option_map_or}
use Rattle.std.proofs.lemmas.Bool.{and_parts}
use Rattle.std.proofs.lemmas.Option.{same_Some}
use Rattle.col_value.specs.declared.column.Column.{Column}
use Rattle.sql_tree.specs.declared.query.Query.{Query}
use Rattle.sql_tree.specs.declared.refusal.Refusal.{Refusal}
use Rattle.sql_tree.specs.declared.statement.Delete.{Delete}
use Rattle.sql_tree.specs.declared.statement.Update.{Update}
use Rattle.sql_tree.specs.declared.statement.Statement.{Statement}
use Rattle.sql_bound.specs.declared.expr.Expr.{Expr}
use Rattle.sql_bound.specs.declared.query.Assigned.{Assigned}
use Rattle.sql_bound.specs.declared.query.BoundQuery.{BoundQuery}
use Rattle.sql_bound.specs.Bounds.{is_narrow}
use Rattle.sql_binding.specs.Firsts.{first_of, refused_where}
use Rattle.sql_binding.specs.Sight.{Seen}
use Rattle.sql_binding.specs.Uses.{is_grouped}
use Rattle.sql_binding.specs.Queries.{bound_query, is_narrow_query, over_groups, over_rows, row_kinds}
use Rattle.sql_binding.specs.Queries as binding
use Rattle.sql_binding.specs.Changes.{bound_delete, bound_update, delete_query, delete_refusal, is_narrow_update, is_typed_update, update_name_refusal, update_query, update_refusal, update_sight, update_tree_refusal}
use Rattle.name_binder.specs.declared.fault.BindFault.{BindFault}
use Rattle.name_binder.specs.Refusing.{RefusesBy}
use Rattle.change_binder.specs.Answers.{IsBoundDelete, IsBoundUpdate, columns_in, parts_of_update}
use Rattle.change_binder.specs.declared.updates.BoundUpdate.{BoundUpdate}
use Rattle.query_laws.specs.Bounded.{IsBoundedQuery}
use Rattle.db_model.specs.Database.{Table}
use Rattle.db_model.specs.State.{State}
use Rattle.db_model.specs.Refusals.{locked, rows_deleted_refusal}
use Rattle.db_model.specs.Views.{columns_found, table_found}
use Rattle.statement_plan.specs.Places.{IsDeleteOf, IsUpdateOf, placed_delete, placed_update}
use Rattle.statement_plan.specs.Planned.{early_refusal, IsPlanned}
use Rattle.statement_plan.specs.declared.plans.Plan.{Plan}
use Rattle.statement_plan.proofs.Sources.{bounded_by, bounded_over, each_passes, one_column, same_bounds, second_none, unrefused}

abbrev pub pair : ℕ × Table → ℕ × List Column
pair e = (e.0, e.1.columns)

-- a tree that was bound over a table that was found, with the table's place
abbrev pub at_place : {X : Type 0} → (ℕ × List Column → X) → ℕ × Table → ℕ × X
at_place f e = (e.0, f (pair e))

pub placed : {X : Type 0} (f : ℕ × List Column → X) (o : Option (ℕ × Table)) (found : Option (ℕ × List Column)) (x : X) (place : ℕ)
    → found ≡ option_map pair o → option_map f found ≡ Some x → place ≡ option_map_or (λ (t : ℕ × List Column). t.0) found 0
    → option_map (at_place f) o ≡ Some (place, x)
placed {X} f None found x place is bound at =
    let none : option_map f found ≡ None = ap (λ (g : Option (ℕ × List Column)). option_map f g) is in
    absurd (cc)
placed {X} f (Some e) found x place is bound at =
    let one : f (pair e) ≡ x = same_Some (f (pair e)) x (sym (ap (λ (g : Option (ℕ × List Column)). option_map f g) is) ∙ bound) in
    let here : place ≡ e.0 = at ∙ ap (λ (g : Option (ℕ × List Column)). option_map_or (λ (t : ℕ × List Column). t.0) g 0) is in
    ap₂ (λ (n : ℕ) (y : X). Some (n, y)) (sym here) one

columns_are : (tables : List Table) (name : List ℕ) (found : Option (ℕ × List Column)) → found ≡ option_map pair (table_found name tables)
    → columns_in found ≡ columns_found tables name
columns_are tables name found is =
    ap (λ (g : Option (ℕ × List Column)). option_map (λ (t : ℕ × List Column). t.1) g) is ∙ one_column (table_found name tables)

first_refused : (a b : Option Refusal) (fault : BindFault) → RefusesBy a fault → RefusesBy (first_of a b) fault
first_refused a b (BindFault.Refused r) is = ap (λ (o : Option Refusal). first_of o b) is
first_refused a b BindFault.Memory is = tt

-- a DELETE
delete_refusal_is : (state : State) (d : Delete) (found : Option (ℕ × List Column)) → found ≡ option_map pair (table_found d.table state.database.tables)
    → rows_deleted_refusal state d ≡ first_of (delete_refusal (columns_in found) d) (locked state d.table true)
delete_refusal_is state d found is =
    ap (λ (o : Option (List Column)). first_of (delete_refusal o d) (locked state d.table true)) (sym (columns_are state.database.tables d.table found is))

pub delete_unbound : (state : State) (d : Delete) (found : Option (ℕ × List Column)) (fault : BindFault)
    → found ≡ option_map pair (table_found d.table state.database.tables) → RefusesBy (delete_refusal (columns_in found) d) fault
    → RefusesBy (rows_deleted_refusal state d) fault
delete_unbound state d found fault is told =
    subst (λ (why : Option Refusal). RefusesBy why fault) (sym (delete_refusal_is state d found is))
    (first_refused (delete_refusal (columns_in found) d) (locked state d.table true) fault told)

pub delete_behind : (state : State) (d : Delete) (found : Option (ℕ × List Column)) (b : BoundQuery)
    → found ≡ option_map pair (table_found d.table state.database.tables) → IsBoundDelete found d b → rows_deleted_refusal state d ≡ locked state d.table true
delete_behind state d found b is bound =
    delete_refusal_is state d found is ∙ ap (λ (o : Option Refusal). first_of o (locked state d.table true)) bound.accepted

delete_bounded : (d : Delete) (found : Option (ℕ × List Column)) (b : BoundQuery)
    → delete_refusal (columns_in found) d ≡ None → option_map (λ (t : ℕ × List Column). bound_delete t.0 t.1 d) found ≡ Some b → IsBoundedQuery b
delete_bounded d None b accepted bound = absurd (cc)
delete_bounded d (Some (n, cs)) b accepted bound =
    subst (λ (c : BoundQuery). IsBoundedQuery c) (same_Some (bound_delete n cs d) b bound)
    (bounded_over (Some (n, cs) ∷ []) ((n, cs) ∷ []) (delete_query d) refl accepted)

pub delete_planned : (state : State) (d : Delete) (found : Option (ℕ × List Column)) (b : BoundQuery) (place : ℕ)
    → found ≡ option_map pair (table_found d.table state.database.tables) → IsBoundDelete found d b → locked state d.table true ≡ None
    → place ≡ option_map_or (λ (t : ℕ × List Column). t.0) found 0 → IsPlanned state (Statement.Delete d) (Plan.Delete place b)
delete_planned state d found b place is bound free at = record {
  accepted = delete_behind state d found b is bound ∙ free;
  of = made state d place b
      (placed (λ (t : ℕ × List Column). bound_delete t.0 t.1 d) (table_found d.table state.database.tables) found b place is bound.bound at)
      (delete_bounded d found b bound.accepted bound.bound);
}
  where
    made : (state : State) (d : Delete) (place : ℕ) (b : BoundQuery)
        → option_map (placed_delete d) (table_found d.table state.database.tables) ≡ Some (place, b)
        → IsBoundedQuery b → IsDeleteOf state d place b
    made state d place b tree bounded = record { tree = tree; bounded = bounded }

-- an UPDATE
pub update_refusal_is : (state : State) (u : Update) (found : Option (ℕ × List Column)) → found ≡ option_map pair (table_found u.table state.database.tables)
    → early_refusal state (Statement.Update u) ≡ update_refusal (columns_in found) u
update_refusal_is state u found is =
    ap (λ (o : Option (List Column)). update_refusal o u) (sym (columns_are state.database.tables u.table found is))

pub update_unbound : (state : State) (u : Update) (found : Option (ℕ × List Column)) (fault : BindFault)
    → found ≡ option_map pair (table_found u.table state.database.tables) → RefusesBy (update_refusal (columns_in found) u) fault
    → RefusesBy (early_refusal state (Statement.Update u)) fault
update_unbound state u found fault is told =
    subst (λ (why : Option Refusal). RefusesBy why fault) (sym (update_refusal_is state u found is)) told

-- the bounds are the same wherever the table stands
same_narrow : (here there : List (ℕ × List Column)) (seen : List Seen) (q : Query)
    → is_narrow_query (binding.bound_in here seen q) ≡ is_narrow_query (binding.bound_in there seen q)
same_narrow here there seen q = by (is_grouped q)
  where
    by : (so : Bool) → is_narrow_query (cond so (over_groups here seen q) (over_rows here seen q)) ≡ is_narrow_query (cond so (over_groups there seen q) (over_rows there seen q))
    by true = refl
    by false = refl

narrow_update : (columns : List Column) (u : Update) → update_refusal (Some columns) u ≡ None → is_narrow_update (bound_update 0 columns u) ≡ true
narrow_update columns u accepted =
    unrefused (is_narrow_update (bound_update 0 columns u)) Refusal.TooWide
    (second_none (refused_where (not (is_typed_update (row_kinds (update_sight columns u)) (bound_update 0 columns u))) Refusal.TypeMismatch)
    (refused_where (not (is_narrow_update (bound_update 0 columns u))) Refusal.TooWide)
    (second_none (update_name_refusal columns u) (update_tree_refusal (row_kinds (update_sight columns u)) (bound_update 0 columns u)) accepted))

pub record Narrow (b : BoundQuery × Assigned) : Type 0 where
  pub rows : IsBoundedQuery b.0
  pub settings : All (λ (s : ℕ × Expr). is_narrow [] s.1 ≡ true) b.1.columns

update_over : (u : Update) (n : ℕ) (columns : List Column) → update_refusal (Some columns) u ≡ None → Narrow (bound_update n columns u)
update_over u n columns accepted =
    let parts = and_parts (list_all (λ (s : ℕ × Expr). is_narrow [] s.1) (bound_update 0 columns u).1.columns) (is_narrow_query (bound_update 0 columns u).0)
    (narrow_update columns u accepted) in
    made u n columns
    (bounded_by (bound_query ((n, columns) ∷ []) (update_query u)) (same_bounds ((n, columns) ∷ []) (update_query u))
    (same_narrow ((n, columns) ∷ []) ((0, columns) ∷ []) (update_sight columns u) (update_query u) ∙ parts.1))
    (each_passes (λ (s : ℕ × Expr). is_narrow [] s.1) (bound_update 0 columns u).1.columns parts.0)
  where
    made : (u : Update) (n : ℕ) (columns : List Column) → IsBoundedQuery (bound_update n columns u).0
        → All (λ (s : ℕ × Expr). is_narrow [] s.1 ≡ true) (bound_update n columns u).1.columns → Narrow (bound_update n columns u)
    made u n columns rows settings = record { rows = rows; settings = settings }

update_bounded : (u : Update) (found : Option (ℕ × List Column)) (b : BoundQuery × Assigned)
    → update_refusal (columns_in found) u ≡ None → option_map (λ (t : ℕ × List Column). bound_update t.0 t.1 u) found ≡ Some b → Narrow b
update_bounded u None b accepted bound = absurd (cc)
update_bounded u (Some (n, columns)) b accepted bound =
    subst (λ (c : BoundQuery × Assigned). Narrow c) (same_Some (bound_update n columns u) b bound) (update_over u n columns accepted)

pub update_planned : (state : State) (u : Update) (found : Option (ℕ × List Column)) (b : BoundUpdate) (place : ℕ)
    → found ≡ option_map pair (table_found u.table state.database.tables) → IsBoundUpdate found u b
    → place ≡ option_map_or (λ (t : ℕ × List Column). t.0) found 0 → IsPlanned state (Statement.Update u) (Plan.Update place b)
update_planned state u found b place is bound at = record {
  accepted = update_refusal_is state u found is ∙ bound.accepted;
  of = made state u place b
      (placed (λ (t : ℕ × List Column). bound_update t.0 t.1 u) (table_found u.table state.database.tables) found (parts_of_update b) place is bound.bound at)
      (update_bounded u found (parts_of_update b) bound.accepted bound.bound);
}
  where
    made : (state : State) (u : Update) (place : ℕ) (b : BoundUpdate)
        → option_map (placed_update u) (table_found u.table state.database.tables) ≡ Some (place, parts_of_update b)
        → Narrow (parts_of_update b) → IsUpdateOf state u place b
    made state u place b trees narrow = record { trees = trees; rows = narrow.rows; settings = narrow.settings }
