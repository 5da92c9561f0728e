-- A plan over a state without its rows is one over the state.
use Rattle.std.proofs.Common.{◌≡◌, ℕ, ◌+◌, List, [], ◌∷◌, refl, sym, ◌∙◌, ap}
use Rattle.std.specs.Prelude.{Option, Some, None, option_map, option_and_then, find, bytes_eq}
use Rattle.std.specs.List.{AllZip, enumerate_from, list_any}
use Rattle.col_value.specs.declared.column.Column.{Column}
use Rattle.sql_tree.specs.declared.statement.Statement.{Statement}
use Rattle.sql_binding.specs.Changes.{bound_delete, bound_update}
use Rattle.sql_binding.specs.Projections.{bound_projection}
use Rattle.db_model.specs.Database.{Shape, Table}
use Rattle.db_model.specs.State.{State}
use Rattle.db_model.specs.Views.{table_found}
use Rattle.statement_plan.specs.Bare.{IsBare, IsBareTable}
use Rattle.statement_plan.specs.Places.{has_projection, places_in, projection_places, table_place}
use Rattle.statement_plan.specs.Planned.{IsCallOn, IsPlanned, IsPlanOf}
use Rattle.sql_tree.specs.declared.statement.Function.{Function}
use Rattle.statement_plan.specs.declared.plans.Plan.{Plan}
use Rattle.statement_plan.proofs.Alike.{early_same, found_same, one_said, pair, tree_same}
use Rattle.statement_plan.proofs.Marked.{at_place}
use Rattle.statement_plan.proofs.Owners.{placed_at}

-- where tables and projections stand
place_by : (o : Option (ℕ × Table)) → option_map (λ (e : ℕ × Table). e.0) o ≡ option_map (λ (p : ℕ × List Column). p.0) (option_map pair o)
place_by None = refl
place_by (Some e) = refl

place_same : (name : List ℕ) (bs ts : List Table) → AllZip IsBareTable bs ts → table_place name bs ≡ table_place name ts
place_same name bs ts z =
    place_by (table_found name bs) ∙ ap (λ (o : Option (ℕ × List Column)). option_map (λ (p : ℕ × List Column). p.0) o) (found_same name bs ts z) ∙ sym (place_by (table_found name ts))

-- what is bound over a table by its place and its columns
abbrev with_place : {X : Type 0} → (ℕ × List Column → X) → ℕ × List Column → ℕ × X
with_place f p = (p.0, f p)

bound_by : {X : Type 0} (f : ℕ × List Column → X) (o : Option (ℕ × Table)) → option_map (at_place f) o ≡ option_map (with_place f) (option_map pair o)
bound_by f None = refl
bound_by f (Some e) = refl

bound_same : {X : Type 0} (f : ℕ × List Column → X) (name : List ℕ) (bs ts : List Table) → AllZip IsBareTable bs ts
    → option_map (at_place f) (table_found name bs) ≡ option_map (at_place f) (table_found name ts)
bound_same f name bs ts z =
    bound_by f (table_found name bs)
    ∙ ap (λ (o : Option (ℕ × List Column)). option_map (with_place f) o) (found_same name bs ts z)
    ∙ sym (bound_by f (table_found name ts))

owned_from : {X : Type 0} (f : ℕ × Table → Option X) → ((n : ℕ) (b t : Table) → IsBareTable b t → f (n, b) ≡ f (n, t))
    → (name : List ℕ) (n : ℕ) (bs ts : List Table) → AllZip IsBareTable bs ts
    → option_and_then f (find (λ (e : ℕ × Table). has_projection name e.1) (enumerate_from n bs))
    ≡ option_and_then f (find (λ (e : ℕ × Table). has_projection name e.1) (enumerate_from n ts))
unfolding has_projection
owned_from f each name n [] [] z = refl
owned_from f each name n [] (t ∷ ts) z = absurd z
owned_from f each name n (b ∷ bs) [] z = absurd z
owned_from f each name n (b ∷ bs) (t ∷ ts) z =
    one_said f (has_projection name b) (has_projection name t) n b t (find (λ (e : ℕ × Table). has_projection name e.1) (enumerate_from (n + 1) bs))
    (find (λ (e : ℕ × Table). has_projection name e.1) (enumerate_from (n + 1) ts))
    (ap (λ (ss : List Shape). list_any (λ (s : Shape). bytes_eq s.name name) ss) z.0.shapes) (each n b t z.0) (owned_from f each name (n + 1) bs ts z.1)

shapes_same : (name : List ℕ) (n : ℕ) (b t : Table) → IsBareTable b t → places_in name (n, b) ≡ places_in name (n, t)
shapes_same name n b t is =
    ap (λ (ss : List Shape). option_map (placed_at n) (find (λ (e : ℕ × Shape). bytes_eq e.1.name name) (enumerate_from 0 ss))) is.shapes

places_same : (name : List ℕ) (bs ts : List Table) → AllZip IsBareTable bs ts → projection_places name bs ≡ projection_places name ts
places_same name bs ts z = owned_from (places_in name) (shapes_same name) name 0 bs ts z

call_on_same : (bare state : State) (f : Function) (place : ℕ) → IsBare bare state → IsCallOn bare f place → IsCallOn state f place
call_on_same bare state (Function.Purge table) place is of = sym (place_same table bare.database.tables state.database.tables is.tables) ∙ of
call_on_same bare state (Function.Refresh table) place is of = sym (place_same table bare.database.tables state.database.tables is.tables) ∙ of
call_on_same bare state f place is of = absurd of

-- a plan over the one state is one over the other
plan_same : (bare state : State) (s : Statement) (plan : Plan) → IsBare bare state → IsPlanOf bare s plan → IsPlanOf state s plan
plan_same bare state (Statement.CreateTable name columns) Plan.CreateTable is of = of
plan_same bare state (Statement.CreateProjection p) (Plan.CreateProjection place shape) is of =
    sym (bound_same (λ (t : ℕ × List Column). bound_projection t.1 p) p.table bare.database.tables state.database.tables is.tables) ∙ of
plan_same bare state (Statement.DropTable name) (Plan.DropTable place) is of = sym (place_same name bare.database.tables state.database.tables is.tables) ∙ of
plan_same bare state (Statement.DropProjection name) (Plan.DropProjection table place) is of = sym (places_same name bare.database.tables state.database.tables is.tables) ∙ of
plan_same bare state (Statement.Insert i) (Plan.Insert rows) is of = of
plan_same bare state (Statement.Delete d) (Plan.Delete place b) is of = record {
  tree = sym (bound_same (λ (t : ℕ × List Column). bound_delete t.0 t.1 d) d.table bare.database.tables state.database.tables is.tables) ∙ of.tree;
  bounded = of.bounded;
}
plan_same bare state (Statement.Update u) (Plan.Update place b) is of = record {
  trees = sym (bound_same (λ (t : ℕ × List Column). bound_update t.0 t.1 u) u.table bare.database.tables state.database.tables is.tables) ∙ of.trees;
  rows = of.rows;
  settings = of.settings;
}
plan_same bare state (Statement.Copy table file) (Plan.Copy place) is of = sym (place_same table bare.database.tables state.database.tables is.tables) ∙ of
plan_same bare state (Statement.AddColumn a) (Plan.AddColumn place default) is (at, value, fits) =
    (sym (place_same a.table bare.database.tables state.database.tables is.tables) ∙ at, value, fits)
plan_same bare state Statement.Commit Plan.Commit is of = of
plan_same bare state Statement.Rollback Plan.Rollback is of = of
plan_same bare state (Statement.Select at q) (Plan.Select b) is of = record { tree = of.tree ∙ tree_same bare state q is; bounded = of.bounded }
plan_same bare state (Statement.Explain q) (Plan.Explain b) is of = record { tree = of.tree ∙ tree_same bare state q is; bounded = of.bounded }
plan_same bare state (Statement.Call f) Plan.Call is of = of
plan_same bare state (Statement.Call f) (Plan.CallOn place) is of = call_on_same bare state f place is of
plan_same bare state (Statement.Session n) (Plan.Session m) is of = of
plan_same bare state Statement.Step Plan.Step is of = of
plan_same bare state s plan is of = absurd of

pub planned_same : (bare state : State) (s : Statement) (plan : Plan) → IsBare bare state → IsPlanned bare s plan → IsPlanned state s plan
planned_same bare state s plan is planned = record {
  accepted = sym (early_same bare state s is) ∙ planned.accepted;
  of = plan_same bare state s plan is planned.of;
}
