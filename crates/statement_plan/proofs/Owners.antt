-- The table that has the projection of a name, and why the projection can't be dropped.
use Rattle.std.proofs.Common.{◌≡◌, ℕ, ◌+◌, List, [], ◌∷◌, ◌||◌, Bool, true, false, cond, not, filter, refl, sym, ◌∙◌, ap, subst}
use Rattle.std.specs.Prelude.{Option, Some, None, option_map, option_and_then, find, bytes_eq, ◌&&◌}
use Rattle.std.specs.List.{enumerate_from, list_all, list_any}
use Rattle.std.proofs.lemmas.Option.{same_Some}
use Rattle.sql_tree.specs.declared.refusal.Refusal.{Refusal}
use Rattle.sql_tree.specs.declared.statement.Statement.{Statement}
use Rattle.sql_binding.specs.Firsts.{first_of, refused_where}
use Rattle.db_model.specs.Database.{Shape, Table, is_super}
use Rattle.db_model.specs.State.{State}
use Rattle.db_model.specs.Numbers.{spent_refusal}
use Rattle.db_model.specs.Refusals.{is_last_super, last_super_refusal, owner, projection_dropped_refusal}
use Rattle.statement_plan.specs.Planned.{IsPlanned}
use Rattle.statement_plan.specs.declared.plans.Plan.{Plan}
use Rattle.statement_plan.specs.Places.{has_projection, other_super, owner_found, places_in, projection_places, shape_found}

-- the owner is the table that was found with its place
one_owner : (b : Bool) (n : ℕ) (t : Table) (o : Option Table) (p : Option (ℕ × Table)) → o ≡ option_map (λ (e : ℕ × Table). e.1) p
    → cond b (Some t) o ≡ option_map (λ (e : ℕ × Table). e.1) (cond b (Some (n, t)) p)
one_owner true n t o p is = refl
one_owner false n t o p is = is

owner_from : (name : List ℕ) (n : ℕ) (ts : List Table)
    → owner name ts ≡ option_map (λ (e : ℕ × Table). e.1) (find (λ (e : ℕ × Table). has_projection name e.1) (enumerate_from n ts))
unfolding has_projection
owner_from name n [] = refl
owner_from name n (t ∷ ts) =
    one_owner (list_any (λ (s : Shape). bytes_eq s.name name) t.shapes) n t (owner name ts)
    (find (λ (e : ℕ × Table). has_projection name e.1) (enumerate_from (n + 1) ts)) (owner_from name (n + 1) ts)

-- why the projection can't be dropped, whose owner was looked for
dropped_by : (state : State) (name : List ℕ) (found : Option (ℕ × Table)) → found ≡ owner_found name state.database.tables
    → projection_dropped_refusal state name ≡ first_of (last_super_refusal name (option_map (λ (e : ℕ × Table). e.1) found)) (spent_refusal state)
dropped_by state name found is =
    ap (λ (o : Option Table). first_of (last_super_refusal name o) (spent_refusal state)) (owner_from name 0 state.database.tables)
    ∙ ap (λ (o : Option (ℕ × Table)). first_of (last_super_refusal name (option_map (λ (e : ℕ × Table). e.1) o)) (spent_refusal state)) (sym is)

-- no table has the projection
pub dropped_unknown : (state : State) (name : List ℕ) (found : Option (ℕ × Table)) → found ≡ owner_found name state.database.tables → found ≡ None
    → projection_dropped_refusal state name ≡ Some (Refusal.UnknownProjection name)
dropped_unknown state name found is none =
    dropped_by state name found is
    ∙ ap (λ (o : Option (ℕ × Table)). first_of (last_super_refusal name (option_map (λ (e : ℕ × Table). e.1) o)) (spent_refusal state)) none

-- this table has it
pub dropped_is : (state : State) (name : List ℕ) (found : Option (ℕ × Table)) (e : ℕ × Table) (last : Bool)
    → found ≡ owner_found name state.database.tables → found ≡ Some e → last ≡ is_last_super name e.1
    → projection_dropped_refusal state name ≡ first_of (refused_where last (Refusal.LastSuper name)) (spent_refusal state)
dropped_is state name found e last is some so =
    dropped_by state name found is
    ∙ ap (λ (o : Option (ℕ × Table)). first_of (last_super_refusal name (option_map (λ (e : ℕ × Table). e.1) o)) (spent_refusal state)) some
    ∙ ap (λ (b : Bool). first_of (refused_where b (Refusal.LastSuper name)) (spent_refusal state)) (sym so)

-- a table that has the projection finds it
passes_at : (p : ℕ × Table → Bool) (b : Bool) (x e : ℕ × Table) (o : Option (ℕ × Table)) → p x ≡ b → (o ≡ Some e → p e ≡ true) → cond b (Some x) o ≡ Some e → p e ≡ true
passes_at p true x e o here more found = subst (λ (y : ℕ × Table). p y ≡ true) (same_Some x e found) here
passes_at p false x e o here more found = more found

find_passes : (p : ℕ × Table → Bool) (xs : List (ℕ × Table)) (e : ℕ × Table) → find p xs ≡ Some e → p e ≡ true
find_passes p [] e found = absurd (cc)
find_passes p (x ∷ xs) e found = passes_at p (p x) x e (find p xs) refl (find_passes p xs e) found

any_at : (b rest : Bool) (x : ℕ × Shape) (o : Option (ℕ × Shape)) → (rest ≡ true → o ≡ None → ⊥) → (b || rest) ≡ true → cond b (Some x) o ≡ None → ⊥
any_at true rest x o more any none = cc
any_at false rest x o more any none = more any none

any_found : (name : List ℕ) (n : ℕ) (ss : List Shape) → list_any (λ (s : Shape). bytes_eq s.name name) ss ≡ true
    → find (λ (e : ℕ × Shape). bytes_eq e.1.name name) (enumerate_from n ss) ≡ None → ⊥
any_found name n [] any none = cc
any_found name n (s ∷ ss) any none =
    any_at (bytes_eq s.name name) (list_any (λ (t : Shape). bytes_eq t.name name) ss) (n, s)
    (find (λ (e : ℕ × Shape). bytes_eq e.1.name name) (enumerate_from (n + 1) ss)) (any_found name (n + 1) ss) any none

pub owner_has : (name : List ℕ) (tables : List Table) (found : Option (ℕ × Table)) (e : ℕ × Table) → found ≡ owner_found name tables → found ≡ Some e
    → option_map (λ (s : ℕ × Shape). s.0) (shape_found name e.1) ≡ None → ⊥
unfolding has_projection
owner_has name tables found e is some none =
    any_found name 0 e.1.shapes
    (find_passes (λ (t : ℕ × Table). has_projection name t.1) (enumerate_from 0 tables) e (sym is ∙ some))
    (none_before (shape_found name e.1) none)
  where
    none_before : (o : Option (ℕ × Shape)) → option_map (λ (s : ℕ × Shape). s.0) o ≡ None → o ≡ None
    none_before None none = refl
    none_before (Some s) none = absurd (cc)

-- the places of both
abbrev pub placed_at : ℕ → ℕ × Shape → ℕ × ℕ
placed_at n s = (n, s.0)

places_by : (n : ℕ) (o : Option (ℕ × Shape)) (place : ℕ) → option_map (λ (s : ℕ × Shape). s.0) o ≡ Some place → option_map (placed_at n) o ≡ Some (n, place)
places_by n None place is = absurd (cc)
places_by n (Some s) place is = ap (λ (i : ℕ). Some (n, i)) (same_Some s.0 place is)

pub places_are : (name : List ℕ) (tables : List Table) (found : Option (ℕ × Table)) (e : ℕ × Table) (place : ℕ)
    → found ≡ owner_found name tables → found ≡ Some e → option_map (λ (s : ℕ × Shape). s.0) (shape_found name e.1) ≡ Some place
    → projection_places name tables ≡ Some (e.0, place)
places_are name tables found e place is some there =
    ap (λ (o : Option (ℕ × Table)). option_and_then (places_in name) o) (sym is ∙ some)
    ∙ places_by e.0 (shape_found name e.1) place there

-- the last super projection is one beside which no other stands
one_other : (q n rest : Bool) (s : Shape) (ss : List Shape) (name : List ℕ) → bytes_eq s.name name ≡ n → list_all (λ (t : Shape). bytes_eq t.name name) ss ≡ not rest
    → list_all (λ (t : Shape). bytes_eq t.name name) (cond q (s ∷ ss) ss) ≡ not ((q && not n) || rest)
one_other true true rest s ss name is behind = ap (λ (b : Bool). b && list_all (λ (t : Shape). bytes_eq t.name name) ss) is ∙ behind
one_other true false rest s ss name is behind = ap (λ (b : Bool). b && list_all (λ (t : Shape). bytes_eq t.name name) ss) is
one_other false n rest s ss name is behind = behind

last_over : (name : List ℕ) (t : Table) (ss : List Shape) → list_all (λ (s : Shape). bytes_eq s.name name) (filter (is_super t) ss) ≡ not (list_any (other_super name t) ss)
unfolding other_super
last_over name t [] = refl
last_over name t (s ∷ ss) =
    one_other (is_super t s) (bytes_eq s.name name) (list_any (other_super name t) ss) s (filter (is_super t) ss) name refl (last_over name t ss)

pub last_is : (name : List ℕ) (t : Table) → is_last_super name t ≡ not (list_any (other_super name t) t.shapes)
last_is name t = last_over name t t.shapes

-- a projection that may be dropped
pub drop_planned : (state : State) (name : List ℕ) (found : Option (ℕ × Table)) (e : ℕ × Table) (table place : ℕ)
    → found ≡ owner_found name state.database.tables → found ≡ Some e → is_last_super name e.1 ≡ false → spent_refusal state ≡ None
    → option_map (λ (s : ℕ × Shape). s.0) (shape_found name e.1) ≡ Some place → table ≡ e.0
    → IsPlanned state (Statement.DropProjection name) (Plan.DropProjection table place)
drop_planned state name found e table place is some last left there at = record {
  accepted = dropped_is state name found e false is some (sym last) ∙ left;
  of = places_are name state.database.tables found e place is some there ∙ ap (λ (n : ℕ). Some (n, place)) (sym at);
}
