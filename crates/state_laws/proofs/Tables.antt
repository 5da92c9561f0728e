-- Tables by their names: where one comes, goes or changes, the others are found as before.
use Rattle.std.proofs.Common.{◌≡◌, ℕ, zero, suc, Bool, true, false, cond, List, [], ◌∷◌, map, filter, refl, sym, ◌∙◌, ap, subst}
use Rattle.std.specs.Prelude.{◌||◌, not, bytes_eq, Option, Some, None, option_map}
use Rattle.std.specs.Ordering.{is_lt, nat_cmp}
use Rattle.std.specs.Cmp.Lexicographic.{slice_cmp}
use Rattle.std.specs.List.{list_any}
use Rattle.std.proofs.lemmas.Slice.Eq.{bytes_eq-Decides}
use Rattle.db_model.specs.Database.{Table, table_named, put_table, is_taken}
use Rattle.db_model.specs.Events.{is_not_named}
use Rattle.sound_laws.specs.Moves.{change_at, reached_in}
use Rattle.sound_laws.proofs.Created.{Differ, differ_turned}

pub named_itself : (n : List ℕ) → bytes_eq n n ≡ true
named_itself n = (bytes_eq-Decides n n).1 refl

neither : (a b c : Bool) → ((a || b) || c) ≡ false → (a ≡ false) × (c ≡ false)
neither true b c is = cc
neither false true c is = cc
neither false false c is = (refl, is)

-- a name that isn't taken is no table's
pub free_name : (name : List ℕ) (ts : List Table) → is_taken name ts ≡ false → table_named name ts ≡ None
free_name name [] free = refl
free_name name (t ∷ ts) free =
    let parts = neither (bytes_eq t.name name) (list_any (λ s. bytes_eq s.name name) t.shapes) (is_taken name ts) free in
    ap (λ (b : Bool). cond b (Some t) (table_named name ts)) parts.0 ∙ free_name name ts parts.1

-- so it differs from each name that is one's
pub free_differs : (name n : List ℕ) (ts : List Table) (t : Table) → is_taken name ts ≡ false → table_named n ts ≡ Some t → Differ name n
free_differs name n ts t free there = by (bytes_eq name n) refl
  where
    by : (b : Bool) → bytes_eq name n ≡ b → b ≡ false
    by false is = refl
    by true is =
        let same : name ≡ n = (bytes_eq-Decides name n).0 is in
        let none : table_named name ts ≡ None = free_name name ts free in
        let some : table_named name ts ≡ Some t = ap (λ (x : List ℕ). table_named x ts) same ∙ there in
        absurd (cc)

pub put_still : (n : List ℕ) (t : Table) (us : List Table) → Differ t.name n → table_named n (put_table t us) ≡ table_named n us
put_still n t [] other = ap (λ (b : Bool). cond b (Some t) (table_named n [])) other
put_still n t (u ∷ us) other = by (is_lt (slice_cmp nat_cmp t.name u.name)) (put_still n t us other)
  where
    by : (b : Bool) → table_named n (put_table t us) ≡ table_named n us → table_named n (cond b (t ∷ (u ∷ us)) (u ∷ put_table t us)) ≡ table_named n (u ∷ us)
    by true rest = ap (λ (b : Bool). cond b (Some t) (table_named n (u ∷ us))) other
    by false rest = ap (λ (o : Option Table). cond (bytes_eq u.name n) (Some u) o) rest

pub without_still : (name n : List ℕ) (us : List Table) → Differ n name → table_named n (filter (λ t. is_not_named name t.name) us) ≡ table_named n us
without_still name n [] other = refl
without_still name n (u ∷ us) other = by (bytes_eq u.name name) refl (without_still name n us other)
  where
    by : (b : Bool) → bytes_eq u.name name ≡ b → table_named n (filter (λ t. is_not_named name t.name) us) ≡ table_named n us
        → table_named n (cond (not b) (u ∷ filter (λ t. is_not_named name t.name) us) (filter (λ t. is_not_named name t.name) us)) ≡ table_named n (u ∷ us)
    by true is rest =
        let same : u.name ≡ name = (bytes_eq-Decides u.name name).0 is in
        let off : bytes_eq u.name n ≡ false = subst (λ (m : List ℕ). bytes_eq m n ≡ false) (sym same) (differ_turned n name other) in
        rest ∙ sym (ap (λ (b : Bool). cond b (Some u) (table_named n us)) off)
    by false is rest = ap (λ (o : Option Table). cond (bytes_eq u.name n) (Some u) o) rest

-- a change of each table that keeps its name
pub map_named : (f : Table → Table) (n : List ℕ) (us : List Table) → ((t : Table) → (f t).name ≡ t.name) → table_named n (map f us) ≡ option_map f (table_named n us)
map_named f n [] keeps = refl
map_named f n (u ∷ us) keeps =
    ap (λ (m : List ℕ). cond (bytes_eq m n) (Some (f u)) (table_named n (map f us))) (keeps u) ∙ by (bytes_eq u.name n) (map_named f n us keeps)
  where
    by : (b : Bool) → table_named n (map f us) ≡ option_map f (table_named n us) → cond b (Some (f u)) (table_named n (map f us)) ≡ option_map f (cond b (Some u) (table_named n us))
    by true rest = refl
    by false rest = rest

-- a table that is found has the name
pub named_so : (n : List ℕ) (us : List Table) (t : Table) → table_named n us ≡ Some t → t.name ≡ n
named_so n [] t none = absurd (cc)
named_so n (u ∷ us) t there = by (bytes_eq u.name n) refl (λ rest. named_so n us t rest) there
  where
    by : (b : Bool) → bytes_eq u.name n ≡ b → (table_named n us ≡ Some t → t.name ≡ n) → cond b (Some u) (table_named n us) ≡ Some t → t.name ≡ n
    by true is more here =
        let same : u ≡ t = cc in
        ap (λ (x : Table). x.name) (sym same) ∙ (bytes_eq-Decides u.name n).0 is
    by false is more rest = more rest

-- of one table a projection was moved out
pub moved_named : (last i j : ℕ) (n : List ℕ) (us : List Table) (t : Table) → table_named n us ≡ Some t
    → (u : Table) × (table_named n (change_at i (reached_in last j) us) ≡ Some u) × (u.columns ≡ t.columns) × (u.rows ≡ t.rows)
moved_named last i j n [] t none = absurd (cc)
moved_named last zero j n (v ∷ us) t there = by (bytes_eq v.name n) there
  where
    by : (b : Bool) → cond b (Some v) (table_named n us) ≡ Some t
        → (u : Table) × (cond b (Some (reached_in last j v)) (table_named n us) ≡ Some u) × (u.columns ≡ t.columns) × (u.rows ≡ t.rows)
    by true here = let same : v ≡ t = cc in (reached_in last j v, refl, ap (λ (x : Table). x.columns) same, ap (λ (x : Table). x.rows) same)
    by false rest = (t, rest, refl, refl)
moved_named last (suc i) j n (v ∷ us) t there = by (bytes_eq v.name n) (λ rest. moved_named last i j n us t rest) there
  where
    by : (b : Bool) → (table_named n us ≡ Some t → (u : Table) × (table_named n (change_at i (reached_in last j) us) ≡ Some u) × (u.columns ≡ t.columns) × (u.rows ≡ t.rows)) → cond b (Some v) (table_named n us) ≡ Some t
        → (u : Table) × (cond b (Some v) (table_named n (change_at i (reached_in last j) us)) ≡ Some u) × (u.columns ≡ t.columns) × (u.rows ≡ t.rows)
    by true more here = (t, here, refl, refl)
    by false more rest = more rest
