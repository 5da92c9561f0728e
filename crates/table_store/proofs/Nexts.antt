-- The catalogues that a store makes are valid.
use Rattle.std.proofs.Common.{◌≡◌, ℕ, zero, suc, ◌+◌, ◌<◌, ◌≤◌, Bool, true, false, List, [], ◌∷◌, ◌++◌, get_or, take, drop, length, cond, refl, sym, ◌∙◌, ap, subst, arith}
use Rattle.std.specs.Prelude.{Result, Ok, Err, IfOk, IsSomeAnd}
use Rattle.std.specs.List.{All, slice_get}
use Rattle.std.proofs.lemmas.List.{get_or_default}
use Rattle.std.proofs.lemmas.List.Edits.{get_or-insert_at, length-insert}
use Rattle.std.proofs.lemmas.List.Elements.{All-append, All-cons, All-drop, All-map, All-take}
use Rattle.col_value.specs.declared.column.Column.{Column}
use Rattle.col_value.specs.declared.value.Value.{Value}
use Rattle.catalog_types.specs.declared.catalogue.Projection.{Projection}
use Rattle.catalog_types.specs.declared.catalogue.Table as kept
use Rattle.catalog_types.specs.declared.catalogue.Catalogue.{Catalogue}
use Rattle.catalog_types.specs.Numbers.{projection_spans, table_spans}
use Rattle.catalog_types.specs.Valid.{IsValid}
use Rattle.catalog_laws.specs.Entries.{IsEntryAfter, KeepsShape}
use Rattle.catalog_laws.specs.Going.{alone, later, GoesOn, HaveReached, IsFree, IsOwn, Joins}
use Rattle.catalog_laws.proofs.Alone.{entry_kept}
use Rattle.catalog_laws.proofs.Forms.{all_own, bare_own, next_own, with_another_mark, with_one_less, with_one_more, with_other_projections}
use Rattle.proj_store.specs.Widening.{new_column, with_columns}
use Rattle.sound_laws.specs.Moves.{change_at}
use Rattle.table_store.specs.Creating.{with_mark, with_table, without_table}
use Rattle.table_store.specs.Moving.{with_entry, with_entry_at, KeepsRulesAt, KeepsShapeAt}
use Rattle.table_store.specs.Shaping.{with_projection, with_projection_at, without_projection, without_projection_at}
use Rattle.table_store.specs.Widening.{has_all, wide_entry, wide_table, with_column_at}
use Rattle.table_store.proofs.Moved.{all_changed, at_place, is_at}

-- ---- of what may be there

pub both_ok : {A E : Type 0} (r : Result A E) (P Q R : A → Type 0) → IfOk r P → IfOk r Q → ((a : A) → P a → Q a → R a) → IfOk r R
both_ok (Ok a) P Q R p q f = f a p q
both_ok (Err e) P Q R p q f = tt

pub one_ok : {A E : Type 0} (r : Result A E) (P R : A → Type 0) → IfOk r P → ((a : A) → P a → R a) → IfOk r R
one_ok (Ok a) P R p f = f a p
one_ok (Err e) P R p f = tt

-- the table of a catalogue at a place is valid by itself
abbrev pub IsValidAt : Catalogue → ℕ → Type 0
IsValidAt k place = (t : kept.Table) → t ≡ get_or k.tables place t → IsValid (alone k.last k.ahm k.next t)

-- ---- lists with one element changed

change_split : {X : Type 0} (i : ℕ) (f : X → X) (xs : List X) (x : X) → i < length xs → x ≡ get_or xs i x → change_at i f xs ≡ take i xs ++ f x ∷ drop (suc i) xs
change_split i f [] x lt is = absurd (omega (arith, lt))
change_split {X} zero f (y ∷ xs) x lt is = ap (λ (z : X). f z ∷ xs) (sym is)
change_split {X} (suc i) f (y ∷ xs) x lt is = ap (λ (zs : List X). y ∷ zs) (change_split i f xs x (omega (arith, lt)) is)

changed_there : {X : Type 0} (i : ℕ) (f : X → X) (xs : List X) (x : X) → i < length xs → x ≡ get_or xs i x → f x ≡ get_or (change_at i f xs) i (f x)
changed_there i f [] x lt is = absurd (omega (arith, lt))
changed_there zero f (y ∷ xs) x lt is = ap f is
changed_there (suc i) f (y ∷ xs) x lt is = changed_there i f xs x (omega (arith, lt)) is

pub long_change : {X : Type 0} (i : ℕ) (f : X → X) (xs : List X) → length (change_at i f xs) ≡ length xs
long_change i f [] = refl
long_change zero f (x ∷ xs) = refl
long_change (suc i) f (x ∷ xs) = ap suc (long_change i f xs)

pub there_within : {X : Type 0} (i : ℕ) (f : X → X) (xs : List X) (P : X → Type 0) (ys : List X) → IsSomeAnd (slice_get xs i) P → ys ≡ change_at i f xs → i < length ys
there_within i f xs P ys there is = let (x, lt, at, p) = at_place xs i P there in omega (arith, lt, ap length is, long_change i f xs)

-- ---- a table more, a table less, another mark

pub table_joined : (root c : Catalogue) (last place : ℕ) (t : kept.Table) → IsValid root → GoesOn root last (root.next + 1) → Joins root place t → place ≤ length root.tables → table_spans t ≡ []
    → c ≡ with_table last place t root → IsValidAt c place → IsValid c
table_joined root c last place t valid goes joins le bare is own =
    subst IsValid (sym is)
    (with_one_more root last (root.next + 1) place t valid goes joins (subst (λ (k : Catalogue). IsValidAt k place) is own t (sym (get_or-insert_at root.tables place t t le))) (λ j e lt. absurd (nothing j lt)))
  where
    nothing : (j : ℕ) → j < length (table_spans t) → ⊥
    nothing j lt = let zero : length (table_spans t) ≡ 0 = ap length bare in omega (arith, lt, zero)

pub table_within : (root c : Catalogue) (last place : ℕ) (t : kept.Table) → place ≤ length root.tables → c ≡ with_table last place t root → place < length c.tables
table_within root c last place t le is = omega (arith, le, ap (λ (k : Catalogue). length k.tables) is, length-insert root.tables place t le)

read : (ts : List kept.Table) (i : ℕ) (d : kept.Table) → i < length ts → get_or ts i d ≡ get_or ts i (get_or ts i d)
read [] i d lt = absurd (omega (arith, lt))
read (t ∷ ts) zero d lt = refl
read (t ∷ ts) (suc i) d lt = read ts i d (omega (arith, lt))

pub table_gone : (root c : Catalogue) (last place : ℕ) → IsValid root → GoesOn root last (root.next + 1) → place < length root.tables → c ≡ without_table last place root → IsValid c
table_gone root c last place valid goes lt is =
    let blank : kept.Table = record { name = []; columns = []; projections = [] } in
    subst IsValid (sym is) (with_one_less root last (root.next + 1) place (get_or root.tables place blank) valid goes lt (read root.tables place blank lt))

pub mark_put : (root c : Catalogue) (last mark : ℕ) → IsValid root → GoesOn root last (root.next + 1) → mark ≤ last → HaveReached mark root.tables → c ≡ with_mark last mark root → IsValid c
mark_put root c last mark valid goes le reached is = subst IsValid (sym is) (with_another_mark root last (root.next + 1) mark valid goes le reached)

-- ---- a table with other projections

table_put : (root c : Catalogue) (last next i : ℕ) (f : kept.Table → kept.Table) (t : kept.Table) → IsValid root → GoesOn root last next → i < length root.tables → t ≡ get_or root.tables i t
    → c ≡ later last next (change_at i f root.tables) root → IsValid (alone last root.ahm next (f t)) → (f t).name ≡ t.name → All (IsOwn root t) (f t).projections → IsValid c
table_put root c last next i f t valid goes lt there is own same all =
    let split : change_at i f root.tables ≡ take i root.tables ++ f t ∷ drop (suc i) root.tables = change_split i f root.tables t lt there in
    subst IsValid (sym (is ∙ ap (λ (ts : List kept.Table). later last next ts root) split)) (with_other_projections root last next i t (f t) valid goes lt there own same all)

table_changed : (root c : Catalogue) (last next i : ℕ) (f : kept.Table → kept.Table) (t : kept.Table) → IsValid root → GoesOn root last next → i < length root.tables → t ≡ get_or root.tables i t
    → c ≡ later last next (change_at i f root.tables) root → IsValidAt c i → (f t).name ≡ t.name → All (IsOwn root t) (f t).projections → IsValid c
table_changed root c last next i f t valid goes lt there is own same all =
    table_put root c last next i f t valid goes lt there is (subst (λ (k : Catalogue). IsValidAt k i) is own (f t) (changed_there i f root.tables t lt there)) same all

-- an entry that keeps the rules, in the place of another

pub shape_there : (root : Catalogue) (i j : ℕ) (entry : Projection) → KeepsShapeAt root i j entry → IsSomeAnd (slice_get root.tables i) (λ t. j < length t.projections)
shape_there root i j entry shape =
    let (t, lt, t_is, inner) = at_place root.tables i (λ t. IsSomeAnd (slice_get t.projections j) (λ p. KeepsShape p entry)) shape in
    let (p, below, p_is, keeps) = at_place t.projections j (λ p. KeepsShape p entry) inner in
    is_at root.tables i t (λ u. j < length u.projections) lt t_is below

-- what stands at its place
pub shape_at : (root : Catalogue) (i j : ℕ) (entry : Projection) (t : kept.Table) (p : Projection) → KeepsShapeAt root i j entry → t ≡ get_or root.tables i t → p ≡ get_or t.projections j p
    → (i < length root.tables) × (j < length t.projections) × KeepsShape p entry
shape_at root i j entry t p shape t_is p_is =
    let (u, lt, u_is, inner) = at_place root.tables i (λ v. IsSomeAnd (slice_get v.projections j) (λ q. KeepsShape q entry)) shape in
    let same : u ≡ t = u_is ∙ get_or_default root.tables i u t lt ∙ sym t_is in
    let (q, below, q_is, keeps) = at_place t.projections j (λ q. KeepsShape q entry) (subst (λ (v : kept.Table). IsSomeAnd (slice_get v.projections j) (λ q. KeepsShape q entry)) same inner) in
    (lt, below, subst (λ (x : Projection). KeepsShape x entry) (q_is ∙ get_or_default t.projections j q p below ∙ sym p_is) keeps)

pub rules_at : (root : Catalogue) (last next i j : ℕ) (entry : Projection) (t : kept.Table) (p : Projection) → i < length root.tables → t ≡ get_or root.tables i t → j < length t.projections → p ≡ get_or t.projections j p
    → IsEntryAfter root last next p entry → KeepsRulesAt root last next i j entry
rules_at root last next i j entry t p lt t_is below p_is keeps =
    is_at root.tables i t (λ u. IsSomeAnd (slice_get u.projections j) (λ q. IsEntryAfter root last next q entry)) lt t_is (is_at t.projections j p (λ q. IsEntryAfter root last next q entry) below p_is keeps)

pub entry_put : (root c : Catalogue) (last version i j : ℕ) (entry : Projection) → IsValid root → GoesOn root last (version + 1) → KeepsRulesAt root last (version + 1) i j entry → c ≡ with_entry_at last version i j entry root → IsValid c
entry_put root c last version i j entry valid goes rules is =
    let (t, lt, t_is, inner) = at_place root.tables i (λ t. IsSomeAnd (slice_get t.projections j) (λ p. IsEntryAfter root last (version + 1) p entry)) rules in
    let (p, below, p_is, keeps) = at_place t.projections j (λ p. IsEntryAfter root last (version + 1) p entry) inner in
    let alone_too : IsValid (alone last root.ahm (version + 1) (with_entry j entry t)) =
    subst (λ (ps : List Projection). IsValid (alone last root.ahm (version + 1) (record t { projections = ps }))) (sym (change_split j (λ q. entry) t.projections p below p_is)) (entry_kept root last (version + 1) i j t p entry valid goes lt t_is below p_is keeps) in
    table_put root c last (version + 1) i (with_entry j entry) t valid goes lt t_is is alone_too refl
    (all_changed (IsOwn root t) j entry t.projections (next_own root t j p entry below p_is keeps.shape.name keeps.numbers.drawn) (all_own root t))

pub projection_put : (root c : Catalogue) (last i place : ℕ) (entry : Projection) → IsValid root → GoesOn root last (root.next + 1) → IsSomeAnd (slice_get root.tables i) (λ t. place ≤ length t.projections)
    → IsFree root.tables entry.name → projection_spans entry ≡ [] → c ≡ with_projection_at last i place entry root → IsValidAt c i → IsValid c
projection_put root c last i place entry valid goes there free bare is own =
    let (t, lt, t_is, le) = at_place root.tables i (λ t. place ≤ length t.projections) there in
    let all = all_own root t in
    table_changed root c last (root.next + 1) i (with_projection place entry) t valid goes lt t_is is own refl
    (All-append (IsOwn root t) (take place t.projections) (entry ∷ drop place t.projections) (All-take (IsOwn root t) place t.projections all)
    (All-cons (IsOwn root t) entry (drop place t.projections) (bare_own root t entry free bare) (All-drop (IsOwn root t) place t.projections all)))

pub projection_gone : (root c : Catalogue) (last i place : ℕ) → IsValid root → GoesOn root last (root.next + 1) → IsSomeAnd (slice_get root.tables i) (λ t. place < length t.projections)
    → c ≡ without_projection_at last i place root → IsValidAt c i → IsValid c
projection_gone root c last i place valid goes there is own =
    let (t, lt, t_is, le) = at_place root.tables i (λ t. place < length t.projections) there in
    let all = all_own root t in
    table_changed root c last (root.next + 1) i (without_projection place) t valid goes lt t_is is own refl
    (All-append (IsOwn root t) (take place t.projections) (drop (suc place) t.projections) (All-take (IsOwn root t) place t.projections all) (All-drop (IsOwn root t) (suc place) t.projections all))

wide_own : (root : Catalogue) (t : kept.Table) (columns : List Column) (v : Value) (p : Projection) → IsOwn root t p → IsOwn root t (wide_entry columns v p)
wide_own root t columns v p own = by (has_all columns p)
  where
    by : (b : Bool) → IsOwn root t (cond b (with_columns (p.columns ++ new_column (length columns) v ∷ []) p) p)
    by true = record { name = own.name; numbers = own.numbers }
    by false = own

pub column_put : (root k : Catalogue) (last i : ℕ) (column : Column) (v : Value) → IsValid root → GoesOn root last (root.next + 1) → i < length root.tables → k ≡ with_column_at last i column v root → IsValidAt k i → IsValid k
column_put root k last i column v valid goes lt is own =
    table_changed root k last (root.next + 1) i (wide_table column v) t valid goes lt (read root.tables i blank lt) is own refl
    (All-map (IsOwn root t) (wide_entry t.columns v) t.projections (λ j e below. wide_own root t t.columns v (get_or t.projections j e) (all_own root t j e below)))
  where
    blank : kept.Table
    blank = record { name = []; columns = []; projections = [] }

    t : kept.Table
    t = get_or root.tables i (record { name = []; columns = []; projections = [] })
