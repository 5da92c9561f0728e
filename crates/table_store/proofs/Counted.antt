-- How many projections of a database are behind, before one of them is moved out and after it; and what it is when none is.
use Rattle.std.proofs.Common.{◌≡◌, ◌<◌, ◌+◌, ◌++◌, ℕ, zero, suc, Bool, true, false, cond, List, [], ◌∷◌, length, map, filter, refl, sym, ◌∙◌, ap, ap₂, arith}
use Rattle.std.specs.Prelude.{nat_lt, Some, IsSomeAnd}
use Rattle.std.specs.List.{slice_get}
use Rattle.std.proofs.lemmas.Bool.Decides.{nat_tests}
use Rattle.std.proofs.lemmas.List.{length-append}
use Rattle.std.proofs.lemmas.List.Elements.{filter-append}
use Rattle.db_model.specs.Database.{Database, Shape, Table, is_behind}
use Rattle.db_model.specs.Epochs.{all_shapes}
use Rattle.db_model.specs.Mover.{behind, reached_to}
use Rattle.sound_laws.specs.Moves.{change_at, moved_at, reached_in}
use Rattle.table_store.specs.Draining.{all_caught_up, caught_up, caught_up_in}

-- a shape stands at a place of the table at a place
abbrev pub StandsAt : List Table → ℕ → ℕ → Shape → Type 0
StandsAt ts i j s = IsSomeAnd (slice_get ts i) (λ t. slice_get t.shapes j ≡ Some s)

-- ---- one less is behind

pub not_below : (n : ℕ) → nat_lt n n ≡ false
not_below n = grind (arith, nat_tests)

counted : (last : ℕ) (ss : List Shape) (j : ℕ) (s : Shape) → slice_get ss j ≡ Some s → is_behind last s ≡ true → length (filter (is_behind last) (change_at j (reached_to last) ss)) + 1 ≡ length (filter (is_behind last) ss)
counted last [] j s none is = absurd (cc)
counted last (x ∷ ss) zero s at is =
    let same : x ≡ s = cc in
    let before : length (filter (is_behind last) (x ∷ ss)) ≡ length (x ∷ filter (is_behind last) ss) =
    ap (λ (b : Bool). length (cond b (x ∷ filter (is_behind last) ss) (filter (is_behind last) ss))) (ap (is_behind last) same ∙ is) in
    let after : length (filter (is_behind last) (reached_to last x ∷ ss)) ≡ length (filter (is_behind last) ss) =
    ap (λ (b : Bool). length (cond b (reached_to last x ∷ filter (is_behind last) ss) (filter (is_behind last) ss))) (not_below last) in
    omega (arith, before, after)
counted last (x ∷ ss) (suc j) s at is = by (is_behind last x) (counted last ss j s at is)
  where
    by : (b : Bool) → length (filter (is_behind last) (change_at j (reached_to last) ss)) + 1 ≡ length (filter (is_behind last) ss)
        → length (cond b (x ∷ filter (is_behind last) (change_at j (reached_to last) ss)) (filter (is_behind last) (change_at j (reached_to last) ss))) + 1 ≡ length (cond b (x ∷ filter (is_behind last) ss) (filter (is_behind last) ss))
    by true rest = omega (arith, rest)
    by false rest = rest

joined : (last : ℕ) (xs ys : List Shape) → length (filter (is_behind last) (xs ++ ys)) ≡ length (filter (is_behind last) xs) + length (filter (is_behind last) ys)
joined last xs ys = ap length (filter-append (is_behind last) xs ys) ∙ length-append (filter (is_behind last) xs) (filter (is_behind last) ys)

counted_all : (last : ℕ) (ts : List Table) (i j : ℕ) (s : Shape) → StandsAt ts i j s → is_behind last s ≡ true
    → length (filter (is_behind last) (all_shapes (change_at i (reached_in last j) ts))) + 1 ≡ length (filter (is_behind last) (all_shapes ts))
counted_all last [] i j s at is = absurd at
counted_all last (t ∷ ts) zero j s at is =
    let one = counted last t.shapes j s at is in
    let before = joined last t.shapes (all_shapes ts) in
    let after = joined last (change_at j (reached_to last) t.shapes) (all_shapes ts) in
    omega (arith, one, before, after)
counted_all last (t ∷ ts) (suc i) j s at is =
    let rest = counted_all last ts i j s at is in
    let before = joined last t.shapes (all_shapes ts) in
    let after = joined last t.shapes (all_shapes (change_at i (reached_in last j) ts)) in
    omega (arith, rest, before, after)

pub count_moved : (d : Database) (i j : ℕ) (s : Shape) → StandsAt d.tables i j s → is_behind d.last s ≡ true → length (behind (moved_at i j d)) + 1 ≡ length (behind d)
count_moved d i j s at is = counted_all d.last d.tables i j s at is

-- ---- the rest is the same

caught_twice : (last : ℕ) (s : Shape) → is_behind last s ≡ true → caught_up last (reached_to last s) ≡ caught_up last s
caught_twice last s is =
    ap (λ (b : Bool). cond b (reached_to last (reached_to last s)) (reached_to last s)) (not_below last)
    ∙ sym (ap (λ (b : Bool). cond b (reached_to last s) s) is)

shapes_rest : (last : ℕ) (ss : List Shape) (j : ℕ) (s : Shape) → slice_get ss j ≡ Some s → is_behind last s ≡ true → map (caught_up last) (change_at j (reached_to last) ss) ≡ map (caught_up last) ss
shapes_rest last [] j s none is = absurd (cc)
shapes_rest last (x ∷ ss) zero s at is = let same : x ≡ s = cc in ap (λ (y : Shape). y ∷ map (caught_up last) ss) (caught_twice last x (ap (is_behind last) same ∙ is))
shapes_rest last (x ∷ ss) (suc j) s at is = ap (λ (ys : List Shape). caught_up last x ∷ ys) (shapes_rest last ss j s at is)

abbrev with_shapes : Table → List Shape → Table
with_shapes t ss = record t { shapes = ss }

tables_rest : (last : ℕ) (ts : List Table) (i j : ℕ) (s : Shape) → StandsAt ts i j s → is_behind last s ≡ true → map (caught_up_in last) (change_at i (reached_in last j) ts) ≡ map (caught_up_in last) ts
tables_rest last [] i j s at is = absurd at
tables_rest last (t ∷ ts) zero j s at is = ap (λ (ss : List Shape). with_shapes t ss ∷ map (caught_up_in last) ts) (shapes_rest last t.shapes j s at is)
tables_rest last (t ∷ ts) (suc i) j s at is = ap (λ (us : List Table). caught_up_in last t ∷ us) (tables_rest last ts i j s at is)

abbrev with_tables : Database → List Table → Database
with_tables d ts = record d { tables = ts }

-- one projection less is to be moved out, and what comes of it in the end is the same
pub rest_moved : (d : Database) (i j : ℕ) (s : Shape) → StandsAt d.tables i j s → is_behind d.last s ≡ true → all_caught_up (moved_at i j d) ≡ all_caught_up d
rest_moved d i j s at is = ap (with_tables d) (tables_rest d.last d.tables i j s at is)

-- ---- nothing is behind

shapes_same : (last : ℕ) (ss : List Shape) → filter (is_behind last) ss ≡ [] → map (caught_up last) ss ≡ ss
shapes_same last [] none = refl
shapes_same last (s ∷ ss) none = by (is_behind last s) refl none (shapes_same last ss)
  where
    by : (b : Bool) → is_behind last s ≡ b → cond b (s ∷ filter (is_behind last) ss) (filter (is_behind last) ss) ≡ [] → (filter (is_behind last) ss ≡ [] → map (caught_up last) ss ≡ ss) → map (caught_up last) (s ∷ ss) ≡ s ∷ ss
    by true is some rest = absurd (cc)
    by false is none rest = ap₂ (λ (x : Shape) (xs : List Shape). x ∷ xs) (ap (λ (b : Bool). cond b (reached_to last s) s) is) (rest none)

front_none : {X : Type 0} (xs ys : List X) → xs ++ ys ≡ [] → xs ≡ []
front_none [] ys none = refl
front_none (x ∷ xs) ys none = absurd (cc)

back_none : {X : Type 0} (xs ys : List X) → xs ++ ys ≡ [] → ys ≡ []
back_none [] ys none = none
back_none (x ∷ xs) ys none = absurd (cc)

tables_same : (last : ℕ) (ts : List Table) → filter (is_behind last) (all_shapes ts) ≡ [] → map (caught_up_in last) ts ≡ ts
tables_same last [] none = refl
tables_same last (t ∷ ts) none =
    let both : filter (is_behind last) t.shapes ++ filter (is_behind last) (all_shapes ts) ≡ [] = sym (filter-append (is_behind last) t.shapes (all_shapes ts)) ∙ none in
    ap₂ (λ (ss : List Shape) (us : List Table). with_shapes t ss ∷ us) (shapes_same last t.shapes (front_none (filter (is_behind last) t.shapes) (filter (is_behind last) (all_shapes ts)) both))
    (tables_same last ts (back_none (filter (is_behind last) t.shapes) (filter (is_behind last) (all_shapes ts)) both))

pub none_left : (d : Database) → behind d ≡ [] → all_caught_up d ≡ d
none_left d none = ap (with_tables d) (tables_same d.last d.tables none)

pub no_length : {X : Type 0} (xs : List X) → length xs ≡ 0 → xs ≡ []
no_length [] none = refl
no_length (x ∷ xs) none = absurd (cc)

pub some_moved : {X : Type 0} (xs : List X) → 0 < length xs → xs ≡ [] → ⊥
some_moved [] some none = omega (arith, some)
some_moved (x ∷ xs) some none = absurd (cc)
