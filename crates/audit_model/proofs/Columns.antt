-- Rows of a projection in the columns of another, and of its table.
use Rattle.std.proofs.Common.{◌≡◌, ◌≢◌, ℕ, zero, suc, ◌<◌, ◌∙◌, Bool, true, false, cond, List, [], ◌∷◌, length, map, get_or, refl, sym, ap, ap₂, arith}
use Rattle.std.specs.Prelude.{◌==◌, ◌||◌, slice_index_or}
use Rattle.std.specs.List.{All, list_any, range_with_len}
use Rattle.std.proofs.lemmas.Bool.{eqb-true, eq-eqb}
use Rattle.std.proofs.lemmas.List.{ext_get_or, get_or-map, length-map}
use Rattle.std.proofs.lemmas.List.Elements.{All-head, All-tail}
use Rattle.std.proofs.lemmas.List.FromFn.{get_or-map-range_with_len}
use Rattle.col_value.specs.declared.value.Value.{Value}
use Rattle.col_value.specs.declared.value.Value.TheVariants as value
use Rattle.col_value.specs.declared.row.Stamped.{Stamped}
use Rattle.col_value.specs.Order.{projected}
use Rattle.row_history.specs.History.{on_columns}
use Rattle.row_history.proofs.Histories.{map_mapped}
use Rattle.catalog_types.specs.declared.catalogue.ProjColumn.{ProjColumn}
use Rattle.catalog_types.specs.Lists.{Pairwise}
use Rattle.audit_model.specs.Pairs.{place_in}

abbrev pub has : List ℕ → ℕ → Bool
has ns n = list_any (λ x. x == n) ns

-- a number that is there stands at its place
pub place_found : (ns : List ℕ) (n d : ℕ) → has ns n ≡ true → (place_in ns n < length ns) × (slice_index_or ns (place_in ns n) d ≡ n)
place_found [] n d there = absurd cc
place_found (x ∷ ns) n d there = by (x == n) refl there (place_found ns n d)
  where
    by : (b : Bool) → (x == n) ≡ b → (b || has ns n) ≡ true → (has ns n ≡ true → (place_in ns n < length ns) × (slice_index_or ns (place_in ns n) d ≡ n)) → (cond b zero (suc (place_in ns n)) < length (x ∷ ns)) × (slice_index_or (x ∷ ns) (cond b zero (suc (place_in ns n))) d ≡ n)
    by true is found later = (omega arith, eqb-true x n is)
    by false is found later = let rest = later found in let lt = rest.0 in (omega (arith, lt), rest.1)

abbrev cell : List Value → ℕ → Value
cell row c = slice_index_or row c value.Null

-- ---- the columns of another projection

pub projected_again : (row : List Value) (own other : List ℕ) → All (λ c. has own c ≡ true) other → projected (projected row own) (map (place_in own) other) ≡ projected row other
projected_again row own [] all = refl
projected_again row own (c ∷ other) all =
    let at = place_found own c 0 (All-head (λ x. has own x ≡ true) c other all) in
    ap₂ (λ (v : Value) (vs : List Value). v ∷ vs) (get_or-map (cell row) own (place_in own c) 0 value.Null at.0 ∙ ap (cell row) at.1)
    (projected_again row own other (All-tail (λ x. has own x ≡ true) c other all))

abbrev stamp : Stamped → List Value → Stamped
stamp s row = record s { row = row }

pub rows_again : (own other : List ℕ) (rows : List Stamped) → All (λ c. has own c ≡ true) other → map (on_columns (map (place_in own) other)) (map (on_columns own) rows) ≡ map (on_columns other) rows
rows_again own other [] all = refl
rows_again own other (s ∷ rows) all = ap₂ (λ (x : Stamped) (xs : List Stamped). x ∷ xs) (ap (stamp s) (projected_again s.row own other all)) (rows_again own other rows all)

-- ---- all columns of the table

pub projected_whole : (row : List Value) (g : ℕ → ℕ) (count : ℕ) (other : List ℕ) → All (λ c. c < count) other → projected (projected row (map g (range_with_len 0 count))) other ≡ projected row (map g other)
projected_whole row g count [] all = refl
projected_whole row g count (c ∷ other) all =
    ap₂ (λ (v : Value) (vs : List Value). v ∷ vs)
    (ap (λ (vs : List Value). cell vs c) (map_mapped (cell row) g (range_with_len 0 count))
    ∙ get_or-map-range_with_len (λ n. cell row (g n)) 0 count c c value.Null (All-head (λ x. x < count) c other all) (omega arith))
    (projected_whole row g count other (All-tail (λ x. x < count) c other all))

pub rows_whole : (g : ℕ → ℕ) (count : ℕ) (other : List ℕ) (rows : List Stamped) → All (λ c. c < count) other
    → map (on_columns other) (map (on_columns (map g (range_with_len 0 count))) rows) ≡ map (on_columns (map g other)) rows
rows_whole g count other [] all = refl
rows_whole g count other (s ∷ rows) all = ap₂ (λ (x : Stamped) (xs : List Stamped). x ∷ xs) (ap (stamp s) (projected_whole s.row g count other all)) (rows_whole g count other rows all)

-- ---- its own columns

abbrev ordinal_of : ProjColumn → ℕ
ordinal_of c = c.ordinal

other_number : (a b : ℕ) → a ≢ b → (a == b) ≡ false
other_number a b differ = by (a == b) refl
  where
    by : (r : Bool) → (a == b) ≡ r → r ≡ false
    by true is = absurd (differ (eqb-true a b is))
    by false is = refl

place_itself : (cs : List ProjColumn) (i : ℕ) (d : ℕ) → Pairwise (λ k l. k.ordinal ≢ l.ordinal) cs → i < length cs → place_in (map ordinal_of cs) (get_or (map ordinal_of cs) i d) ≡ i
place_itself [] i d once lt = absurd (omega (arith, lt))
place_itself (c ∷ cs) zero d once lt = ap (λ (b : Bool). cond b zero (suc (place_in (map ordinal_of cs) c.ordinal))) (eq-eqb c.ordinal c.ordinal refl)
place_itself (c ∷ cs) (suc i) d once lt =
    let n = get_or (map ordinal_of cs) i d in
    let below : i < length cs = omega (arith, lt) in
    let same : n ≡ (get_or cs i c).ordinal = get_or-map ordinal_of cs i c d below in
    let differ : c.ordinal ≢ n = λ e. once.0 i c below (e ∙ same) in
    ap (λ (b : Bool). cond b zero (suc (place_in (map ordinal_of cs) n))) (other_number c.ordinal n differ) ∙ ap suc (place_itself cs i d once.1 below)

pub projected_itself : (row : List Value) (cs : List ProjColumn) → Pairwise (λ k l. k.ordinal ≢ l.ordinal) cs → length row ≡ length cs
    → projected row (map (place_in (map (λ c. c.ordinal) cs)) (map (λ c. c.ordinal) cs)) ≡ row
projected_itself row cs once long =
    ext_get_or value.Null (map (cell row) (map place own)) row (wide ∙ sym long) (λ i lt.
    let below : i < length cs = omega (arith, lt, wide) in
    let inside : i < length own = omega (arith, below, length-map cs ordinal_of) in
    let placed : i < length (map place own) = omega (arith, inside, length-map own place) in
    get_or-map (cell row) (map place own) i 0 value.Null placed ∙ ap (cell row) (get_or-map place own i 0 0 inside ∙ place_itself cs i 0 once below))
  where
    own : List ℕ
    own = map ordinal_of cs

    place : ℕ → ℕ
    place = place_in own

    wide : length (map (cell row) (map place own)) ≡ length cs
    wide = length-map (map place own) (cell row) ∙ length-map own place ∙ length-map cs ordinal_of

pub rows_themselves : (cs : List ProjColumn) (rows : List Stamped) → Pairwise (λ k l. k.ordinal ≢ l.ordinal) cs → All (λ s. length s.row ≡ length cs) rows
    → map (on_columns (map (place_in (map (λ c. c.ordinal) cs)) (map (λ c. c.ordinal) cs))) rows ≡ rows
rows_themselves cs [] once long = refl
rows_themselves cs (s ∷ rows) once long =
    ap₂ (λ (x : Stamped) (xs : List Stamped). x ∷ xs) (ap (stamp s) (projected_itself s.row cs once (All-head (λ x. length x.row ≡ length cs) s rows long)))
    (rows_themselves cs rows once (All-tail (λ x. length x.row ≡ length cs) s rows long))
