-- Rows of a projection that has all columns of its table: the whole rows are found in them.
use Rattle.std.proofs.Common.{◌≡◌, ℕ, ◌<◌, ◌∙◌, Bool, true, false, cond, List, [], ◌∷◌, length, map, refl, sym, ap, subst, arith}
use Rattle.std.specs.Prelude.{◌==◌, ◌||◌, slice_index_or}
use Rattle.std.specs.List.{All, Any, list_any, range_with_len}
use Rattle.std.proofs.lemmas.Bool.{eqb-true, eq-eqb}
use Rattle.std.proofs.lemmas.List.{ext_get_or}
use Rattle.std.proofs.lemmas.List.Elements.{All-head, All-tail}
use Rattle.std.proofs.lemmas.List.Folds.{list_any-from_Any}
use Rattle.std.proofs.lemmas.List.FromFn.{length-map-range_with_len, get_or-map-range_with_len}
use Rattle.common_laws.specs.Bags.{SameBag}
use Rattle.common_laws.proofs.BagLaws.{bag_map}
use Rattle.col_value.specs.declared.value.Value.{Value}
use Rattle.col_value.specs.declared.value.Value.TheVariants as value
use Rattle.col_value.specs.declared.row.Stamped.{Stamped}
use Rattle.col_value.specs.Order.{projected}
use Rattle.row_history.specs.History.{on_columns}
use Rattle.catalog_types.specs.declared.catalogue.ProjColumn.{ProjColumn}

-- the value of a column of the table, in a row of a projection with these columns
abbrev pub cell : List ℕ → List Value → ℕ → Value
cell [] values i = value.Null
cell (c ∷ columns) [] i = value.Null
cell (c ∷ columns) (v ∷ values) i = cond (c == i) v (cell columns values i)

cell_there : (columns : List ProjColumn) (row : List Value) (i : ℕ) → list_any (λ c. c.ordinal == i) columns ≡ true
    → cell (map (λ c. c.ordinal) columns) (projected row (map (λ c. c.ordinal) columns)) i ≡ slice_index_or row i value.Null
cell_there [] row i there = absurd cc
cell_there (c ∷ columns) row i there = by (c.ordinal == i) refl (cell_there columns row i) there
  where
    more : Value
    more = cell (map (λ (k : ProjColumn). k.ordinal) columns) (projected row (map (λ (k : ProjColumn). k.ordinal) columns)) i

    by : (b : Bool) → (c.ordinal == i) ≡ b → (list_any (λ (k : ProjColumn). k.ordinal == i) columns ≡ true → more ≡ slice_index_or row i value.Null)
        → (b || list_any (λ (k : ProjColumn). k.ordinal == i) columns) ≡ true → cond b (slice_index_or row c.ordinal value.Null) more ≡ slice_index_or row i value.Null
    by true is later found = ap (λ (n : ℕ). slice_index_or row n value.Null) (eqb-true c.ordinal i is)
    by false is later found = later found

-- all columns of a table of so many are there
abbrev pub HasAll : List ProjColumn → ℕ → Type 0
HasAll columns count = (i : ℕ) → i < count → Any (λ c. c.ordinal ≡ i) columns

tested : (columns : List ProjColumn) (i : ℕ) → Any (λ c. c.ordinal ≡ i) columns → list_any (λ c. c.ordinal == i) columns ≡ true
tested columns i (k, c, lt, at, is) = list_any-from_Any (λ (x : ProjColumn). x.ordinal == i) columns (k, c, lt, at, eq-eqb c.ordinal i is)

abbrev pub whole : List ProjColumn → ℕ → Stamped → Stamped
whole columns count s = record s { row = map (cell (map (λ c. c.ordinal) columns) s.row) (range_with_len 0 count) }

whole_row : (columns : List ProjColumn) (count : ℕ) (row : List Value) → HasAll columns count → length row ≡ count
    → map (cell (map (λ c. c.ordinal) columns) (projected row (map (λ c. c.ordinal) columns))) (range_with_len 0 count) ≡ row
whole_row columns count row all long =
    ext_get_or value.Null (map f (range_with_len 0 count)) row (wide ∙ sym long) (λ i lt.
    let within : i < count = omega (arith, lt, wide) in
    get_or-map-range_with_len f 0 count i i value.Null within (omega arith) ∙ cell_there columns row i (tested columns i (all i within)))
  where
    f : ℕ → Value
    f = cell (map (λ (c : ProjColumn). c.ordinal) columns) (projected row (map (λ (c : ProjColumn). c.ordinal) columns))

    wide : length (map f (range_with_len 0 count)) ≡ count
    wide = length-map-range_with_len f 0 count

whole_again : (columns : List ProjColumn) (count : ℕ) (s : Stamped) → HasAll columns count → length s.row ≡ count → whole columns count (on_columns (map (λ c. c.ordinal) columns) s) ≡ s
whole_again columns count s all long = ap (λ (r : List Value). record s { row = r }) (whole_row columns count s.row all long)

all_again : (columns : List ProjColumn) (count : ℕ) (rows : List Stamped) → HasAll columns count → All (λ s. length s.row ≡ count) rows
    → map (whole columns count) (map (on_columns (map (λ c. c.ordinal) columns)) rows) ≡ rows
all_again columns count [] all long = refl
all_again columns count (s ∷ rows) all long =
    ap (λ (x : Stamped). x ∷ map (whole columns count) (map (on_columns (map (λ c. c.ordinal) columns)) rows)) (whole_again columns count s all (All-head (λ x. length x.row ≡ count) s rows long))
    ∙ ap (λ (xs : List Stamped). s ∷ xs) (all_again columns count rows all (All-tail (λ x. length x.row ≡ count) s rows long))

-- rows that are one bag with all of their columns, whatever the columns' order, are one bag
pub bag_whole : (columns : List ProjColumn) (count : ℕ) (xs ys : List Stamped) → HasAll columns count → All (λ s. length s.row ≡ count) xs → All (λ s. length s.row ≡ count) ys
    → SameBag (map (on_columns (map (λ c. c.ordinal) columns)) xs) (map (on_columns (map (λ c. c.ordinal) columns)) ys) → SameBag xs ys
bag_whole columns count xs ys all long also same =
    subst (λ (zs : List Stamped). SameBag zs ys) (all_again columns count xs all long)
    (subst (SameBag (map (whole columns count) (map (on_columns (map (λ c. c.ordinal) columns)) xs))) (all_again columns count ys all also)
    (bag_map (whole columns count) (map (on_columns (map (λ c. c.ordinal) columns)) xs) (map (on_columns (map (λ c. c.ordinal) columns)) ys) same))
