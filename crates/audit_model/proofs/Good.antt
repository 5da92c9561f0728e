-- Rows that fit a table fit a projection in its columns, and the other way round.
use Rattle.std.proofs.Common.{◌≡◌, ◌<◌, ℕ, zero, suc, ◌+◌, List, [], ◌∷◌, length, map, Bool, true, false, cond, refl, sym, ap, arith, subst}
use Rattle.std.specs.Prelude.{◌==◌, ◌||◌, slice_index_or, Option, Some, None, IsSomeAnd, IfSome}
use Rattle.std.specs.List.{All, AllZip, slice_get, range_with_len}
use Rattle.std.proofs.lemmas.List.Elements.{All-nil, All-cons, All-head, All-tail}
use Rattle.std.proofs.lemmas.Bool.{eqb-true}
use Rattle.row_history.proofs.Histories.{map_mapped}
use Rattle.col_value.specs.declared.column.Column.{Column}
use Rattle.col_value.specs.declared.row.Stamped.{Stamped}
use Rattle.col_value.specs.declared.value.Value.{Value}
use Rattle.col_value.specs.declared.value.Value.TheVariants as value
use Rattle.col_value.specs.Order.{IsRow, IsValue, projected}
use Rattle.catalog_types.specs.declared.catalogue.ProjColumn.{ProjColumn}
use Rattle.catalog_types.specs.declared.catalogue.Projection.{Projection}
use Rattle.catalog_types.specs.declared.catalogue.Table.{Table}
use Rattle.db_model.specs.Sound.{RowFits, ValueFits}
use Rattle.folder_model.specs.Projections.{ordinals}
use Rattle.row_history.specs.History.{on_columns}
use Rattle.audit_model.specs.Pairs.{place_in}
use Rattle.audit_model.specs.Rows.{FitsColumn, IsGoodRow}
use Rattle.audit_model.proofs.Columns.{has}

-- a value of a row, or NULL where there is none
cell_value : (row : List Value) (i : ℕ) → IsRow row → IsValue (slice_index_or row i value.Null)
cell_value [] i is = tt
cell_value (v ∷ row) zero is = All-head IsValue v row is
cell_value (v ∷ row) (suc i) is = cell_value row i (All-tail IsValue v row is)

projected_values : (row : List Value) (columns : List ℕ) → IsRow row → IsRow (projected row columns)
projected_values row [] is = All-nil IsValue
projected_values row (c ∷ columns) is = All-cons IsValue (slice_index_or row c value.Null) (projected row columns) (cell_value row c is) (projected_values row columns is)

-- ---- to the columns of a projection

-- what stands at a place of two lists that go together
zip_at : (columns : List Column) (row : List Value) (i : ℕ) (Q : Column → Type 0) → AllZip ValueFits columns row → IsSomeAnd (slice_get columns i) Q
    → IsSomeAnd (slice_get columns i) (λ column. ValueFits column (slice_index_or row i value.Null))
zip_at [] row i Q all there = absurd there
zip_at (c ∷ columns) [] i Q all there = absurd all
zip_at (c ∷ columns) (v ∷ row) zero Q all there = all.0
zip_at (c ∷ columns) (v ∷ row) (suc i) Q all there = zip_at columns row i Q all.1 there

-- each column of the projection is one of the table's
abbrev pub AreOf : Table → (Column → Type 0) → List ProjColumn → Type 0
AreOf t Q ks = All (λ k. IsSomeAnd (slice_get t.columns k.ordinal) Q) ks

fits_columns : (t : Table) (row : List Value) (Q : ProjColumn → Column → Type 0) (ks : List ProjColumn) → AllZip ValueFits t.columns row → All (λ k. IsSomeAnd (slice_get t.columns k.ordinal) (Q k)) ks
    → AllZip (FitsColumn t) ks (projected row (map (λ k. k.ordinal) ks))
fits_columns t row Q [] all of = tt
fits_columns t row Q (k ∷ ks) all of =
    (zip_at t.columns row k.ordinal (Q k) all (All-head (λ x. IsSomeAnd (slice_get t.columns x.ordinal) (Q x)) k ks of), fits_columns t row Q ks all (All-tail (λ x. IsSomeAnd (slice_get t.columns x.ordinal) (Q x)) k ks of))

pub good_in : (t : Table) (p : Projection) (Q : ProjColumn → Column → Type 0) (s : Stamped) → All (λ k. IsSomeAnd (slice_get t.columns k.ordinal) (Q k)) p.columns → RowFits t.columns s.row
    → IfSome s.del (λ d. s.ins < d) → IsGoodRow t p (on_columns (ordinals p) s)
good_in t p Q s of fits later = record {
  values = projected_values s.row (ordinals p) fits.values;
  each = fits_columns t s.row Q p.columns fits.each of;
  later = later;
}

-- ---- to those of the table

-- a column of the projection stands where its number says
fits_at : (t : Table) (ks : List ProjColumn) (row : List Value) (i : ℕ) → AllZip (FitsColumn t) ks row → has (map (λ k. k.ordinal) ks) i ≡ true
    → IsSomeAnd (slice_get t.columns i) (λ column. ValueFits column (slice_index_or row (place_in (map (λ k. k.ordinal) ks) i) value.Null))
fits_at t [] row i all there = absurd cc
fits_at t (k ∷ ks) [] i all there = absurd all
fits_at t (k ∷ ks) (v ∷ row) i all there = by (k.ordinal == i) refl there (fits_at t ks row i all.1)
  where
    more : ℕ
    more = place_in (map (λ (x : ProjColumn). x.ordinal) ks) i

    by : (b : Bool) → (k.ordinal == i) ≡ b → (b || has (map (λ x. x.ordinal) ks) i) ≡ true → (has (map (λ x. x.ordinal) ks) i ≡ true → IsSomeAnd (slice_get t.columns i) (λ column. ValueFits column (slice_index_or row more value.Null)))
        → IsSomeAnd (slice_get t.columns i) (λ column. ValueFits column (slice_index_or (v ∷ row) (cond b zero (suc more)) value.Null))
    by true is found later = subst (λ (n : ℕ). IsSomeAnd (slice_get t.columns n) (λ column. ValueFits column v)) (eqb-true k.ordinal i is) all.0
    by false is found later = later found

got : {X : Type 0} (P : X → Type 0) (o : Option X) (x : X) → o ≡ Some x → IsSomeAnd o P → P x
got P o x is there = subst (λ (q : Option _). IsSomeAnd q P) is there

fits_from : (g : ℕ → Value) (from : ℕ) (columns : List Column) → ((i : ℕ) (c : Column) → slice_get columns i ≡ Some c → ValueFits c (g (from + i))) → AllZip ValueFits columns (map g (range_with_len from (length columns)))
fits_from g from [] each = tt
fits_from g from (c ∷ columns) each =
    (subst (λ (n : ℕ). ValueFits c (g n)) (omega arith) (each 0 c refl), fits_from g (from + 1) columns (λ i d is. subst (λ (n : ℕ). ValueFits d (g n)) (omega arith) (each (suc i) d is)))

pub fits_whole : (t : Table) (p : Projection) (s : Stamped) → ((i : ℕ) → i < length t.columns → has (ordinals p) i ≡ true) → IsGoodRow t p s
    → RowFits t.columns (projected s.row (map (place_in (ordinals p)) (range_with_len 0 (length t.columns))))
fits_whole t p s all good = record {
  values = projected_values s.row (map (place_in (ordinals p)) (range_with_len 0 (length t.columns))) good.values;
  each = subst (AllZip ValueFits t.columns) (sym (map_mapped cell (place_in (ordinals p)) (range_with_len 0 (length t.columns))))
      (fits_from (λ n. cell (place_in (ordinals p) n)) 0 t.columns (λ i column is.
      subst (λ (n : ℕ). ValueFits column (cell (place_in (ordinals p) n))) (omega arith)
      (got (λ x. ValueFits x (cell (place_in (ordinals p) i))) (slice_get t.columns i) column is (fits_at t p.columns s.row i good.each (all i (inside t.columns i column is))))));
}
  where
    cell : ℕ → Value
    cell c = slice_index_or s.row c value.Null

    inside : (xs : List Column) (i : ℕ) (x : Column) → slice_get xs i ≡ Some x → i < length xs
    inside [] i x is = absurd (let never : None ≡ Some x = is in cc)
    inside (y ∷ xs) zero x is = omega arith
    inside (y ∷ xs) (suc i) x is = let rest = inside xs i x is in omega (arith, rest)

-- a row has a value for each column
pub good_long : (t : Table) (p : Projection) (s : Stamped) → IsGoodRow t p s → length s.row ≡ length p.columns
good_long t p s good = long p.columns s.row good.each
  where
    long : (ks : List ProjColumn) (row : List Value) → AllZip (FitsColumn t) ks row → length row ≡ length ks
    long [] [] all = refl
    long [] (v ∷ row) all = absurd all
    long (k ∷ ks) [] all = absurd all
    long (k ∷ ks) (v ∷ row) all = ap suc (long ks row all.1)
