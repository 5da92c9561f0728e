-- The columns of a block, as far as they are read.
use Rattle.std.proofs.Common.{◌≡◌, ℕ, zero, suc, ◌+◌, ◌<◌, ◌⊎◌, inl, inr, Bool, List, [], ◌∷◌, length, replicate, set, take, drop, ◌++◌, get_or, refl, sym, ap, ap₂, ◌∙◌, arith, subst}
use Rattle.std.specs.Prelude.{Option, Some, None}
use Rattle.std.specs.List.{slice_get}
use Rattle.std.specs.Option.{IfSome}
use Rattle.std.proofs.lemmas.List.{get_or-set_other, get_or-set_same, take-append-le, take_all}
use Rattle.std.proofs.lemmas.List.Elements.{All-cons, All-nil}
use Rattle.col_value.specs.declared.row.Asked.{Asked}
use Rattle.col_value.specs.declared.value.Value.{Value}
use Rattle.col_value.specs.declared.value.Value.TheVariants as value
use Rattle.query_cover.specs.Seen.{placed, value_at}
use Rattle.exec_scan.specs.Batches.{AreLong, cell, IsLong, row_of}
use Rattle.exec_scan.specs.Reading.{AreColumns, AreFilled, column_of, Fills, HaveRows, IsColumn, values_at}

-- ---- none is read

abbrev no_column : Option (List Value)
no_column = None

none_at : (n c : ℕ) → get_or (replicate n no_column) c None ≡ no_column
none_at zero c = refl
none_at (suc n) zero = refl
none_at (suc n) (suc c) = none_at n c

pub unread_columns : (n : ℕ) (columns : List (Option (List Value))) (places : List (Option ℕ)) (rows : List Asked) → columns ≡ replicate n None → AreColumns places columns rows
unread_columns n columns places rows is c =
    subst (λ (o : Option (List Value)). IfSome o (λ vs. column_of (get_or places c None) rows ≡ Some vs)) (sym (ap (λ (cs : List (Option (List Value))). get_or cs c None) is ∙ none_at n c)) tt

pub unread_long : (n count : ℕ) (columns : List (Option (List Value))) → columns ≡ replicate n None → AreLong count columns
unread_long n count columns is = subst (λ (cs : List (Option (List Value))). AreLong count cs) (sym is) (by n)
  where
    by : (k : ℕ) → AreLong count (replicate k None)
    by zero = All-nil (IsLong count)
    by (suc k) = All-cons (IsLong count) None (replicate k None) tt (by k)

-- what stands in a vector after its slice was written
pub written_back : {X : Type 0} (n : ℕ) (new old : List X) → length new ≡ length old → n ≡ length old → take n (new ++ drop (length new) old) ≡ new
written_back n new old long many = take-append-le n new (drop (length new) old) (omega (arith, long, many)) ∙ take_all n new (omega (arith, long, many))

-- ---- one more is read

pub equal_or : (c d : ℕ) → (c ≡ d) ⊎ (c ≡ d → ⊥)
equal_or c d = by (grind arith)
  where
    by : (c ≡ d) ⊎ ((c < d) ⊎ (d < c)) → (c ≡ d) ⊎ (c ≡ d → ⊥)
    by (inl same) = inl same
    by (inr (inl less)) = inr (λ same. omega (arith, same, less))
    by (inr (inr more)) = inr (λ same. omega (arith, same, more))

some_same : (o q : Option (List Value)) → o ≡ q → IfSome o (λ vs. q ≡ Some vs)
some_same None q is = tt
some_same (Some vs) q is = sym is

-- what was read before is the column
pub fills_none : (column : ℕ) (places : List (Option ℕ)) (columns : List (Option (List Value))) (rows : List Asked) (vs : List Value) → get_or columns column None ≡ Some vs → Fills column places columns columns rows
fills_none column places columns rows vs is = record {
  here = λ are. is ∙ sym (subst (λ (o : Option (List Value)). IfSome o (λ ws. column_of (get_or places column None) rows ≡ Some ws)) is (are column));
  others = λ c other. refl;
}

pub fills_one : (column : ℕ) (places : List (Option ℕ)) (columns : List (Option (List Value))) (new : Option (List Value)) (rows : List Asked) → column < length columns → IsColumn (get_or places column None) new rows
    → Fills column places columns (set columns column new) rows
fills_one column places columns new rows lt is = record {
  here = λ are. get_or-set_same columns column new None lt ∙ is;
  others = λ c other. get_or-set_other columns column c new None other;
}

pub columns_filled : (column : ℕ) (places : List (Option ℕ)) (old new : List (Option (List Value))) (rows : List Asked) → Fills column places old new rows → AreColumns places old rows → AreColumns places new rows
columns_filled column places old new rows fills are c = by (equal_or c column)
  where
    by : (c ≡ column) ⊎ (c ≡ column → ⊥) → IfSome (get_or new c None) (λ vs. column_of (get_or places c None) rows ≡ Some vs)
    by (inl same) =
        subst (λ (n : ℕ). IfSome (get_or new n None) (λ vs. column_of (get_or places n None) rows ≡ Some vs)) (sym same)
        (some_same (get_or new column None) (column_of (get_or places column None) rows) (fills.here are))
    by (inr other) = subst (λ (o : Option (List Value)). IfSome o (λ vs. column_of (get_or places c None) rows ≡ Some vs)) (sym (fills.others c other)) (are c)

pub filled_none : (places : List (Option ℕ)) (columns : List (Option (List Value))) (rows : List Asked) → AreColumns places columns rows → AreFilled places 0 columns rows
filled_none places columns rows are = record { read = are; whole = λ c lt. absurd (omega (arith, lt)) }

pub filled_more : (places : List (Option ℕ)) (column : ℕ) (old new : List (Option (List Value))) (rows : List Asked) → Fills column places old new rows → AreFilled places column old rows → AreFilled places (column + 1) new rows
filled_more places column old new rows fills filled = record {
  read = columns_filled column places old new rows fills filled.read;
  whole = λ c lt. by c lt (equal_or c column);
}
  where
    by : (c : ℕ) → c < column + 1 → (c ≡ column) ⊎ (c ≡ column → ⊥) → get_or new c None ≡ column_of (get_or places c None) rows
    by c lt (inl same) = subst (λ (n : ℕ). get_or new n None ≡ column_of (get_or places n None) rows) (sym same) (fills.here filled.read)
    by c lt (inr other) = fills.others c other ∙ filled.whole c (below c lt other)
      where
        below : (n : ℕ) → n < column + 1 → (n ≡ column → ⊥) → n < column
        below n lt other = omega (arith, lt, other)

-- ---- rows made of columns

value_here : (place i : ℕ) (rows : List Asked) → IfSome (slice_get rows i) (λ a. get_or (values_at place rows) i value.Null ≡ get_or a.row place value.Null)
value_here place i [] = tt
value_here place zero (a ∷ rows) = refl
value_here place (suc i) (a ∷ rows) = value_here place i rows

pub cell_here : (place : Option ℕ) (column : Option (List Value)) (i : ℕ) (rows : List Asked) → IsColumn place column rows → IfSome (slice_get rows i) (λ a. cell i column ≡ value_at a.row place)
cell_here None column i rows is = by (slice_get rows i)
  where
    by : (o : Option Asked) → IfSome o (λ a. cell i column ≡ value_at a.row None)
    by None = tt
    by (Some a) = ap (cell i) is
cell_here (Some place) column i rows is = by (slice_get rows i) (value_here place i rows)
  where
    by : (o : Option Asked) → IfSome o (λ a. get_or (values_at place rows) i value.Null ≡ get_or a.row place value.Null) → IfSome o (λ a. cell i column ≡ value_at a.row (Some place))
    by None here = tt
    by (Some a) here = ap (cell i) is ∙ here

row_is : (columns : List (Option (List Value))) (places : List (Option ℕ)) (i : ℕ) (row : List Value) → length columns ≡ length places → ((c : ℕ) → c < length places → cell i (get_or columns c None) ≡ value_at row (get_or places c None))
    → row_of columns i ≡ placed places row
row_is [] [] i row long each = refl
row_is [] (p ∷ places) i row long each = absurd (omega (arith, long))
row_is (v ∷ columns) [] i row long each = absurd (omega (arith, long))
row_is (v ∷ columns) (p ∷ places) i row long each =
    ap₂ (λ (x : Value) (xs : List Value). x ∷ xs) (each 0 (omega arith)) (row_is columns places i row (omega (arith, long)) (λ c lt. each (suc c) (omega (arith, lt))))

-- where all columns are read, so are the rows
pub rows_filled : (places : List (Option ℕ)) (alive : List Bool) (columns : List (Option (List Value))) (rows : List Asked) → length columns ≡ length places → AreFilled places (length places) columns rows → HaveRows places alive columns rows
rows_filled places alive columns rows long filled i on = by (slice_get rows i) (λ c lt. cell_here (get_or places c None) (get_or columns c None) i rows (filled.whole c lt))
  where
    by : (o : Option Asked) → ((c : ℕ) → c < length places → IfSome o (λ a. cell i (get_or columns c None) ≡ value_at a.row (get_or places c None))) → IfSome o (λ a. row_of columns i ≡ placed places a.row)
    by None each = tt
    by (Some a) each = row_is columns places i a.row long each
