-- Whether a row is good, value by value.
use Rattle.std.proofs.Common.{◌≡◌, ◌↔◌, ℕ, zero, suc, ◌+◌, ◌<◌, ◌≤◌, ◌++◌, Bool, true, false, List, [], ◌∷◌, length, get_or, drop, IsTrue, refl, sym, ap, ap₂, ◌∙◌, subst}
use Rattle.std.specs.Prelude.{Option, Some, None, slice_index_or}
use Rattle.std.specs.Option.{IfSome}
use Rattle.std.specs.List.{All, AllZip}
use Rattle.std.proofs.lemmas.Bool.{false≢true}
use Rattle.std.proofs.lemmas.List.{append-nil, drop_more, drop_all}
use Rattle.std.proofs.lemmas.List.Elements.{All-nil, All-cons, All-head, All-tail}
use Rattle.catalog_types.specs.declared.catalogue.ProjColumn.{ProjColumn}
use Rattle.catalog_types.specs.declared.catalogue.Projection.{Projection}
use Rattle.catalog_types.specs.declared.catalogue.Table.{Table}
use Rattle.col_value.specs.Order.{IsRow, IsValue}
use Rattle.col_value.specs.declared.row.Stamped.{Stamped}
use Rattle.col_value.specs.declared.value.Value.{Value}
use Rattle.col_value.specs.declared.value.Value.TheVariants as value
use Rattle.row_history.specs.History.{stamped}
use Rattle.audit_model.specs.Rows.{FitsColumn, IsGoodIn, IsGoodRow, judged_in}
use Rattle.audit_rows.specs.Blocks.{asked_at, row_at}
use Rattle.audit_rows.specs.Judged.{rows_with}

-- ---- column by column

apart : (t : Table) (own : List ProjColumn) (columns : List (List Value)) (i j : ℕ) (o : ProjColumn) (vs : List Value) → j < length own → j < length columns → o ≡ get_or own j o → vs ≡ get_or columns j vs
    → AllZip (FitsColumn t) (drop j own) (row_at (drop j columns) i) ≡ AllZip (FitsColumn t) (o ∷ drop (j + 1) own) (row_at (vs ∷ drop (j + 1) columns) i)
apart t own columns i j o vs lt also at in_columns =
    ap₂ (λ (os : List ProjColumn) (cs : List (List Value)). AllZip (FitsColumn t) os (row_at cs i))
    (drop_more own j o lt ∙ ap (λ (x : ProjColumn). x ∷ drop (j + 1) own) (sym at)) (drop_more columns j vs also ∙ ap (λ (x : List Value). x ∷ drop (j + 1) columns) (sym in_columns))

pub fits_next : {X : Type 0} (t : Table) (own : List ProjColumn) (columns : List (List Value)) (i j : ℕ) (o : ProjColumn) (vs : List Value) → j < length own → j < length columns → o ≡ get_or own j o → vs ≡ get_or columns j vs
    → FitsColumn t o (slice_index_or vs i value.Null) → (AllZip (FitsColumn t) (drop j own) (row_at (drop j columns) i) ↔ X) → (AllZip (FitsColumn t) (drop (j + 1) own) (row_at (drop (j + 1) columns) i) ↔ X)
fits_next t own columns i j o vs lt also at in_columns fits was =
    let same = apart t own columns i j o vs lt also at in_columns in
    (λ rest. was.0 (subst (λ (P : Type 0). P) (sym same) (fits, rest)), λ x. (subst (λ (P : Type 0). P) same (was.1 x)).1)

pub fits_not : {X : Type 0} (t : Table) (own : List ProjColumn) (columns : List (List Value)) (i j : ℕ) (o : ProjColumn) (vs : List Value) → j < length own → j < length columns → o ≡ get_or own j o → vs ≡ get_or columns j vs
    → (FitsColumn t o (slice_index_or vs i value.Null) → ⊥) → (AllZip (FitsColumn t) (drop j own) (row_at (drop j columns) i) ↔ X) → IsTrue false ↔ X
fits_not t own columns i j o vs lt also at in_columns lacks was =
    let same = apart t own columns i j o vs lt also at in_columns in
    (λ yes. absurd (false≢true yes), λ x. absurd (lacks (subst (λ (P : Type 0). P) same (was.1 x)).0))

pub fits_all : {X : Type 0} (t : Table) (own : List ProjColumn) (columns : List (List Value)) (i j : ℕ) → length own ≤ j → length columns ≤ j → (AllZip (FitsColumn t) (drop j own) (row_at (drop j columns) i) ↔ X) → IsTrue true ↔ X
fits_all t own columns i j past also was =
    let same = ap₂ (λ (os : List ProjColumn) (cs : List (List Value)). AllZip (FitsColumn t) os (row_at cs i)) (drop_all j own past) (drop_all j columns also) in
    (λ yes. was.0 (subst (λ (P : Type 0). P) (sym same) tt), λ x. refl)

-- ---- the values are values of a table

value_of : (vs : List Value) (i : ℕ) → All IsValue vs → IsValue (slice_index_or vs i value.Null)
value_of [] i all = tt
value_of (v ∷ vs) zero all = All-head IsValue v vs all
value_of (v ∷ vs) (suc i) all = value_of vs i (All-tail IsValue v vs all)

pub row_of_values : (columns : List (List Value)) (i : ℕ) → All (All IsValue) columns → IsRow (row_at columns i)
row_of_values [] i all = All-nil IsValue
row_of_values (vs ∷ columns) i all = All-cons IsValue (slice_index_or vs i value.Null) (row_at columns i) (value_of vs i (All-head (All IsValue) vs columns all)) (row_of_values columns i (All-tail (All IsValue) vs columns all))

-- ---- a row

pub sound_both : (t : Table) (p : Projection) (own : List ProjColumn) (columns : List (List Value)) (i ins : ℕ) (del : Option ℕ) (r : Bool) → own ≡ p.columns → All (All IsValue) columns → IfSome del (λ d. ins < d)
    → (IsTrue r ↔ AllZip (FitsColumn t) own (row_at columns i)) → IsTrue r ↔ IsGoodRow t p (stamped del (asked_at columns i ins))
sound_both t p own columns i ins del r same values later fits =
    let each : (IsTrue r ↔ AllZip (FitsColumn t) p.columns (row_at columns i)) = subst (λ (os : List ProjColumn). IsTrue r ↔ AllZip (FitsColumn t) os (row_at columns i)) same fits in
    (λ yes. record { values = row_of_values columns i values; each = each.0 yes; later = later }, λ good. each.1 good.each)

pub sound_not : (t : Table) (p : Projection) (columns : List (List Value)) (i ins : ℕ) (del : Option ℕ) → (IfSome del (λ d. ins < d) → ⊥) → IsTrue false ↔ IsGoodRow t p (stamped del (asked_at columns i ins))
sound_not t p columns i ins del not_later = (λ yes. absurd (false≢true yes), λ good. absurd (not_later good.later))

pub good_some : (epoch mark : ℕ) (t : Table) (p : Projection) (columns : List (List Value)) (i ins : ℕ) (del cut : Option ℕ) (found : Option (Option ℕ)) (r : Bool) → found ≡ Some cut
    → judged_in epoch mark (stamped del (asked_at columns i ins) ∷ []) ≡ rows_with (asked_at columns i ins) found
    → (IsTrue r ↔ IsGoodRow t p (stamped cut (asked_at columns i ins))) → IsTrue r ↔ IsGoodIn epoch mark t p (stamped del (asked_at columns i ins))
good_some epoch mark t p columns i ins del cut found r at is sound =
    let one : Stamped = stamped cut (asked_at columns i ins) in
    let same : judged_in epoch mark (stamped del (asked_at columns i ins) ∷ []) ≡ stamped cut (asked_at columns i ins) ∷ [] = is ∙ ap (rows_with (asked_at columns i ins)) at in (
      λ yes. subst (All (IsGoodRow t p)) (sym same) (All-cons (IsGoodRow t p) one [] (sound.0 yes) (All-nil (IsGoodRow t p))),
      λ good. sound.1 (All-head (IsGoodRow t p) one [] (subst (All (IsGoodRow t p)) same good)),
    )

pub good_none : (epoch mark : ℕ) (t : Table) (p : Projection) (columns : List (List Value)) (i ins : ℕ) (del : Option ℕ) (found : Option (Option ℕ)) → found ≡ None
    → judged_in epoch mark (stamped del (asked_at columns i ins) ∷ []) ≡ rows_with (asked_at columns i ins) found → IsTrue true ↔ IsGoodIn epoch mark t p (stamped del (asked_at columns i ins))
good_none epoch mark t p columns i ins del found at is = (λ yes. subst (All (IsGoodRow t p)) (sym (is ∙ ap (rows_with (asked_at columns i ins)) at)) (All-nil (IsGoodRow t p)), λ good. refl)

-- ---- what is collected of it

pub added : (epoch mark : ℕ) (columns : List (List Value)) (i ins : ℕ) (del cut : Option ℕ) (found : Option (Option ℕ)) (row : List Value) (old next : List Stamped) → found ≡ Some cut → row ≡ row_at columns i
    → judged_in epoch mark (stamped del (asked_at columns i ins) ∷ []) ≡ rows_with (asked_at columns i ins) found → next ≡ old ++ (record { row = row; ins = ins; del = cut }) ∷ []
    → next ≡ old ++ judged_in epoch mark (stamped del (asked_at columns i ins) ∷ [])
added epoch mark columns i ins del cut found row old next at row_is is next_is =
    next_is
    ∙ ap (λ (values : List Value). old ++ (record { row = values; ins = ins; del = cut }) ∷ []) row_is
    ∙ ap (λ (xs : List Stamped). old ++ xs) (sym (is ∙ ap (rows_with (asked_at columns i ins)) at))

pub added_none : (epoch mark : ℕ) (columns : List (List Value)) (i ins : ℕ) (del : Option ℕ) (found : Option (Option ℕ)) (old : List Stamped) → found ≡ None
    → judged_in epoch mark (stamped del (asked_at columns i ins) ∷ []) ≡ rows_with (asked_at columns i ins) found → old ≡ old ++ judged_in epoch mark (stamped del (asked_at columns i ins) ∷ [])
added_none epoch mark columns i ins del found old at is = sym (append-nil old) ∙ ap (λ (xs : List Stamped). old ++ xs) (sym (is ∙ ap (rows_with (asked_at columns i ins)) at))
