-- Places of columns among a source's, and rows with these columns.
use Rattle.std.proofs.Common.{◌≡◌, ℕ, zero, suc, ◌<◌, ◌++◌, List, [], ◌∷◌, length, map, take, get_or, refl, sym, ◌∙◌, ap, ap₂, subst, arith}
use Rattle.std.specs.List.{slice_index_or}
use Rattle.col_value.specs.declared.value.Value.{Value}
use Rattle.col_value.specs.declared.value.Value.TheVariants as value
use Rattle.col_value.specs.declared.row.Stamped.{Stamped}
use Rattle.col_value.specs.Order.{projected}
use Rattle.row_history.specs.History.{on_columns}
use Rattle.catalog_types.specs.declared.catalogue.ProjColumn.{ProjColumn}
use Rattle.table_jobs.specs.Sources.{ordinals_of, ArePlaces, IsPlaceOf}

-- ---- where they are found

pub place_is : (columns : List ProjColumn) (i : ℕ) (c : ProjColumn) (ordinal : ℕ) → i < length columns → c ≡ get_or columns i c → c.ordinal ≡ ordinal → IsPlaceOf (ordinals_of columns) i ordinal
place_is [] i c ordinal lt is same = absurd (omega (arith, lt))
place_is (x ∷ columns) zero c ordinal lt is same = (omega arith, ap (λ (y : ProjColumn). y.ordinal) (sym is) ∙ same)
place_is (x ∷ columns) (suc i) c ordinal lt is same =
    let (below, at) = place_is columns i c ordinal (omega (arith, lt)) is same in
    (omega (arith, below), at)

pub places_push : (source out : List ℕ) (columns : List ProjColumn) (i : ℕ) (c : ProjColumn) (k : ℕ) → i < length columns → c ≡ get_or columns i c → IsPlaceOf source k c.ordinal → ArePlaces source out (ordinals_of (take i columns))
    → ArePlaces source (out ++ k ∷ []) (ordinals_of (take (suc i) columns))
places_push source out [] i c k lt is at are = absurd (omega (arith, lt))
places_push source [] (x ∷ columns) zero c k lt is at are = (subst (λ (y : ProjColumn). IsPlaceOf source k y.ordinal) is at, tt)
places_push source (y ∷ out) (x ∷ columns) zero c k lt is at are = absurd are
places_push source [] (x ∷ columns) (suc i) c k lt is at are = absurd are
places_push source (y ∷ out) (x ∷ columns) (suc i) c k lt is at (here, are) = (here, places_push source out columns i c k (omega (arith, lt)) is at are)

-- ---- rows with these columns

places_same : (row : List Value) (source via new : List ℕ) → ArePlaces source via new → projected (projected row source) via ≡ projected row new
places_same row source [] [] all = refl
places_same row source [] (o ∷ new) all = absurd all
places_same row source (k ∷ via) [] all = absurd all
places_same row source (k ∷ via) (o ∷ new) ((lt, is), all) =
    ap₂ (λ (v : Value) (vs : List Value). v ∷ vs) (at source k lt ∙ ap (λ (x : ℕ). slice_index_or row x value.Null) is) (places_same row source via new all)
  where
    at : (cs : List ℕ) (i : ℕ) → i < length cs → slice_index_or (projected row cs) i value.Null ≡ slice_index_or row (slice_index_or cs i 0) value.Null
    at [] i lt = absurd (omega (arith, lt))
    at (c ∷ cs) zero lt = refl
    at (c ∷ cs) (suc i) lt = at cs i (omega (arith, lt))

pub columns_via : (source via new : List ℕ) → ArePlaces source via new → (rows : List Stamped) → map (on_columns via) (map (on_columns source) rows) ≡ map (on_columns new) rows
columns_via source via new are [] = refl
columns_via source via new are (s ∷ rows) = ap₂ (λ (t : Stamped) (ts : List Stamped). t ∷ ts) (ap (make s) (places_same s.row source via new are)) (columns_via source via new are rows)
  where
    make : Stamped → List Value → Stamped
    make t row = record t { row = row }
