-- A row of a table, made again of a projection that has all its columns.
use Rattle.std.proofs.Common.{◌≡◌, ◌⊎◌, inl, inr, ℕ, zero, suc, ◌+◌, ◌<◌, ◌++◌, List, [], ◌∷◌, length, drop, get_or, refl, sym, ◌∙◌, ap, ap₂, subst, arith}
use Rattle.std.specs.Prelude.{Option, Some, None, IsSomeAnd}
use Rattle.std.specs.Option.{IfSome}
use Rattle.std.specs.List.{All, slice_get}
use Rattle.std.proofs.Math.Seq.{drop-cons}
use Rattle.std.proofs.lemmas.List.{length-append}
use Rattle.std.proofs.lemmas.List.Elements.{All-cons, All-nil}
use Rattle.col_value.specs.declared.value.Value.{Value}
use Rattle.col_value.specs.declared.value.Value.TheVariants as value
use Rattle.col_value.specs.Order.{projected}
use Rattle.query_cover.specs.Seen.{placed, value_at}
use Rattle.row_matching.specs.Seeing.{ArePlaces}

-- the value at a place of a projected row
value_back : (row : List Value) (columns : List ℕ) (i c : ℕ) → slice_get columns i ≡ Some c → get_or (projected row columns) i value.Null ≡ get_or row c value.Null
value_back row [] i c none = absurd (cc)
value_back row (o ∷ columns) zero c is = let same : o ≡ c = cc in ap (λ (k : ℕ). get_or row k value.Null) same
value_back row (o ∷ columns) (suc i) c is = value_back row columns i c is

one_back : (row : List Value) (columns : List ℕ) (o : Option ℕ) (c : ℕ) → IsSomeAnd o (λ i. slice_get columns i ≡ Some c) → value_at (projected row columns) o ≡ get_or row c value.Null
one_back row columns None c none = absurd none
one_back row columns (Some i) c is = value_back row columns i c is

-- from a column on
row_back : (row : List Value) (columns : List ℕ) (places : List (Option ℕ)) (c : ℕ) → length places + c ≡ length row → ((k : ℕ) → k < length places → IsSomeAnd (get_or places k None) (λ i. slice_get columns i ≡ Some (c + k)))
    → placed places (projected row columns) ≡ drop c row
row_back row columns [] c long each = sym (past row c (omega (arith, long)))
  where
    past : (vs : List Value) (n : ℕ) → n ≡ length vs → drop n vs ≡ []
    past [] zero at = refl
    past [] (suc n) at = refl
    past (v ∷ vs) zero at = absurd (omega (arith, at))
    past (v ∷ vs) (suc n) at = past vs n (omega (arith, at))
row_back row columns (o ∷ places) c long each =
    let below : c < length row = omega (arith, long) in
    let same : c + 0 ≡ c = omega arith in
    let next : (k : ℕ) → c + suc k ≡ suc c + k = λ k. omega arith in
    let first : IsSomeAnd o (λ i. slice_get columns i ≡ Some c) = subst (λ (n : ℕ). IsSomeAnd o (λ i. slice_get columns i ≡ Some n)) same (each zero (omega arith)) in
    let behind = row_back row columns places (suc c) (omega (arith, long)) (λ k lt. subst (λ (n : ℕ). IsSomeAnd (get_or places k None) (λ i. slice_get columns i ≡ Some n)) (next k) (each (suc k) (omega (arith, lt)))) in
    ap₂ (λ (v : Value) (vs : List Value). v ∷ vs) (one_back row columns o c first) behind ∙ sym (drop-cons row c value.Null below)

-- the places from the first column on
place_each : (columns : List ℕ) (count : ℕ) (places : List (Option ℕ)) → ArePlaces columns count places → (k : ℕ) → k < length places → IsSomeAnd (get_or places k None) (λ i. slice_get columns i ≡ Some (0 + k))
place_each columns count places are k lt =
    let same : k ≡ 0 + k = omega arith in
    subst (λ (n : ℕ). IsSomeAnd (get_or places k None) (λ i. slice_get columns i ≡ Some n)) same (are.each k (subst (λ (n : ℕ). k < n) are.long lt))

pub made_again : (row : List Value) (columns : List ℕ) (places : List (Option ℕ)) → ArePlaces columns (length row) places → placed places (projected row columns) ≡ row
made_again row columns places are =
    row_back row columns places 0 (let long = are.long in omega (arith, long)) (place_each columns (length row) places are)

-- the places are those of columns that there are
column_there : (columns : List ℕ) (o : Option ℕ) (c : ℕ) → IsSomeAnd o (λ i. slice_get columns i ≡ Some c) → IfSome o (λ i. i < length columns)
column_there columns None c none = tt
column_there columns (Some i) c is = there columns i c is
  where
    there : (os : List ℕ) (n c : ℕ) → slice_get os n ≡ Some c → n < length os
    there [] n c none = absurd (cc)
    there (o ∷ os) zero c is = omega arith
    there (o ∷ os) (suc n) c is = let more = there os n c is in omega (arith, more)

pub own_places : (columns : List ℕ) (count : ℕ) (places : List (Option ℕ)) → ArePlaces columns count places → All (λ o. IfSome o (λ i. i < length columns)) places
own_places columns count places are = from places 0 (place_each columns count places are)
  where
    from : (ps : List (Option ℕ)) (c : ℕ) → ((k : ℕ) → k < length ps → IsSomeAnd (get_or ps k None) (λ i. slice_get columns i ≡ Some (c + k))) → All (λ o. IfSome o (λ i. i < length columns)) ps
    from [] c each = All-nil (λ (o : Option ℕ). IfSome o (λ i. i < length columns))
    from (o ∷ ps) c each =
        let next : (k : ℕ) → c + suc k ≡ suc c + k = λ k. omega arith in
        All-cons (λ (q : Option ℕ). IfSome q (λ i. i < length columns)) o ps (column_there columns o (c + 0) (each zero (omega arith)))
        (from ps (suc c) (λ k lt. subst (λ (n : ℕ). IsSomeAnd (get_or ps k None) (λ i. slice_get columns i ≡ Some n)) (next k) (each (suc k) (omega (arith, lt)))))

-- ---- places that are found one after the other

pub places_none : (columns : List ℕ) (out : List (Option ℕ)) → out ≡ [] → ArePlaces columns 0 out
places_none columns out is = record { long = ap length is; each = λ c lt. absurd (omega (arith, lt)) }

last_at : (out : List (Option ℕ)) (o : Option ℕ) → get_or (out ++ o ∷ []) (length out) None ≡ o
last_at [] o = refl
last_at (x ∷ out) o = last_at out o

before_at : (out : List (Option ℕ)) (o : Option ℕ) (k : ℕ) → k < length out → get_or (out ++ o ∷ []) k None ≡ get_or out k None
before_at [] o k lt = absurd (omega (arith, lt))
before_at (x ∷ out) o zero lt = refl
before_at (x ∷ out) o (suc k) lt = before_at out o k (omega (arith, lt))

pub places_next : (columns : List ℕ) (c : ℕ) (out next : List (Option ℕ)) (i : ℕ) → next ≡ out ++ Some i ∷ [] → slice_get columns i ≡ Some c → ArePlaces columns c out → ArePlaces columns (c + 1) next
places_next columns c out next i more here are = subst (ArePlaces columns (c + 1)) (sym more) (record {
  long = length-append out (Some i ∷ []) ∙ (let long = are.long in omega (arith, long));
  each = λ k lt. by k (either k c (omega (arith, lt)));
})
  where
    either : (k n : ℕ) → k < n + 1 → (k < n) ⊎ (k ≡ n)
    either k n lt = grind arith

    by : (k : ℕ) → (k < c) ⊎ (k ≡ c) → IsSomeAnd (get_or (out ++ Some i ∷ []) k None) (λ j. slice_get columns j ≡ Some k)
    by k (inl before) =
        subst (λ (q : Option ℕ). IsSomeAnd q (λ j. slice_get columns j ≡ Some k)) (sym (before_at out (Some i) k (subst (λ (n : ℕ). k < n) (sym are.long) before))) (are.each k before)
    by k (inr at) =
        let last : get_or (out ++ Some i ∷ []) k None ≡ Some i = ap (λ (n : ℕ). get_or (out ++ Some i ∷ []) n None) (at ∙ sym are.long) ∙ last_at out (Some i) in
        subst (λ (q : Option ℕ). IsSomeAnd q (λ j. slice_get columns j ≡ Some k)) (sym last) (here ∙ ap (λ (n : ℕ). Some n) (sym at))

-- the column at a place
pub column_at : (os : List ℕ) (i : ℕ) (d : ℕ) (c : ℕ) → i < length os → get_or os i d ≡ c → slice_get os i ≡ Some c
column_at [] i d c lt is = absurd (omega (arith, lt))
column_at (o ∷ os) zero d c lt is = ap (λ (n : ℕ). Some n) is
column_at (o ∷ os) (suc i) d c lt is = column_at os i d c (omega (arith, lt)) is
