-- Rows and their deletes, by their places.
use Rattle.std.proofs.Common.{◌≡◌, ℕ, zero, suc, ◌+◌, ◌<◌, ◌≤◌, ◌++◌, Bool, true, false, List, [], ◌∷◌, length, map, filter, get_or, Option, Some, None, refl, sym, ap, ap₂, ◌∙◌, arith, subst}
use Rattle.std.specs.List.{range_with_len}
use Rattle.std.proofs.lemmas.List.{map-append, append-nil, length-map}
use Rattle.std.proofs.lemmas.List.Elements.{filter-append}
use Rattle.col_value.specs.declared.row.Asked.{Asked}
use Rattle.col_value.specs.declared.row.Stamped.{Stamped}
use Rattle.row_history.specs.History.{is_retained}
use Rattle.stored_rows.specs.Held.{stamped_from}
use Rattle.merge_rows.specs.Places.{blank, row_at, rows_at, asked_of, kept_places}
use Rattle.container_draft.specs.Placed.{no_row, asked_at, all_at}
use Rattle.container_draft.specs.Keeping.{is_kept, kept_of, dels_at, listed_if}
use Rattle.container_draft.specs.Reading.{del_of}

-- ---- a container's rows

pub asked_back : (i : ℕ) (mark : ℕ → Option ℕ) (asked : List Asked) → map asked_of (stamped_from i mark asked) ≡ asked
asked_back i mark [] = refl
asked_back i mark (a ∷ asked) = ap (λ (xs : List Asked). a ∷ xs) (asked_back (i + 1) mark asked)

pub dels_back : (i : ℕ) (mark : ℕ → Option ℕ) (asked : List Asked) → map del_of (stamped_from i mark asked) ≡ map mark (range_with_len i (length asked))
dels_back i mark [] = refl
dels_back i mark (a ∷ asked) = ap (λ (xs : List (Option ℕ)). mark i ∷ xs) (dels_back (i + 1) mark asked)

-- ---- places, by rows and by deletes

row_del : (rows : List Stamped) (i : ℕ) → (row_at rows i).del ≡ get_or (map del_of rows) i None
row_del [] i = refl
row_del (s ∷ rows) zero = refl
row_del (s ∷ rows) (suc i) = row_del rows i

row_asked : (rows : List Stamped) (i : ℕ) → asked_of (row_at rows i) ≡ asked_at (map asked_of rows) i
row_asked [] i = refl
row_asked (s ∷ rows) zero = refl
row_asked (s ∷ rows) (suc i) = row_asked rows i

-- the rows of a draft and the deletes that it is finished with are those of rows at its places
pub asked_at_places : (rows : List Stamped) (places : List ℕ) → map asked_of (rows_at rows places) ≡ all_at (map asked_of rows) places
asked_at_places rows [] = refl
asked_at_places rows (i ∷ places) = ap₂ (λ (x : Asked) (xs : List Asked). x ∷ xs) (row_asked rows i) (asked_at_places rows places)

pub dels_at_places : (rows : List Stamped) (places : List ℕ) → map del_of (rows_at rows places) ≡ dels_at (map del_of rows) places
dels_at_places rows [] = refl
dels_at_places rows (i ∷ places) = ap₂ (λ (x : Option ℕ) (xs : List (Option ℕ)). x ∷ xs) (row_del rows i) (dels_at_places rows places)

filter_same : (p q : ℕ → Bool) → ((i : ℕ) → p i ≡ q i) → (xs : List ℕ) → filter p xs ≡ filter q xs
filter_same p q h [] = refl
filter_same p q h (x ∷ xs) = rw (h x, filter_same p q h xs) refl

pub kept_same : (mark : ℕ) (rows : List Stamped) → kept_of mark (map del_of rows) ≡ kept_places mark rows
kept_same mark rows =
    ap (λ (n : ℕ). filter (λ i. is_kept mark (get_or (map del_of rows) i None)) (range_with_len 0 n)) (length-map rows del_of)
    ∙ filter_same (λ i. is_kept mark (get_or (map del_of rows) i None)) (λ i. is_retained mark (row_at rows i)) (λ i. ap (is_kept mark) (sym (row_del rows i))) (range_with_len 0 (length rows))

range_more : (a n : ℕ) → range_with_len a (suc n) ≡ range_with_len a n ++ (a + n) ∷ []
range_more a zero = ap (λ (x : ℕ). x ∷ []) (omega arith)
range_more a (suc n) = ap (λ (xs : List ℕ). a ∷ xs) (range_more (a + 1) n ∙ ap (λ (x : ℕ). range_with_len (a + 1) n ++ x ∷ []) (omega arith))

pub places_more : (i : ℕ) (out more : List ℕ) → out ≡ range_with_len 0 i → more ≡ out ++ i ∷ [] → more ≡ range_with_len 0 (i + 1)
places_more i out more was is =
    let next : suc i ≡ i + 1 = omega arith in
    let same : 0 + i ≡ i = omega arith in
    is ∙ ap (λ (xs : List ℕ). xs ++ i ∷ []) was ∙ ap (λ (x : ℕ). range_with_len 0 i ++ x ∷ []) (sym same) ∙ sym (range_more 0 i) ∙ ap (range_with_len 0) next

filter_one : (p : ℕ → Bool) (i : ℕ) → filter p (i ∷ []) ≡ listed_if (p i) i
filter_one p i = refl

kept_more : (p : ℕ → Bool) (i : ℕ) → filter p (range_with_len 0 (i + 1)) ≡ filter p (range_with_len 0 i) ++ listed_if (p i) i
kept_more p i =
    let next : i + 1 ≡ suc i = omega arith in
    let same : 0 + i ≡ i = omega arith in
    ap (λ (n : ℕ). filter p (range_with_len 0 n)) next ∙ ap (filter p) (range_more 0 i ∙ ap (λ (x : ℕ). range_with_len 0 i ++ x ∷ []) same)
    ∙ filter-append p (range_with_len 0 i) (i ∷ [])

pub kept_next : (mark : ℕ) (dels : List (Option ℕ)) (i : ℕ) (out more : List ℕ) → out ≡ filter (λ j. is_kept mark (get_or dels j None)) (range_with_len 0 i) → more ≡ out ++ listed_if (is_kept mark (get_or dels i None)) i
    → more ≡ filter (λ j. is_kept mark (get_or dels j None)) (range_with_len 0 (i + 1))
kept_next mark dels i out more was is =
    is ∙ ap (λ (xs : List ℕ). xs ++ listed_if (is_kept mark (get_or dels i None)) i) was ∙ sym (kept_more (λ j. is_kept mark (get_or dels j None)) i)

pub kept_turn : (mark : ℕ) (dels : List (Option ℕ)) (i : ℕ) (out more : List ℕ) (keep : Bool) (d : Option ℕ) → keep ≡ is_kept mark d → d ≡ get_or dels i None → out ≡ filter (λ j. is_kept mark (get_or dels j None)) (range_with_len 0 i) → more ≡ out ++ listed_if keep i
    → more ≡ filter (λ j. is_kept mark (get_or dels j None)) (range_with_len 0 (i + 1))
kept_turn mark dels i out more keep d keep_is d_is was is = kept_next mark dels i out more was (is ∙ ap (λ (b : Bool). out ++ listed_if b i) (keep_is ∙ ap (is_kept mark) d_is))
