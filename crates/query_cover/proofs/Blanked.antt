-- Rows with NULL in the columns that don't pass a test.
use Rattle.std.proofs.Common.{◌≡◌, ℕ, zero, suc, ◌+◌, ◌++◌, Bool, true, false, cond, List, [], ◌∷◌, length, map, get_or, refl, sym, ap, ap₂, ◌∙◌, arith}
use Rattle.std.specs.List.{All, flat_map}
use Rattle.std.proofs.lemmas.List.{map-append}
use Rattle.std.proofs.lemmas.List.Concat.{flat_map-cons}
use Rattle.std.proofs.lemmas.List.Elements.{All-head, All-tail}
use Rattle.col_value.specs.declared.value.Value.{Value}
use Rattle.col_value.specs.declared.value.Value.TheVariants as value
use Rattle.expr_places.specs.Places.{AgreeOn}
use Rattle.row_history.proofs.Histories.{map_mapped}
use Rattle.sql_bound.specs.declared.query.FromItem.{FromItem}
use Rattle.sql_bound.specs.Outputs.{tuples}
use Rattle.sql_bound.specs.Used.{blanked}

-- such a row has what it had in the columns that pass
blank_at : (test : ℕ → Bool) (first : ℕ) (row : List Value) (i : ℕ) → test (first + i) ≡ true → get_or (blanked test first row) i value.Null ≡ get_or row i value.Null
blank_at test first [] i is = refl
blank_at test first (v ∷ row) zero is =
    let here : first + zero ≡ first = omega arith in
    ap (λ (b : Bool). cond b v value.Null) (sym (ap test here) ∙ is)
blank_at test first (v ∷ row) (suc i) is =
    let there : first + suc i ≡ (first + 1) + i = omega arith in
    blank_at test (first + 1) row i (sym (ap test there) ∙ is)

pub blank_agrees : (test : ℕ → Bool) (row : List Value) → AgreeOn test (blanked test 0 row) row
blank_agrees test row i is = let same : 0 + i ≡ i = omega arith in blank_at test 0 row i (ap test same ∙ is)

pub blank_twice : (test : ℕ → Bool) (first : ℕ) (row : List Value) → blanked test first (blanked test first row) ≡ blanked test first row
blank_twice test first [] = refl
blank_twice test first (v ∷ row) = ap₂ (λ (x : Value) (xs : List Value). x ∷ xs) (once (test first)) (blank_twice test (first + 1) row)
  where
    once : (b : Bool) → cond b (cond b v value.Null) value.Null ≡ cond b v value.Null
    once true = refl
    once false = refl

pub blank_length : (test : ℕ → Bool) (first : ℕ) (row : List Value) → length (blanked test first row) ≡ length row
blank_length test first [] = refl
blank_length test first (v ∷ row) = ap suc (blank_length test (first + 1) row)

blank_append : (test : ℕ → Bool) (first : ℕ) (a b : List Value) → blanked test first (a ++ b) ≡ blanked test first a ++ blanked test (first + length a) b
blank_append test first [] b = let here : first ≡ first + 0 = omega arith in ap (λ (n : ℕ). blanked test n b) here
blank_append test first (v ∷ a) b =
    let there : (first + 1) + length a ≡ first + length (v ∷ a) = omega arith in
    ap (λ (row : List Value). cond (test first) v value.Null ∷ row) (blank_append test (first + 1) a b ∙ ap (λ (n : ℕ). blanked test (first + 1) a ++ blanked test n b) there)

pub map_same : {X Y : Type 0} (f g : X → Y) → ((x : X) → f x ≡ g x) → (xs : List X) → map f xs ≡ map g xs
map_same f g h [] = refl
map_same {X} {Y} f g h (x ∷ xs) = ap₂ (λ (y : Y) (ys : List Y). y ∷ ys) (h x) (map_same f g h xs)

-- the rows of each FROM item, blanked
abbrev pub blanked_from : (ℕ → Bool) → ℕ → List FromItem → List (List (List Value)) → List (List (List Value))
blanked_from test first [] inputs = []
blanked_from test first (f ∷ fs) [] = []
blanked_from test first (f ∷ fs) (rows ∷ more) = map (blanked test first) rows ∷ blanked_from test (first + f.columns) fs more

abbrev pub HaveWidths : List FromItem → List (List (List Value)) → Type 0
HaveWidths [] [] = Unit {0}
HaveWidths [] (rows ∷ more) = ⊥
HaveWidths (f ∷ fs) [] = ⊥
HaveWidths (f ∷ fs) (rows ∷ more) = All (λ row. length row ≡ f.columns) rows × HaveWidths fs more

-- one row with what stands behind it
one_joined : (test : ℕ → Bool) (first width : ℕ) (row : List Value) (rests : List (List Value)) → length row ≡ width
    → map (λ rest. blanked test first row ++ rest) (map (blanked test (first + width)) rests) ≡ map (blanked test first) (map (λ rest. row ++ rest) rests)
one_joined test first width row rests long =
    map_mapped (λ (rest : List Value). blanked test first row ++ rest) (blanked test (first + width)) rests
    ∙ map_same (λ (rest : List Value). blanked test first row ++ blanked test (first + width) rest) (λ (rest : List Value). blanked test first (row ++ rest))
    (λ rest. ap (λ (n : ℕ). blanked test first row ++ blanked test (first + n) rest) (sym long) ∙ sym (blank_append test first row rest)) rests
    ∙ sym (map_mapped (blanked test first) (λ (rest : List Value). row ++ rest) rests)

rows_joined : (test : ℕ → Bool) (first width : ℕ) (rests rows : List (List Value)) → All (λ row. length row ≡ width) rows
    → flat_map (λ row. map (λ rest. row ++ rest) (map (blanked test (first + width)) rests)) (map (blanked test first) rows)
    ≡ map (blanked test first) (flat_map (λ row. map (λ rest. row ++ rest) rests) rows)
rows_joined test first width rests [] wide = refl
rows_joined test first width rests (row ∷ rows) wide =
    let others = map (blanked test (first + width)) rests in
    let joined = λ (row : List Value). map (λ (rest : List Value). row ++ rest) rests in
    flat_map-cons (λ (row : List Value). map (λ (rest : List Value). row ++ rest) others) (blanked test first row) (map (blanked test first) rows)
    ∙ ap₂ (λ (a b : List (List Value)). a ++ b) (one_joined test first width row rests (All-head (λ r. length r ≡ width) row rows wide))
    (rows_joined test first width rests rows (All-tail (λ r. length r ≡ width) row rows wide))
    ∙ sym (ap (map (blanked test first)) (flat_map-cons joined row rows) ∙ map-append (blanked test first) (joined row) (flat_map joined rows))

pub tuples_blanked : (test : ℕ → Bool) (first : ℕ) (fs : List FromItem) (inputs : List (List (List Value))) → HaveWidths fs inputs
    → tuples (blanked_from test first fs inputs) ≡ map (blanked test first) (tuples inputs)
tuples_blanked test first [] [] wide = refl
tuples_blanked test first [] (rows ∷ more) wide = absurd wide
tuples_blanked test first (f ∷ fs) [] wide = absurd wide
tuples_blanked test first (f ∷ fs) (rows ∷ more) wide =
    ap (λ (rests : List (List Value)). flat_map (λ row. map (λ rest. row ++ rest) rests) (map (blanked test first) rows)) (tuples_blanked test (first + f.columns) fs more wide.1)
    ∙ rows_joined test first f.columns (tuples more) rows wide.0
