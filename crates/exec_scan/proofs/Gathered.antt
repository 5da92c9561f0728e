-- The rows of a batch, taken one by one.
use Rattle.std.proofs.Common.{◌≡◌, ℕ, ◌++◌, List, [], ◌∷◌, length, refl, sym, ap, ◌∙◌, subst, take, get_or, ◌<◌, ◌+◌}
use Rattle.std.specs.Prelude.{IsSomeAnd, Option, Some, None}
use Rattle.std.specs.List.{All, slice_get}
use Rattle.std.proofs.lemmas.List.{append_assoc, take_more}
use Rattle.std.proofs.lemmas.List.Elements.{All-push}
use Rattle.col_value.specs.Order.{IsRow}
use Rattle.col_value.specs.declared.value.Value.{Value}
use Rattle.exec_scan.proofs.Stepping.{got}

-- the next row of a batch
pub row_next : (old now next : List (List Value)) (batch : List (List Value)) (i : ℕ) (row r : List Value) → i < length batch → IsSomeAnd (slice_get batch i) (λ (x : List Value). row ≡ x) → r ≡ row
    → next ≡ now ++ r ∷ [] → now ≡ old ++ take i batch → next ≡ old ++ take (i + 1) batch
row_next old now next batch i row r lt at same is was = by (slice_get batch i) refl at
  where
    by : (q : Option (List Value)) → slice_get batch i ≡ q → IsSomeAnd q (λ (x : List Value). row ≡ x) → next ≡ old ++ take (i + 1) batch
    by None eq never = elim never [ ]
    by (Some x) eq here =
        let one : get_or batch i [] ≡ r = got batch i x [] eq ∙ sym here ∙ sym same in
        is ∙ ap (λ (xs : List (List Value)). xs ++ r ∷ []) was ∙ append_assoc old (take i batch) (r ∷ [])
        ∙ ap (λ (xs : List (List Value)). old ++ xs) (ap (λ (y : List Value). take i batch ++ y ∷ []) (sym one) ∙ sym (take_more batch i [] lt))

pub rows_next : (now next : List (List Value)) (r : List Value) → next ≡ now ++ r ∷ [] → All IsRow now → IsRow r → All IsRow next
rows_next now next r is all one = subst (λ (xs : List (List Value)). All IsRow xs) (sym is) (All-push IsRow now r all one)
