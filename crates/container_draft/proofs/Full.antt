-- Columns in blocks.
use Rattle.std.proofs.Common.{◌≡◌, ℕ, zero, suc, ◌+◌, ◌*◌, ◌-◌, ◌/◌, ◌%◌, ◌<◌, ◌≤◌, List, [], ◌∷◌, ◌++◌, length, get_or, refl, sym, ap, subst, ◌∙◌, arith}
use Rattle.std.proofs.lemmas.List.{append-nil, get_or_append_left, get_or-append-add, get_or_past}
use Rattle.col_value.specs.declared.value.Value.{Value}
use Rattle.col_value.specs.declared.value.Value.TheVariants as value
use Rattle.container_draft.specs.Lanes.{joined, AreFull, EndsFull}

-- the value at a place stands in the block that the place falls into
pub at_block : (bs : List (List Value)) (k r : ℕ) → AreFull bs → r < 1024 → get_or (joined bs) (1024 * k + r) value.Null ≡ get_or (get_or bs k []) r value.Null
at_block [] k r full lt = refl
at_block (b ∷ []) zero r full lt =
    let at : 1024 * 0 + r ≡ r = omega arith in
    ap (λ i. get_or (b ++ []) i value.Null) at ∙ ap (λ (xs : List Value). get_or xs r value.Null) (append-nil b)
at_block (b ∷ []) (suc k) r full lt =
    ap (λ (xs : List Value). get_or xs (1024 * (suc k) + r) value.Null) (append-nil b) ∙ get_or_past b (1024 * (suc k) + r) value.Null (omega (arith, full))
at_block (b ∷ c ∷ bs) zero r full lt =
    let at : 1024 * 0 + r ≡ r = omega arith in
    let long = full.0 in
    ap (λ i. get_or (b ++ joined (c ∷ bs)) i value.Null) at ∙ get_or_append_left b (joined (c ∷ bs)) value.Null r (omega (arith, long, lt))
at_block (b ∷ c ∷ bs) (suc k) r full lt =
    let long = full.0 in
    let at : 1024 * (suc k) + r ≡ length b + (1024 * k + r) = omega (arith, long) in
    ap (λ i. get_or (b ++ joined (c ∷ bs)) i value.Null) at ∙ get_or-append-add b (joined (c ∷ bs)) (1024 * k + r) value.Null ∙ at_block (c ∷ bs) k r full.1 lt

pub full_more : (bs : List (List Value)) (b : List Value) → AreFull bs → EndsFull bs → length b ≤ 1024 → AreFull (bs ++ b ∷ [])
full_more [] b full ends few = few
full_more (a ∷ []) b full ends few = (ends (omega arith), few)
full_more (a ∷ c ∷ bs) b full ends few =
    (full.0, full_more (c ∷ bs) b full.1 (λ some. ends_on some) few)
  where
    ends_on : 0 < length (c ∷ bs) → length (get_or (c ∷ bs) (length (c ∷ bs) - 1) []) ≡ 1024
    ends_on some =
        let at : length (a ∷ c ∷ bs) - 1 ≡ suc (length (c ∷ bs) - 1) = omega arith in
        ap (λ i. length (get_or (a ∷ c ∷ bs) i [])) (sym at) ∙ ends (omega arith)

-- the same at a place
pub at_place : (bs shown : List (List Value)) (place : ℕ) (column : List Value) → AreFull bs → shown ≡ bs → joined bs ≡ column → get_or (get_or shown (place / 1024) []) (place % 1024) value.Null ≡ get_or column place value.Null
at_place bs shown place column full same is =
    let at : 1024 * (place / 1024) + place % 1024 ≡ place = omega arith in
    ap (λ (xss : List (List Value)). get_or (get_or xss (place / 1024) []) (place % 1024) value.Null) same
    ∙ sym (at_block bs (place / 1024) (place % 1024) full (omega arith)) ∙ ap (λ i. get_or (joined bs) i value.Null) at ∙ ap (λ (xs : List Value). get_or xs place value.Null) is
