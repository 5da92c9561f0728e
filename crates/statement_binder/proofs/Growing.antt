-- One more part of a list that is bound.
use Rattle.std.proofs.Common.{◌≡◌, sym, ap, ◌∙◌, ℕ, ◌+◌, ◌<◌, List, [], ◌∷◌, ◌++◌, length, get_or, drop, take, map}
use Rattle.std.proofs.lemmas.List.{at_drop_more, append_assoc, length-append, map_more, map_push}
use Rattle.sql_bound.specs.declared.query.Aggregate.{Aggregate}
use Rattle.sql_binding.specs.Trees.{Bound, rows_of, groups_of, all_aggs}

-- over a group its numbers stand behind those of the parts before it
pub group_more : (X Y : Type 0) (f : X → Bound Y) (xs : List X) (i : ℕ) (x : X) (out : List Y) (aggs : List Aggregate) → i < length xs → x ≡ get_or xs i x
    → (out ++ ((f x).group (length aggs) ∷ [])) ++ groups_of (map f (drop (i + 1) xs)) (length (aggs ++ (f x).aggs)) ≡ out ++ groups_of (map f (drop i xs)) (length aggs)
group_more X Y f xs i x out aggs h e =
    let n = length aggs in
    let rest = drop (i + 1) xs in
    append_assoc out ((f x).group n ∷ []) (groups_of (map f rest) (length (aggs ++ (f x).aggs)))
    ∙ ap (λ (ys : List Y). out ++ ys)
    (ap (λ (m : ℕ). (f x).group n ∷ groups_of (map f rest) m) (length-append aggs (f x).aggs)
    ∙ (ap (λ (y : X). (f y).group n ∷ groups_of (map f rest) (n + length (f y).aggs)) e
    ∙ sym (at_drop_more (λ (ys : List X). groups_of (map f ys) n) xs i x h)))

pub aggs_more : (X Y : Type 0) (f : X → Bound Y) (xs : List X) (i : ℕ) (x : X) (aggs : List Aggregate) → i < length xs → x ≡ get_or xs i x
    → (aggs ++ (f x).aggs) ++ all_aggs (map f (drop (i + 1) xs)) ≡ aggs ++ all_aggs (map f (drop i xs))
aggs_more X Y f xs i x aggs h e =
    let rest = all_aggs (map f (drop (i + 1) xs)) in
    append_assoc aggs (f x).aggs rest
    ∙ ap (λ (gs : List Aggregate). aggs ++ gs)
    (ap (λ (y : X). (f y).aggs ++ rest) e
    ∙ sym (at_drop_more (λ (ys : List X). all_aggs (map f ys)) xs i x h))

pub row_more : (X Y : Type 0) (f : X → Bound Y) (xs : List X) (i : ℕ) (x : X) (out : List Y) → i < length xs → x ≡ get_or xs i x → out ≡ rows_of (map f (take i xs))
    → out ++ ((f x).row ∷ []) ≡ rows_of (map f (take (i + 1) xs))
row_more X Y f xs i x out h e o =
    let before = map f (take i xs) in
    ap (λ (ys : List Y). ys ++ ((f x).row ∷ [])) o
    ∙ (ap (λ (y : X). rows_of before ++ ((f y).row ∷ [])) e
    ∙ sym (ap (λ (bs : List (Bound Y)). rows_of bs) (map_more f xs i x h) ∙ map_push (λ (b : Bound Y). b.row) before (f (get_or xs i x))))

pub value_more : (X Y : Type 0) (f : X → Y) (xs : List X) (i : ℕ) (x : X) (out : List Y) → i < length xs → x ≡ get_or xs i x → out ≡ map f (take i xs)
    → out ++ (f x ∷ []) ≡ map f (take (i + 1) xs)
value_more X Y f xs i x out h e o =
    ap (λ (ys : List Y). ys ++ (f x ∷ [])) o
    ∙ (ap (λ (y : X). map f (take i xs) ++ (f y ∷ [])) e ∙ sym (map_more f xs i x h))
