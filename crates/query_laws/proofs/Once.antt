-- Keys that are each met once: the same for every order of the keys.
use Rattle.std.proofs.Common.{◌≡◌, ℕ, ◌+◌, ◌||◌, not, Bool, true, false, cond, List, [], ◌∷◌, filter, refl, sym, ap, ◌∙◌, arith}
use Rattle.std.proofs.lemmas.Cmp.{tied_itself}
use Rattle.std.proofs.lemmas.List.Sums.{sum_by-cons}
use Rattle.std.specs.List.{sum_by, list_any}
use Rattle.std.specs.Ordering.{is_eq}
use Rattle.col_value.specs.Laws.{row_exact, row_total, tie_told}
use Rattle.col_value.specs.Order.{row_cmp}
use Rattle.col_value.specs.declared.value.Value.{Value}
use Rattle.query_laws.proofs.Alike.{Alike, any_alike, sum_filter, sum_same, sum_split, sum_zero}
use Rattle.sql_bound.specs.Outputs.{distinct, same_keys}

pub same_equal : (a b : List Value) → same_keys a b ≡ true → a ≡ b
same_equal a b e = row_exact a b (tie_told (row_cmp a b) e)

pub same_itself : (a : List Value) → same_keys a a ≡ true
same_itself a = ap is_eq (tied_itself row_total a)

flipped : (a b : List Value) → same_keys a b ≡ false → same_keys b a ≡ false
flipped a b e =
    elim (same_keys b a) as (λ t. same_keys b a ≡ t → t ≡ false) [
      | true ↦ λ h. let same : same_keys a b ≡ true = ap (same_keys a) (same_equal b a h) ∙ same_itself a in sym same ∙ e
      | false ↦ λ h. refl
    ] refl

-- what is added up at one key alone is its own term
IsOnce : List Value → List (List Value) → Type 0
IsOnce key keys = (f : List Value → ℕ) → sum_by (λ k. cond (same_keys key k) (f k) 0) keys ≡ f key

-- a term at a key that is the first or a later one
apart : (f : List Value → ℕ) (key z : List Value) (later : Bool)
    → cond (same_keys z key || later) (f z) 0 ≡ cond (same_keys key z) (f z) 0 + cond later (cond (not (same_keys key z)) (f z) 0) 0
apart f key z later =
    elim (same_keys key z) as (λ t. same_keys key z ≡ t → cond (same_keys z key || later) (f z) 0 ≡ cond t (f z) 0 + cond later (cond (not t) (f z) 0) 0) [
      | true ↦ λ h.
          let back : same_keys z key ≡ true = ap (same_keys z) (same_equal key z h) ∙ same_itself z in
          ap (λ t. cond (t || later) (f z) 0) back
          ∙ elim later as (λ l. f z ≡ f z + cond l 0 0) [ true ↦ omega arith | false ↦ omega arith ]
      | false ↦ λ h. let back : same_keys z key ≡ false = flipped key z h in let e = ap (λ t. cond (t || later) (f z) 0) back in omega (arith, e)
    ] refl

-- over keys among which each of these stands once, a sum over these is one over those that are among these
sum_among : (f : List Value → ℕ) (keys ones : List (List Value)) → ((key : List Value) → list_any (same_keys key) keys ≡ true → IsOnce key ones)
    → sum_by f (distinct keys) ≡ sum_by (λ z. cond (list_any (same_keys z) keys) (f z) 0) ones
unfolding IsOnce
sum_among f [] ones h = sym (sum_zero (λ (z : List Value). 0) (λ z. refl) ones)
sum_among f (key ∷ keys) ones h =
    let g = λ (z : List Value). cond (not (same_keys key z)) (f z) 0 in
    let first : sum_by f (distinct (key ∷ keys)) ≡ f key + sum_by g (distinct keys) =
    sum_by-cons f key (filter (λ z. not (same_keys key z)) (distinct keys)) ∙ ap (λ n. f key + n) (sum_filter f (λ z. not (same_keys key z)) (distinct keys)) in
    let rest : sum_by g (distinct keys) ≡ sum_by (λ (z : List Value). cond (list_any (same_keys z) keys) (g z) 0) ones =
    sum_among g keys ones (λ k e. h k (later (same_keys k key) (list_any (same_keys k) keys) e)) in
    let once : sum_by (λ (z : List Value). cond (same_keys key z) (f z) 0) ones ≡ f key =
    h key (ap (λ t. t || list_any (same_keys key) keys) (same_itself key)) f in
    let whole : sum_by (λ (z : List Value). cond (list_any (same_keys z) (key ∷ keys)) (f z) 0) ones
    ≡ sum_by (λ (z : List Value). cond (same_keys key z) (f z) 0) ones + sum_by (λ (z : List Value). cond (list_any (same_keys z) keys) (g z) 0) ones =
    sum_split (λ (z : List Value). cond (list_any (same_keys z) (key ∷ keys)) (f z) 0) (λ (z : List Value). cond (same_keys key z) (f z) 0)
    (λ (z : List Value). cond (list_any (same_keys z) keys) (g z) 0) (λ z. apart f key z (list_any (same_keys z) keys)) ones in
    omega arith
  where
    later : (a b : Bool) → b ≡ true → (a || b) ≡ true
    later true b e = refl
    later false b e = e

-- a key that is met stands once among those that are each met once
met_once : (key : List Value) (keys : List (List Value)) → list_any (same_keys key) keys ≡ true → IsOnce key (distinct keys)
unfolding IsOnce
met_once key [] e f = cc
met_once key (k ∷ keys) e f =
    let g = λ (z : List Value). cond (same_keys key z) (f z) 0 in
    let first : sum_by g (distinct (k ∷ keys)) ≡ g k + sum_by (λ (z : List Value). cond (not (same_keys k z)) (g z) 0) (distinct keys) =
    sum_by-cons g k (filter (λ z. not (same_keys k z)) (distinct keys)) ∙ ap (λ n. g k + n) (sum_filter g (λ z. not (same_keys k z)) (distinct keys)) in
    elim (same_keys key k) as (λ t. same_keys key k ≡ t → (t || list_any (same_keys key) keys) ≡ true → sum_by g (distinct (k ∷ keys)) ≡ f key) [
      | true ↦ λ h j.
          let none : sum_by (λ (z : List Value). cond (not (same_keys k z)) (g z) 0) (distinct keys) ≡ 0 = sum_zero (λ (z : List Value). cond (not (same_keys k z)) (g z) 0) (no_other key k f h) (distinct keys) in
          let here : g k ≡ f key = ap (λ t. cond t (f k) 0) h ∙ ap f (sym (same_equal key k h)) in
          omega arith
      | false ↦ λ h j.
          let rest : sum_by (λ (z : List Value). cond (not (same_keys k z)) (g z) 0) (distinct keys) ≡ sum_by g (distinct keys) = sum_same (λ (z : List Value). cond (not (same_keys k z)) (g z) 0) g (all_others key k f h) (distinct keys) in
          let here : g k ≡ 0 = ap (λ t. cond t (f k) 0) h in
          let more : sum_by g (distinct keys) ≡ f key = met_once key keys j f in
          omega arith
    ] refl e
  where
    no_other : (key k : List Value) (f : List Value → ℕ) → same_keys key k ≡ true → (z : List Value) → cond (not (same_keys k z)) (cond (same_keys key z) (f z) 0) 0 ≡ 0
    no_other key k f h z =
        ap (λ (l : List Value). cond (not (same_keys k z)) (cond (same_keys l z) (f z) 0) 0) (same_equal key k h)
        ∙ elim (same_keys k z) as (λ t. cond (not t) (cond t (f z) 0) 0 ≡ 0) [ true ↦ refl | false ↦ refl ]

    all_others : (key k : List Value) (f : List Value → ℕ) → same_keys key k ≡ false → (z : List Value) → cond (not (same_keys k z)) (cond (same_keys key z) (f z) 0) 0 ≡ cond (same_keys key z) (f z) 0
    all_others key k f h z =
        elim (same_keys k z) as (λ t. same_keys k z ≡ t → cond (not t) (cond (same_keys key z) (f z) 0) 0 ≡ cond (same_keys key z) (f z) 0) [
          | true ↦ λ e. sym (ap (λ t. cond t (f z) 0) (sym (ap (same_keys key) (same_equal k z e)) ∙ h))
          | false ↦ λ e. refl
        ] refl

pub alike_distinct : (keys others : List (List Value)) → Alike keys others → Alike (distinct keys) (distinct others)
alike_distinct keys others a = record {
  sums = λ f.
      sum_among f keys (distinct keys) (λ key e. met_once key keys e)
      ∙ sum_same (λ z. cond (list_any (same_keys z) keys) (f z) 0) (λ z. cond (list_any (same_keys z) others) (f z) 0)
      (λ z. ap (λ t. cond t (f z) 0) (any_alike (same_keys z) keys others a)) (distinct keys)
      ∙ sym (sum_among f others (distinct keys) (λ key e. met_once key keys (any_alike (same_keys key) keys others a ∙ e)));
}
