-- The numbers that a catalogue lists.
use Rattle.std.proofs.Common.{◌≡◌, ℕ, zero, suc, ◌+◌, ◌-◌, ◌^◌, ◌<◌, ◌≤◌, List, [], ◌∷◌, ◌++◌, length, get_or, refl, sym, ◌∙◌, ap, subst, inl, inr, arith}
use Rattle.std.specs.Prelude.{◌⊎◌, ◌↔◌, min, Contains}
use Rattle.std.specs.List.{Any, flat_map, range_with_len}
use Rattle.std.proofs.Common.{append_assoc, map-id}
use Rattle.std.proofs.lemmas.List.Concat.{flat_map-cons, flat_map_single}
use Rattle.std.proofs.lemmas.List.FromFn.{length-range_with_len, get_or-range_with_len}
use Rattle.std.proofs.lemmas.List.Elements.{Contains-append_left, Contains-append_right, Contains-append_cases}
use Rattle.common_laws.proofs.Lists.{any_left, any_right, any_cases}
use Rattle.catalog_types.specs.declared.span.Span.{Span}
use Rattle.catalog_types.specs.declared.catalogue.Catalogue.{Catalogue}
use Rattle.catalog_types.specs.Numbers.{container_spans, projection_spans, table_spans}
use Rattle.catalog_root.specs.Listed.{IsIn, IsListed, numbers_of, container_numbers, projection_numbers, table_numbers, listed_numbers}

-- one number more
range_more : (a n : ℕ) → range_with_len a (suc n) ≡ range_with_len a n ++ (a + n) ∷ []
range_more a zero = ap (λ (x : ℕ). x ∷ []) (omega arith)
range_more a (suc n) = ap (λ (xs : List ℕ). a ∷ xs) (range_more (a + 1) n ∙ ap (λ (x : ℕ). range_with_len (a + 1) n ++ x ∷ []) (omega arith))

pub span_more : (out old now : List ℕ) (first n : ℕ) → first ≤ n → old ≡ out ++ range_with_len first (n - first) → now ≡ old ++ n ∷ [] → now ≡ out ++ range_with_len first (n + 1 - first)
span_more out old now first n le so_far pushed =
    let long : n + 1 - first ≡ suc (n - first) = omega (arith, le) in
    let last : first + (n - first) ≡ n = omega (arith, le) in
    let next : range_with_len first (n + 1 - first) ≡ range_with_len first (n - first) ++ n ∷ [] =
    ap (range_with_len first) long ∙ range_more first (n - first) ∙ ap (λ (x : ℕ). range_with_len first (n - first) ++ x ∷ []) last in
    pushed ∙ ap (λ (xs : List ℕ). xs ++ n ∷ []) so_far ∙ append_assoc out (range_with_len first (n - first)) (n ∷ []) ∙ ap (λ (xs : List ℕ). out ++ xs) (sym next)

pub span_all : (out old : List ℕ) (first n end : ℕ) → n - first ≡ end - first → old ≡ out ++ range_with_len first (n - first) → old ≡ out ++ range_with_len first (end - first)
span_all out old first n end same so_far = so_far ∙ ap (λ (k : ℕ). out ++ range_with_len first k) same

-- a number of a range
in_range : (a n x : ℕ) → Contains (range_with_len a n) x ↔ ((a ≤ x) × (x < a + n))
in_range a n x = (to, back)
  where
    to : Contains (range_with_len a n) x → (a ≤ x) × (x < a + n)
    to (k, lt, is) =
        let short : k < n = omega (arith, lt, length-range_with_len a n) in
        let at : a + k ≡ x = sym (get_or-range_with_len a n k x short) ∙ is in
        (omega (arith, at), omega (arith, at, short))

    back : (a ≤ x) × (x < a + n) → Contains (range_with_len a n) x
    back (le, lt) = (x - a, omega (arith, le, lt, length-range_with_len a n), get_or-range_with_len a n (x - a) x (omega (arith, le, lt)) ∙ omega (arith, le))

-- a number of a span, which is a number of a file
in_span : (s : Span) (n : ℕ) → n < 2 ^ 62 → Contains (numbers_of s) n ↔ IsIn n s
in_span s n small = (to, back)
  where
    to : Contains (numbers_of s) n → IsIn n s
    to is = let t = (in_range s.first (min s.end (2 ^ 64 - 1) - s.first) n).0 is in (t.0, omega (arith, t.0, t.1))

    back : IsIn n s → Contains (numbers_of s) n
    back is = (in_range s.first (min s.end (2 ^ 64 - 1) - s.first) n).1 (is.0, omega (arith, is.0, is.1, small))

-- the numbers of parts, where those of each part are the numbers of its spans
of_parts : {X : Type 0} (n : ℕ) (numbers : X → List ℕ) (spans : X → List Span) → ((x : X) → Contains (numbers x) n ↔ Any (IsIn n) (spans x))
    → (xs : List X) → Contains (flat_map numbers xs) n ↔ Any (IsIn n) (flat_map spans xs)
of_parts n numbers spans each [] = (λ (k, lt, is). absurd (omega (arith, lt)), λ (k, x, lt, is, p). absurd (omega (arith, lt)))
of_parts {X} n numbers spans each (x ∷ xs) = let rest = of_parts n numbers spans each xs in (
  λ c. subst (Any (IsIn n)) (sym (flat_map-cons spans x xs)) (to rest (Contains-append_cases (numbers x) (flat_map numbers xs) n (subst (λ (ys : List ℕ). Contains ys n) (flat_map-cons numbers x xs) c))),
  λ a. subst (λ (ys : List ℕ). Contains ys n) (sym (flat_map-cons numbers x xs)) (back rest (any_cases (IsIn n) (spans x) (flat_map spans xs) (subst (Any (IsIn n)) (flat_map-cons spans x xs) a))),
)
  where
    to : (Contains (flat_map numbers xs) n ↔ Any (IsIn n) (flat_map spans xs)) → Contains (numbers x) n ⊎ Contains (flat_map numbers xs) n → Any (IsIn n) (spans x ++ flat_map spans xs)
    to rest (inl c) = any_left (IsIn n) (spans x) (flat_map spans xs) ((each x).0 c)
    to rest (inr c) = any_right (IsIn n) (spans x) (flat_map spans xs) (rest.0 c)

    back : (Contains (flat_map numbers xs) n ↔ Any (IsIn n) (flat_map spans xs)) → Any (IsIn n) (spans x) ⊎ Any (IsIn n) (flat_map spans xs) → Contains (numbers x ++ flat_map numbers xs) n
    back rest (inl a) = Contains-append_left (numbers x) (flat_map numbers xs) n ((each x).1 a)
    back rest (inr a) = Contains-append_right (numbers x) (flat_map numbers xs) n (rest.1 a)

any_one : {X : Type 0} (P : X → Type 0) (x : X) → P x ↔ Any P (x ∷ [])
any_one {X} P x = (λ p. (0, x, omega arith, refl, p), λ (k, y, lt, is, p). subst P (sym (at k y lt is)) p)
  where
    at : (k : ℕ) (y : X) → k < length (x ∷ []) → get_or (x ∷ []) k y ≡ y → x ≡ y
    at zero y lt is = is
    at (suc k) y lt is = absurd (omega (arith, lt))

in_spans : (n : ℕ) → n < 2 ^ 62 → (spans : List Span) → Contains (flat_map numbers_of spans) n ↔ Any (IsIn n) spans
in_spans n small spans = (λ c. subst (Any (IsIn n)) (single spans) (all.0 c), λ a. all.1 (subst (Any (IsIn n)) (sym (single spans)) a))
  where
    one : (s : Span) → Contains (numbers_of s) n ↔ Any (IsIn n) (s ∷ [])
    one s = (λ c. (any_one (IsIn n) s).0 ((in_span s n small).0 c), λ a. (in_span s n small).1 ((any_one (IsIn n) s).1 a))

    all : Contains (flat_map numbers_of spans) n ↔ Any (IsIn n) (flat_map (λ (s : Span). s ∷ []) spans)
    all = of_parts n numbers_of (λ s. s ∷ []) one spans

    single : (ss : List Span) → flat_map (λ (s : Span). s ∷ []) ss ≡ ss
    single ss = flat_map_single (λ (s : Span). s) ss ∙ map-id ss

-- the numbers of files that are collected are those that the catalogue lists
pub listed : (c : Catalogue) (n : ℕ) → n < 2 ^ 62 → Contains (listed_numbers c) n ↔ IsListed c n
listed c n small =
    of_parts n table_numbers table_spans (λ t.
    of_parts n projection_numbers projection_spans (λ p.
    of_parts n container_numbers container_spans (λ k. in_spans n small (container_spans k)) p.containers) t.projections) c.tables
