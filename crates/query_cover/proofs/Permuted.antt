-- What a query prints of rows that are seen as others.
use Rattle.std.proofs.Common.{◌≡◌, ℕ, ◌+◌, ◌++◌, ◌||◌, nat_lt, Bool, true, false, cond, List, [], ◌∷◌, map, filter, refl, sym, ap, ◌∙◌, arith, subst}
use Rattle.std.specs.Prelude.{count_by}
use Rattle.std.specs.List.{list_any}
use Rattle.std.specs.List.Sorted.{IsPermutation}
use Rattle.std.proofs.lemmas.Bool.Decides.{nat_tests}
use Rattle.std.proofs.lemmas.List.Sorted.{IsPermutation-cons, IsPermutation-middle, IsPermutation-refl, IsPermutation-sym, IsPermutation-trans}
use Rattle.common_laws.specs.Bags.{SameBag}
use Rattle.common_laws.proofs.BagLaws.{count_cons, count_append}
use Rattle.col_value.specs.declared.value.Value.{Value}
use Rattle.col_value.specs.declared.wide.Wide.{Wide}
use Rattle.sql_bound.specs.declared.query.FromItem.{FromItem}
use Rattle.sql_bound.specs.declared.query.BoundQuery.{BoundQuery}
use Rattle.sql_bound.specs.Outputs.{is_kept, kept, output, same_keys, tuples, HasGreatSum, IsSumTooGreat}
use Rattle.sql_bound.specs.Printed.{IsPrinted}
use Rattle.query_laws.specs.Laws.{ArePermuted}
use Rattle.query_laws.proofs.AnyOrder.{output_permuted}
use Rattle.query_laws.proofs.Great.{fails_the_same}
use Rattle.query_laws.proofs.Once.{same_equal, same_itself}
use Rattle.query_cover.specs.Seen.{AreSeenFrom}
use Rattle.sql_bound.specs.Used.{blanked, is_used}
use Rattle.query_cover.proofs.Blanked.{blanked_from, HaveWidths, tuples_blanked}
use Rattle.query_cover.proofs.Same.{great_from, great_to, outputs, query_kept_same, query_same}

-- one bag is a permutation, where equality can be tested
any_counted : {X : Type 0} (p : X → Bool) (xs ys : List X) → SameBag xs ys → list_any p xs ≡ list_any p ys
any_counted p xs ys same = positive xs ∙ ap (nat_lt 0) (same.counts p) ∙ sym (positive ys)
  where
    more : (b t : Bool) (n m : ℕ) → n ≡ cond b 1 0 + m → t ≡ nat_lt 0 m → (b || t) ≡ nat_lt 0 n
    more true t n m e h = grind (arith, nat_tests)
    more false t n m e h = let same : n ≡ m = omega arith in h ∙ ap (nat_lt 0) (sym same)

    positive : (zs : List _) → list_any p zs ≡ nat_lt 0 (count_by p zs)
    positive [] = refl
    positive (z ∷ zs) = more (p z) (list_any p zs) (count_by p (z ∷ zs)) (count_by p zs) (count_cons p z zs) (positive zs)

Place : {X : Type 0} → X → List X → Type 0
Place {X} x ys = (us : List X) × (vs : List X) × (ys ≡ us ++ x ∷ vs)

module _ {X : Type 0} (same : X → X → Bool) (exact : (a b : X) → same a b ≡ true → a ≡ b) (itself : (a : X) → same a a ≡ true) where
  place : (x : X) (ys : List X) → list_any (same x) ys ≡ true → Place x ys
  unfolding Place
  place x [] e = cc
  place x (y ∷ ys) e =
      elim (same x y) as (λ b. same x y ≡ b → (b || list_any (same x) ys) ≡ true → (us : List X) × (vs : List X) × (y ∷ ys ≡ us ++ x ∷ vs)) [
        | true ↦ λ h k. ([], ys, ap (λ (z : X). z ∷ ys) (sym (exact x y h)))
        | false ↦ λ h k. let p = place x ys k in (y ∷ p.0, p.1, ap (λ (l : List X). y ∷ l) p.2)
      ] refl e

  cancelled : (x : X) (xs us vs : List X) → SameBag (x ∷ xs) (us ++ x ∷ vs) → SameBag xs (us ++ vs)
  cancelled x xs us vs a = record {
    counts = λ p. omega (arith, a.counts p, count_cons p x xs, count_append p us (x ∷ vs), count_cons p x vs, count_append p us vs);
  }

  bag_permutes : (xs ys : List X) → SameBag xs ys → IsPermutation xs ys
  unfolding Place
  bag_permutes [] [] a = IsPermutation-refl []
  bag_permutes [] (y ∷ ys) a = absurd (omega (arith, a.counts (λ x. true), count_cons (λ (z : X). true) y ys))
  bag_permutes (x ∷ xs) ys a =
      let found : list_any (same x) ys ≡ true = sym (any_counted (same x) (x ∷ xs) ys a) ∙ ap (λ b. b || list_any (same x) xs) (itself x) in
      let p = place x ys found in
      let rest = bag_permutes xs (p.0 ++ p.1) (cancelled x xs p.0 p.1 (subst (SameBag (x ∷ xs)) p.2 a)) in
      subst (IsPermutation (x ∷ xs)) (sym p.2)
      (IsPermutation-trans (x ∷ xs) (x ∷ (p.0 ++ p.1)) (p.0 ++ x ∷ p.1) (IsPermutation-cons x xs (p.0 ++ p.1) rest) (IsPermutation-sym (p.0 ++ x ∷ p.1) (x ∷ (p.0 ++ p.1)) (IsPermutation-middle p.0 x p.1)))

rows_permuted : (xs ys : List (List Value)) → SameBag xs ys → IsPermutation xs ys
rows_permuted xs ys same = bag_permutes same_keys same_equal same_itself xs ys same

-- ---- the FROM items

seen_widths : (q : BoundQuery) (first : ℕ) (fs : List FromItem) (seen rows : List (List (List Value))) → AreSeenFrom q first fs seen rows → HaveWidths fs seen
seen_widths q first [] [] [] are = tt
seen_widths q first [] [] (r ∷ rows) are = absurd are
seen_widths q first [] (s ∷ seen) rows are = absurd are
seen_widths q first (f ∷ fs) [] rows are = absurd are
seen_widths q first (f ∷ fs) (s ∷ seen) [] are = absurd are
seen_widths q first (f ∷ fs) (s ∷ seen) (r ∷ rows) are = (are.0.wide, seen_widths q (first + f.columns) fs seen rows are.1)

row_widths : (q : BoundQuery) (first : ℕ) (fs : List FromItem) (seen rows : List (List (List Value))) → AreSeenFrom q first fs seen rows → HaveWidths fs rows
row_widths q first [] [] [] are = tt
row_widths q first [] [] (r ∷ rows) are = absurd are
row_widths q first [] (s ∷ seen) rows are = absurd are
row_widths q first (f ∷ fs) [] rows are = absurd are
row_widths q first (f ∷ fs) (s ∷ seen) [] are = absurd are
row_widths q first (f ∷ fs) (s ∷ seen) (r ∷ rows) are = (are.0.width, row_widths q (first + f.columns) fs seen rows are.1)

blanked_permuted : (q : BoundQuery) (first : ℕ) (fs : List FromItem) (seen rows : List (List (List Value))) → AreSeenFrom q first fs seen rows
    → ArePermuted (blanked_from (is_used q) first fs seen) (blanked_from (is_used q) first fs rows)
blanked_permuted q first [] [] [] are = tt
blanked_permuted q first [] [] (r ∷ rows) are = absurd are
blanked_permuted q first [] (s ∷ seen) rows are = absurd are
blanked_permuted q first (f ∷ fs) [] rows are = absurd are
blanked_permuted q first (f ∷ fs) (s ∷ seen) [] are = absurd are
blanked_permuted q first (f ∷ fs) (s ∷ seen) (r ∷ rows) are =
    (rows_permuted (map (blanked (is_used q) first) s) (map (blanked (is_used q) first) r) are.0.same, blanked_permuted q (first + f.columns) fs seen rows are.1)

kept_blanked : (q : BoundQuery) (inputs : List (List (List Value))) → HaveWidths q.sources inputs
    → kept q (blanked_from (is_used q) 0 q.sources inputs) ≡ map (blanked (is_used q) 0) (kept q inputs)
kept_blanked q inputs wide = ap (filter (is_kept q.keep)) (tuples_blanked (is_used q) 0 q.sources inputs wide) ∙ query_kept_same q (tuples inputs)

output_blanked : (q : BoundQuery) (inputs : List (List (List Value))) → HaveWidths q.sources inputs → output q (blanked_from (is_used q) 0 q.sources inputs) ≡ output q inputs
output_blanked q inputs wide = ap (outputs q) (kept_blanked q inputs wide) ∙ query_same q (kept q inputs)

output_seen : (q : BoundQuery) (seen rows : List (List (List Value))) → AreSeenFrom q 0 q.sources seen rows → IsPermutation (output q rows) (output q seen)
output_seen q seen rows are =
    let moved = output_permuted q (blanked_from (is_used q) 0 q.sources seen) (blanked_from (is_used q) 0 q.sources rows) (blanked_permuted q 0 q.sources seen rows are) in
    let there : IsPermutation (output q seen) (output q rows) =
    subst (IsPermutation (output q seen)) (output_blanked q rows (row_widths q 0 q.sources seen rows are))
    (subst (λ (xs : List (List Wide)). IsPermutation xs (output q (blanked_from (is_used q) 0 q.sources rows))) (output_blanked q seen (seen_widths q 0 q.sources seen rows are)) moved) in
    IsPermutation-sym (output q seen) (output q rows) there

pub printed_seen : (q : BoundQuery) (seen rows : List (List (List Value))) (listed : List (List Wide)) → AreSeenFrom q 0 q.sources seen rows
    → IsPrinted q.order q.limit (output q seen) listed → IsPrinted q.order q.limit (output q rows) listed
printed_seen q seen rows listed are printed = record {
  sorted = printed.sorted;
  same = IsPermutation-trans (output q rows) (output q seen) printed.sorted (output_seen q seen rows are) printed.same;
  ascending = printed.ascending;
  front = printed.front;
}

-- ---- sums

great_blanked : (q : BoundQuery) (inputs : List (List (List Value))) → HaveWidths q.sources inputs → IsSumTooGreat q inputs → IsSumTooGreat q (blanked_from (is_used q) 0 q.sources inputs)
great_blanked q inputs wide great = subst (HasGreatSum q) (sym (kept_blanked q inputs wide)) (great_to q (kept q inputs) great)

great_unblanked : (q : BoundQuery) (inputs : List (List (List Value))) → HaveWidths q.sources inputs → IsSumTooGreat q (blanked_from (is_used q) 0 q.sources inputs) → IsSumTooGreat q inputs
great_unblanked q inputs wide great = great_from q (kept q inputs) (subst (HasGreatSum q) (kept_blanked q inputs wide) great)

pub permuted_back : (inputs others : List (List (List Value))) → ArePermuted inputs others → ArePermuted others inputs
permuted_back [] [] p = tt
permuted_back [] (ys ∷ others) p = absurd p
permuted_back (xs ∷ inputs) [] p = absurd p
permuted_back (xs ∷ inputs) (ys ∷ others) p = (IsPermutation-sym xs ys p.0, permuted_back inputs others p.1)

pub great_seen : (q : BoundQuery) (seen rows : List (List (List Value))) → AreSeenFrom q 0 q.sources seen rows → IsSumTooGreat q seen → IsSumTooGreat q rows
great_seen q seen rows are great =
    great_unblanked q rows (row_widths q 0 q.sources seen rows are)
    (fails_the_same q (blanked_from (is_used q) 0 q.sources seen) (blanked_from (is_used q) 0 q.sources rows) (blanked_permuted q 0 q.sources seen rows are)
    (great_blanked q seen (seen_widths q 0 q.sources seen rows are) great))

pub not_great_seen : (q : BoundQuery) (seen rows : List (List (List Value))) → AreSeenFrom q 0 q.sources seen rows → IsSumTooGreat q rows → IsSumTooGreat q seen
not_great_seen q seen rows are great =
    great_unblanked q seen (seen_widths q 0 q.sources seen rows are)
    (fails_the_same q (blanked_from (is_used q) 0 q.sources rows) (blanked_from (is_used q) 0 q.sources seen)
    (permuted_back (blanked_from (is_used q) 0 q.sources seen) (blanked_from (is_used q) 0 q.sources rows) (blanked_permuted q 0 q.sources seen rows are))
    (great_blanked q rows (row_widths q 0 q.sources seen rows are) great))
