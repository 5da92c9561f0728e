-- Where two ascending lists begin to differ, the lesser row is the least of which they hold different numbers.
use Rattle.std.proofs.Common.{◌≡◌, ◌≢◌, ℕ, suc, ◌+◌, ◌<◌, ◌≤◌, Bool, true, false, cond, List, [], ◌∷◌, length, get_or, refl, sym, ap, ◌∙◌, arith, subst}
use Rattle.std.specs.Prelude.{count_by, Some, None}
use Rattle.std.specs.List.Sorted.{IsPermutation, IsSorted}
use Rattle.std.specs.Ordering.{is_eq, is_lt, ordering_reverse}
use Rattle.std.specs.declared.cmp.Ordering.{Ordering}
use Rattle.std.specs.declared.cmp.Ordering.TheVariants.{Less, Equal, Greater}
use Rattle.std.proofs.lemmas.Cmp.{tied_itself}
use Rattle.std.proofs.lemmas.List.{get_or-map, length-map}
use Rattle.std.proofs.lemmas.List.MinMax.{ranks_by}
use Rattle.std.proofs.lemmas.List.Sorted.{sorted_far}
use Rattle.common_laws.specs.Bags.{SameBag}
use Rattle.common_laws.proofs.BagLaws.{bag_map, bag_of_permutation, bag_sym, bag_trans, count_cons}
use Rattle.col_value.specs.Laws.{tie_told}
use Rattle.col_value.specs.declared.row.Stamped.{Stamped}
use Rattle.bag_difference.specs.Differences.{count_of, stamped_cmp, IsLeastDifference}
use Rattle.bag_difference.specs.Walks.{first_apart, lesser, rows_of, stamped_of}
use Rattle.bag_difference.specs.declared.ranks.Keyed.{Keyed}
use Rattle.bag_difference.proofs.Orders.{stamped_exact, stamped_total}

-- no later row is less than an earlier one
abbrev Ascends : List Stamped → Type 0
Ascends zs = (i j : ℕ) (d : Stamped) → i ≤ j → j < length zs → is_lt (stamped_cmp (get_or zs j d) (get_or zs i d)) ≡ false

rest_ascends : (x : Stamped) (xs : List Stamped) → Ascends (x ∷ xs) → Ascends xs
rest_ascends x xs up i j d below inside = up (suc i) (suc j) d (omega arith) (omega arith)

far : (zs : List Stamped) → IsSorted stamped_cmp zs → Ascends zs
far zs up = sorted_far (λ a b. is_lt (stamped_cmp a b)) (ranks_by stamped_total (λ a. a)) zs up

-- rows sorted where they stand
pub sorted_rows : (ks : List Keyed) → IsSorted (λ a b. stamped_cmp (stamped_of a) (stamped_of b)) ks → IsSorted stamped_cmp (rows_of ks)
sorted_rows [] up = λ k d low high. absurd (omega arith)
sorted_rows (z ∷ ks) up = λ k d low high.
    let long : length (rows_of (z ∷ ks)) ≡ length (z ∷ ks) = length-map (z ∷ ks) stamped_of in
    rw (get_or-map stamped_of (z ∷ ks) (k + 1) z d (omega arith), get_or-map stamped_of (z ∷ ks) k z d (omega arith)) (up k z low (omega arith))

pub same_rows : (rows : List Stamped) (keyed near sorted : List Keyed) → rows_of keyed ≡ rows → IsPermutation keyed near → IsPermutation near sorted → SameBag rows (rows_of sorted)
same_rows rows keyed near sorted is first second =
    subst (λ (xs : List Stamped). SameBag xs (rows_of sorted)) is
    (bag_map stamped_of keyed sorted (bag_trans keyed near sorted (bag_of_permutation keyed near first) (bag_of_permutation near sorted second)))

-- ---- counts

abbrev one_if : Bool → ℕ
one_if b = cond b 1 0

none_passes : {X : Type 0} (p : X → Bool) (zs : List X) → ((j : ℕ) (d : X) → j < length zs → p (get_or zs j d) ≡ false) → count_by p zs ≡ 0
none_passes p [] h = refl
none_passes p (z ∷ zs) h =
    let here : one_if (p z) ≡ 0 = ap one_if (h 0 z (omega arith)) in
    omega (arith, count_cons p z zs, here, none_passes p zs (λ j d l. h (suc j) d (omega arith)))

other : (s x y : Stamped) → is_lt (stamped_cmp s x) ≡ true → is_lt (stamped_cmp y x) ≡ false → is_eq (stamped_cmp y s) ≡ false
other s x y less not_less = by (is_eq (stamped_cmp y s)) refl
  where
    by : (b : Bool) → is_eq (stamped_cmp y s) ≡ b → is_eq (stamped_cmp y s) ≡ false
    by false e = e
    by true e =
        let same : y ≡ s = stamped_exact y s (tie_told (stamped_cmp y s) e) in
        let lies : is_lt (stamped_cmp s x) ≡ false = subst (λ (z : Stamped). is_lt (stamped_cmp z x) ≡ false) same not_less in
        cc

-- a row that is less than the first of ascending rows is none of them
absent : (s x : Stamped) (xs : List Stamped) → is_lt (stamped_cmp s x) ≡ true → Ascends (x ∷ xs) → count_of s (x ∷ xs) ≡ 0
absent s x xs less up = none_passes (λ y. is_eq (stamped_cmp y s)) (x ∷ xs) (λ j d l. other s x (get_or (x ∷ xs) j d) less (up 0 j d (omega arith) l))

present : (x : Stamped) (xs : List Stamped) → count_of x (x ∷ xs) ≡ 1 + count_of x xs
present x xs =
    let here : one_if (is_eq (stamped_cmp x x)) ≡ 1 = ap (λ (o : Ordering). one_if (is_eq o)) (tied_itself stamped_total x) in
    omega (arith, count_cons (λ y. is_eq (stamped_cmp y x)) x xs, here)

-- a row in front of both
same_front : (s x : Stamped) (xs ys : List Stamped) → count_of s xs ≡ count_of s ys → count_of s (x ∷ xs) ≡ count_of s (x ∷ ys)
same_front s x xs ys same = omega (arith, count_cons (λ y. is_eq (stamped_cmp y s)) x xs, count_cons (λ y. is_eq (stamped_cmp y s)) x ys, same)

-- ---- the first place where they differ

record IsApart (xs ys : List Stamped) (row : Stamped) : Type 0 where
  pub differ : count_of row xs ≢ count_of row ys
  pub least : (s : Stamped) → is_lt (stamped_cmp s row) ≡ true → count_of s xs ≡ count_of s ys

some_is : {X : Type 0} (x y : X) → Some x ≡ Some y → x ≡ y
some_is x y e = cc

left_only : (x : Stamped) (xs ys : List Stamped) → Ascends (x ∷ xs) → count_of x ys ≡ 0 → ((s : Stamped) → is_lt (stamped_cmp s x) ≡ true → count_of s ys ≡ 0) → IsApart (x ∷ xs) ys x
left_only x xs ys up none later = record {
  differ = λ same. absurd (omega (arith, present x xs, none, same));
  least = λ s less. absent s x xs less up ∙ sym (later s less);
}

right_only : (y : Stamped) (xs ys : List Stamped) → Ascends (y ∷ ys) → count_of y xs ≡ 0 → ((s : Stamped) → is_lt (stamped_cmp s y) ≡ true → count_of s xs ≡ 0) → IsApart xs (y ∷ ys) y
right_only y xs ys up none later = record {
  differ = λ same. absurd (omega (arith, present y ys, none, same));
  least = λ s less. later s less ∙ sym (absent s y ys less up);
}

behind_front : (x : Stamped) (xs ys : List Stamped) (row : Stamped) → IsApart xs ys row → IsApart (x ∷ xs) (x ∷ ys) row
behind_front x xs ys row rest = record {
  differ = λ same. rest.differ (omega (arith, count_cons (λ y. is_eq (stamped_cmp y row)) x xs, count_cons (λ y. is_eq (stamped_cmp y row)) x ys, same));
  least = λ s less. same_front s x xs ys (rest.least s less);
}

below : (a b : Stamped) → stamped_cmp a b ≡ Less → is_lt (stamped_cmp a b) ≡ true
below a b e = ap is_lt e

turned : (a b : Stamped) → stamped_cmp a b ≡ Greater → is_lt (stamped_cmp b a) ≡ true
turned a b e = ap is_lt (stamped_total.antisymm b a ∙ ap ordering_reverse e)

less_told : (o : Ordering) → is_lt o ≡ true → o ≡ Less
less_told Less e = refl
less_told Equal e = cc
less_told Greater e = cc

chain : (s x y : Stamped) → is_lt (stamped_cmp s x) ≡ true → is_lt (stamped_cmp x y) ≡ true → is_lt (stamped_cmp s y) ≡ true
chain s x y first second = below s y (stamped_total.trans s x y (less_told (stamped_cmp s x) first) (less_told (stamped_cmp x y) second))

apart_is : (xs ys : List Stamped) → Ascends xs → Ascends ys → (row : Stamped) → first_apart xs ys ≡ Some row → IsApart xs ys row
apart_is [] [] up vp row e = cc
apart_is [] (y ∷ ys) up vp row e = subst (IsApart [] (y ∷ ys)) (some_is y row e) (right_only y [] ys vp refl (λ s less. refl))
apart_is (x ∷ xs) [] up vp row e = subst (IsApart (x ∷ xs) []) (some_is x row e) (left_only x xs [] up refl (λ s less. refl))
apart_is (x ∷ xs) (y ∷ ys) up vp row e = by (stamped_cmp x y) refl e (apart_is xs ys (rest_ascends x xs up) (rest_ascends y ys vp) row)
  where
    by : (o : Ordering) → stamped_cmp x y ≡ o → lesser o x y (first_apart xs ys) ≡ Some row → (first_apart xs ys ≡ Some row → IsApart xs ys row) → IsApart (x ∷ xs) (y ∷ ys) row
    by Less at e later =
        subst (IsApart (x ∷ xs) (y ∷ ys)) (some_is x row e)
        (left_only x xs (y ∷ ys) up (absent x y ys (below x y at) vp) (λ s less. absent s y ys (chain s x y less (below x y at)) vp))
    by Equal at e later = subst (λ (z : Stamped). IsApart (x ∷ xs) (z ∷ ys) row) (stamped_exact x y at) (behind_front x xs ys row (later e))
    by Greater at e later =
        subst (IsApart (x ∷ xs) (y ∷ ys)) (some_is y row e)
        (right_only y (x ∷ xs) ys vp (absent y x xs (turned x y at) up) (λ s less. absent s x xs (chain s y x less (turned x y at)) up))

none_apart : (xs ys : List Stamped) → first_apart xs ys ≡ None → xs ≡ ys
none_apart [] [] e = refl
none_apart [] (y ∷ ys) e = cc
none_apart (x ∷ xs) [] e = cc
none_apart (x ∷ xs) (y ∷ ys) e = by (stamped_cmp x y) refl e (none_apart xs ys)
  where
    by : (o : Ordering) → stamped_cmp x y ≡ o → lesser o x y (first_apart xs ys) ≡ None → (first_apart xs ys ≡ None → xs ≡ ys) → x ∷ xs ≡ y ∷ ys
    by Less at e later = cc
    by Equal at e later = ap (λ (z : Stamped). z ∷ xs) (stamped_exact x y at) ∙ ap (λ (zs : List Stamped). y ∷ zs) (later e)
    by Greater at e later = cc

-- ---- the two lists as they were

pub least_of : (xs ys sx sy : List Stamped) → SameBag xs sx → SameBag ys sy → IsSorted stamped_cmp sx → IsSorted stamped_cmp sy → (row copy : Stamped) (a b : ℕ) → first_apart sx sy ≡ Some row → copy ≡ row → a ≡ count_of row xs → b ≡ count_of row ys
    → IsLeastDifference xs ys copy a b
least_of xs ys sx sy one two up vp row copy a b e is first second = subst (λ (z : Stamped). IsLeastDifference xs ys z a b) (sym is) record {
  first = first;
  second = second;
  differ = λ same. found.differ (sym (of_first row) ∙ sym first ∙ same ∙ second ∙ of_second row);
  least = λ s less. of_first s ∙ found.least s less ∙ sym (of_second s);
}
  where
    found : IsApart sx sy row
    found = apart_is sx sy (far sx up) (far sy vp) row e

    of_first : (s : Stamped) → count_of s xs ≡ count_of s sx
    of_first s = one.counts (λ x. is_eq (stamped_cmp x s))

    of_second : (s : Stamped) → count_of s ys ≡ count_of s sy
    of_second s = two.counts (λ x. is_eq (stamped_cmp x s))

pub same_of : (xs ys sx sy : List Stamped) → SameBag xs sx → SameBag ys sy → first_apart sx sy ≡ None → SameBag xs ys
same_of xs ys sx sy one two e =
    bag_trans xs sx ys one (subst (λ (zs : List Stamped). SameBag zs ys) (sym (none_apart sx sy e)) (bag_sym ys sy two))
