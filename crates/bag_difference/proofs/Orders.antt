-- The order of stamped rows is total, only equal rows tie, and what holds of each row of a bag holds of each of the same bag.
use Rattle.std.proofs.Common.{◌≡◌, ℕ, ◌+◌, List, [], ◌∷◌, Bool, true, false, cond, refl, sym, ap, ◌∙◌, arith, subst, get_or}
use Rattle.std.specs.Prelude.{not, count_by, Option, Some, None}
use Rattle.std.specs.Cmp.{IsTotalOrder, then_total, on_total, nat_cmp_total}
use Rattle.std.specs.Cmp.Lexicographic.{options_total}
use Rattle.std.specs.FinMap.{IsAntisymmetric, nat_cmp-IsAntisymmetric}
use Rattle.std.specs.List.{All, Any, list_any}
use Rattle.std.specs.Option.{option_cmp}
use Rattle.std.specs.Ordering.{is_eq, nat_cmp, ordering_then}
use Rattle.std.specs.declared.cmp.Ordering.{Ordering}
use Rattle.std.specs.declared.cmp.Ordering.TheVariants.{Less, Equal, Greater}
use Rattle.std.proofs.lemmas.Cmp.{tied_itself}
use Rattle.std.proofs.lemmas.List.Elements.{All-nil, All-cons, All-head, All-tail}
use Rattle.std.proofs.lemmas.List.Folds.{Any-from_list_any, list_any_at}
use Rattle.common_laws.specs.Bags.{SameBag}
use Rattle.common_laws.proofs.BagLaws.{count_cons}
use Rattle.col_value.specs.Laws.{row_total, row_exact, tie_told}
use Rattle.col_value.specs.Order.{row_cmp}
use Rattle.col_value.specs.declared.row.Stamped.{Stamped}
use Rattle.col_value.specs.declared.value.Value.{Value}
use Rattle.bag_difference.specs.Differences.{stamped_cmp}

pub stamped_total : IsTotalOrder stamped_cmp
stamped_total = then_total (on_total (λ s. s.row) row_total) (then_total (on_total (λ s. s.ins) nat_cmp_total) (on_total (λ s. s.del) (options_total nat_cmp_total)))

first_tie : (a b : Ordering) → ordering_then a b ≡ Equal → a ≡ Equal
first_tie Less b e = e
first_tie Equal b e = refl
first_tie Greater b e = e

second_tie : (a b : Ordering) → ordering_then a b ≡ Equal → b ≡ Equal
second_tie Less b e = cc
second_tie Equal b e = e
second_tie Greater b e = cc

option_exact : (a b : Option ℕ) → option_cmp nat_cmp a b ≡ Equal → a ≡ b
option_exact None None e = refl
option_exact None (Some y) e = cc
option_exact (Some x) None e = cc
option_exact (Some x) (Some y) e = ap Some (nat_cmp-IsAntisymmetric x y e)

pub stamped_exact : IsAntisymmetric stamped_cmp
stamped_exact a b e =
    let rows : a.row ≡ b.row = row_exact a.row b.row (first_tie (row_cmp a.row b.row) _ e) in
    let rest = second_tie (row_cmp a.row b.row) _ e in
    let inserted : a.ins ≡ b.ins = nat_cmp-IsAntisymmetric a.ins b.ins (first_tie (nat_cmp a.ins b.ins) _ rest) in
    let deleted : a.del ≡ b.del = option_exact a.del b.del (second_tie (nat_cmp a.ins b.ins) _ rest) in
    ap (λ (r : List Value). make r a.ins a.del) rows ∙ ap (λ (n : ℕ). make b.row n a.del) inserted ∙ ap (make b.row b.ins) deleted
  where
    make : List Value → ℕ → Option ℕ → Stamped
    make row ins del = record { row = row; ins = ins; del = del }

tie_test : (o : Ordering) → o ≡ Equal → is_eq o ≡ true
tie_test o e = ap is_eq e

-- ---- bags

abbrev one_if : Bool → ℕ
one_if b = cond b 1 0

passes_none : {X : Type 0} (p : X → Bool) (xs : List X) → All (λ x. p x ≡ true) xs → count_by (λ x. not (p x)) xs ≡ 0
passes_none p [] all = refl
passes_none p (x ∷ xs) all =
    let here : one_if (not (p x)) ≡ one_if false = ap (λ (b : Bool). one_if (not b)) (All-head (λ y. p y ≡ true) x xs all) in
    omega (arith, count_cons (λ y. not (p y)) x xs, here, passes_none p xs (All-tail (λ y. p y ≡ true) x xs all))

none_passes : {X : Type 0} (p : X → Bool) (xs : List X) → count_by (λ x. not (p x)) xs ≡ 0 → All (λ x. p x ≡ true) xs
none_passes p [] none = All-nil (λ x. p x ≡ true)
none_passes p (x ∷ xs) none =
    let at = count_cons (λ y. not (p y)) x xs in
    All-cons (λ y. p y ≡ true) x xs (by (p x) refl at) (none_passes p xs (omega (arith, at, none)))
  where
    by : (b : Bool) → p x ≡ b → count_by (λ y. not (p y)) (x ∷ xs) ≡ cond (not (p x)) 1 0 + count_by (λ y. not (p y)) xs → p x ≡ true
    by true is at = is
    by false is at =
        let one : one_if (not (p x)) ≡ one_if true = ap (λ (k : Bool). one_if (not k)) is in
        absurd (omega (arith, at, one, none))

all_pass : {X : Type 0} (p : X → Bool) (xs ys : List X) → SameBag xs ys → All (λ x. p x ≡ true) xs → All (λ x. p x ≡ true) ys
all_pass p xs ys bag all = none_passes p ys (sym (bag.counts (λ x. not (p x))) ∙ passes_none p xs all)

-- what holds of each row of a bag holds of each of the same bag
pub all_of_bag : (P : Stamped → Type 0) (xs ys : List Stamped) → SameBag xs ys → All P xs → All P ys
all_of_bag P xs ys bag all = λ k d lt. among (get_or ys k d) (tested k d lt)
  where
    same : Stamped → Stamped → Bool
    same y x = is_eq (stamped_cmp x y)

    own : All (λ y. list_any (same y) xs ≡ true) xs
    own k d lt = list_any_at (same (get_or xs k d)) xs k d lt (tie_test (stamped_cmp (get_or xs k d) (get_or xs k d)) (tied_itself stamped_total (get_or xs k d)))

    tested : All (λ y. list_any (same y) xs ≡ true) ys
    tested = all_pass (λ y. list_any (same y) xs) xs ys bag own

    among : (y : Stamped) → list_any (same y) xs ≡ true → P y
    among y told = by (Any-from_list_any (same y) xs told)
      where
        by : Any (λ x. same y x ≡ true) xs → P y
        by (k, x, lt, at, is) = subst P (stamped_exact x y (tie_told (stamped_cmp x y) is)) (subst P at (all k x lt))
