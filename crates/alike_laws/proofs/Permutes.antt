-- Lists in which each element stands as often, and what is taken out of such lists.
use Rattle.std.proofs.Common.{◌≡◌, ℕ, ◌+◌, ◌-◌, ◌≤◌, ◌++◌, Bool, true, false, cond, List, [], ◌∷◌, refl, sym, ap, ◌∙◌, arith, subst}
use Rattle.std.specs.Prelude.{count_by}
use Rattle.std.specs.List.Sorted.{IsPermutation}
use Rattle.std.proofs.lemmas.List.Sorted.{IsPermutation-cons, IsPermutation-middle, IsPermutation-refl, IsPermutation-sym, IsPermutation-trans}
use Rattle.common_laws.specs.Bags.{SameBag}
use Rattle.common_laws.proofs.BagLaws.{count_append, count_cons}
use Rattle.col_value.specs.declared.value.Value.{Value}
use Rattle.sql_bound.specs.Outputs.{same_keys}
use Rattle.query_laws.proofs.Once.{same_equal, same_itself}
use Rattle.db_model.specs.State.{without, without_one}

abbrev one_if : Bool → ℕ
one_if b = cond b 1 0

-- where an element stands in a list
Place : {X : Type 0} → X → List X → Type 0
Place {X} x ys = (us : List X) × (vs : List X) × (ys ≡ us ++ x ∷ vs)

module _ {X : Type 0} (same : X → X → Bool) (exact : (a b : X) → same a b ≡ true → a ≡ b) (itself : (a : X) → same a a ≡ true) where
  place : (x : X) (ys : List X) → 1 ≤ count_by (λ y. same y x) ys → Place x ys
  unfolding Place
  place x [] some = absurd (omega (arith, some))
  place x (y ∷ ys) some = by (same y x) refl (count_cons (λ z. same z x) y ys) (place x ys)
    where
      by : (b : Bool) → same y x ≡ b → count_by (λ z. same z x) (y ∷ ys) ≡ one_if b + count_by (λ z. same z x) ys → (1 ≤ count_by (λ z. same z x) ys → Place x ys) → Place x (y ∷ ys)
      by true is at more = ([], ys, ap (λ (z : X). z ∷ ys) (exact y x is))
      by false is at more = let p = more (omega (arith, some, at)) in (y ∷ p.0, p.1, ap (λ (l : List X). y ∷ l) p.2)

  pub counts_permute : (xs ys : List X) → ((q : X) → count_by (λ y. same y q) xs ≡ count_by (λ y. same y q) ys) → IsPermutation xs ys
  unfolding Place
  counts_permute [] [] counts = IsPermutation-refl []
  counts_permute [] (y ∷ ys) counts =
      let one : one_if (same y y) ≡ 1 = ap one_if (itself y) in
      let none : 0 ≡ count_by (λ z. same z y) (y ∷ ys) = counts y in
      absurd (omega (arith, none, one, count_cons (λ z. same z y) y ys))
  counts_permute (x ∷ xs) ys counts =
      let one : one_if (same x x) ≡ 1 = ap one_if (itself x) in
      let p = place x ys (omega (arith, counts x, one, count_cons (λ z. same z x) x xs)) in
      let rest : (q : X) → count_by (λ y. same y q) xs ≡ count_by (λ y. same y q) (p.0 ++ p.1) = λ q.
      let cut : count_by (λ y. same y q) ys ≡ count_by (λ y. same y q) (p.0 ++ x ∷ p.1) = ap (λ (l : List X). count_by (λ y. same y q) l) p.2 in
      omega (arith, counts q, cut, count_cons (λ y. same y q) x xs, count_append (λ y. same y q) p.0 (x ∷ p.1), count_cons (λ y. same y q) x p.1, count_append (λ y. same y q) p.0 p.1) in
      subst (IsPermutation (x ∷ xs)) (sym p.2)
      (IsPermutation-trans (x ∷ xs) (x ∷ (p.0 ++ p.1)) (p.0 ++ x ∷ p.1) (IsPermutation-cons x xs (p.0 ++ p.1) (counts_permute xs (p.0 ++ p.1) rest)) (IsPermutation-sym (p.0 ++ x ∷ p.1) (x ∷ (p.0 ++ p.1)) (IsPermutation-middle p.0 x p.1)))

-- ---- rows

abbrev Rows : Type 0
Rows = List (List Value)

-- how often a row stands among some
abbrev often : List Value → Rows → ℕ
often q rows = count_by (λ row. same_keys row q) rows

one_without : (q g : List Value) (rows : Rows) → often q (without_one g rows) ≡ often q rows - one_if (same_keys g q)
one_without q g [] = omega arith
one_without q g (row ∷ rows) = by (same_keys row g) refl (one_without q g rows) (count_cons (λ r. same_keys r q) row rows) (count_cons (λ r. same_keys r q) row (without_one g rows))
  where
    apart : (b c : Bool) → same_keys row q ≡ b → same_keys g q ≡ c → same_keys row g ≡ false → (one_if b + (often q rows - one_if c)) ≡ (one_if b + often q rows) - one_if c
    apart true true here there is =
        let one : row ≡ g = same_equal row q here ∙ sym (same_equal g q there) in
        let not : true ≡ false = sym (same_itself row) ∙ ap (same_keys row) one ∙ is in
        absurd (cc)
    apart true false here there is = omega arith
    apart false c here there is = omega arith

    by : (b : Bool) → same_keys row g ≡ b → often q (without_one g rows) ≡ often q rows - one_if (same_keys g q) → often q (row ∷ rows) ≡ one_if (same_keys row q) + often q rows
        → often q (row ∷ without_one g rows) ≡ one_if (same_keys row q) + often q (without_one g rows) → often q (cond b rows (row ∷ without_one g rows)) ≡ often q (row ∷ rows) - one_if (same_keys g q)
    by true is more at less =
        let one : one_if (same_keys row q) ≡ one_if (same_keys g q) = ap (λ (r : List Value). one_if (same_keys r q)) (same_equal row g is) in
        omega (arith, at, one)
    by false is more at less =
        let split = apart (same_keys row q) (same_keys g q) refl refl is in
        omega (arith, more, at, less, split)

all_without : (q : List Value) (gone rows : Rows) → often q (without gone rows) ≡ often q rows - often q gone
all_without q [] rows = let none : often q [] ≡ 0 = refl in omega (arith, none)
all_without q (g ∷ gone) rows = omega (arith, all_without q gone (without_one g rows), one_without q g rows, count_cons (λ r. same_keys r q) g gone)

-- what is seen, less what is gone, and what is pending
pub seen_permuted : (gone out rows others more later : Rows) → SameBag gone out → SameBag rows others → SameBag more later → IsPermutation (without gone rows ++ more) (without out others ++ later)
seen_permuted gone out rows others more later less seen new =
    counts_permute same_keys same_equal same_itself (without gone rows ++ more) (without out others ++ later) (λ q.
    let test : List Value → Bool = λ row. same_keys row q in
    omega (arith, count_append test (without gone rows) more, count_append test (without out others) later, all_without q gone rows, all_without q out others, less.counts test, seen.counts test, new.counts test))

pub rows_permuted : (rows others : Rows) → SameBag rows others → IsPermutation rows others
rows_permuted rows others same = counts_permute same_keys same_equal same_itself rows others (λ q. same.counts (λ row. same_keys row q))
