-- The least of some names, taken one after the other.
use Rattle.std.proofs.Common.{◌≡◌, ◌<◌, ℕ, true, false, List, [], ◌∷◌, ◌++◌, length, take, get_or, refl, ap, arith, inl, inr}
use Rattle.std.specs.List.{All}
use Rattle.std.specs.declared.cmp.Ordering.{Ordering}
use Rattle.std.specs.declared.cmp.Ordering.TheVariants.{Less, Equal, Greater}
use Rattle.std.specs.Ordering.{is_lt, nat_cmp}
use Rattle.std.specs.Cmp.{tied_itself}
use Rattle.std.specs.Cmp.Lexicographic.{slice_cmp, nat_list_cmp_total}
use Rattle.std.proofs.lemmas.Bool.{cases_Bool}
use Rattle.std.proofs.lemmas.List.Elements.{All-append, All-from_recursion, All-weaker}
use Rattle.store_core.specs.Stepping.{is_less}

is_less_than : (o : Ordering) → is_lt o ≡ true → o ≡ Less
is_less_than Less is = refl
is_less_than Equal is = absurd (cc)
is_less_than Greater is = absurd (cc)

not_less_than_itself : (n : List ℕ) → is_less n n ≡ false
not_less_than_itself n = ap is_lt (tied_itself nat_list_cmp_total n)

chained : (a b c : List ℕ) → is_less a b ≡ true → is_less b c ≡ true → is_less a c ≡ true
chained a b c first second =
    ap is_lt (nat_list_cmp_total.trans a b c (is_less_than (slice_cmp nat_cmp a b) first) (is_less_than (slice_cmp nat_cmp b c) second))

-- what isn't less than a name isn't less than a lesser one
below_lesser : (m b p : List ℕ) → is_less p b ≡ true → is_less m b ≡ false → is_less m p ≡ false
below_lesser m b p lesser not_less =
    elim (cases_Bool (is_less m p)) [
      | inl t ↦ let chain = chained m p b t lesser in absurd cc
      | inr f ↦ f
    ]

one_all : (P : List ℕ → Type 0) (x : List ℕ) → P x → All P (x ∷ [])
one_all P x here = All-from_recursion P (x ∷ []) (here, tt)

-- a name more, which is less than the least so far
pub lesser_comes : (b p : List ℕ) (seen : List (List ℕ)) → is_less p b ≡ true → All (λ m. is_less m b ≡ false) seen → All (λ m. is_less m p ≡ false) (seen ++ p ∷ [])
lesser_comes b p seen lesser none =
    All-append (λ m. is_less m p ≡ false) seen (p ∷ []) (All-weaker (λ m. is_less m b ≡ false) (λ m. is_less m p ≡ false) (λ m not_less. below_lesser m b p lesser not_less) seen none)
    (one_all (λ m. is_less m p ≡ false) p (not_less_than_itself p))

-- a name more, which isn't
pub other_comes : (b p : List ℕ) (seen : List (List ℕ)) → is_less p b ≡ false → All (λ m. is_less m b ≡ false) seen → All (λ m. is_less m b ≡ false) (seen ++ p ∷ [])
other_comes b p seen not_less none = All-append (λ m. is_less m b ≡ false) seen (p ∷ []) none (one_all (λ m. is_less m b ≡ false) p not_less)

-- the first one is the least of itself
pub first_least : (names : List (List ℕ)) → 0 < length names → All (λ m. is_less m (get_or names 0 []) ≡ false) (take 1 names)
first_least [] some = absurd (omega (arith, some))
first_least (n ∷ names) some = one_all (λ m. is_less m n ≡ false) n (not_less_than_itself n)
