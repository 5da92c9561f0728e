-- Where a number stands among some that rise.
use Rattle.std.proofs.Common.{◌≡◌, ℕ, ℤ, pos, ◌+◌, ◌-◌, ◌<◌, ◌≤◌, ◌<ℤ◌, ◌≤ℤ◌, ◌++◌, Bool, true, false, List, [], ◌∷◌, get_or, length, position, take, Some, None, refl, sym, arith, inl, inr, subst}
use Rattle.std.specs.Prelude.{int_lt}
use Rattle.std.proofs.lemmas.Bool.{cases_lt}
use Rattle.std.proofs.lemmas.Bool.Decides.{Decides-int_eq}
use Rattle.std.proofs.lemmas.Int.{ints}
use Rattle.std.proofs.lemmas.List.{get_or-take, get_or_append_left, length-append, length-take}
use Rattle.row_keys.proofs.Places.{no_place, place_is}
use Rattle.row_keys.specs.Numbers.{is_number, number_at}
use Rattle.exec_group.specs.Rising.{AreRising, IsAboveAll, IsSought}

is_other : (n m : ℤ) → (m ≡ n → ⊥) → is_number n m ≡ false
is_other n m other = by (is_number n m) refl
  where
    by : (b : Bool) → is_number n m ≡ b → b ≡ false
    by true e = absurd (other ((Decides-int_eq m n).0 e))
    by false e = refl

antisymmetric : (n m : ℤ) → n ≤ℤ m → m ≤ℤ n → m ≡ n
antisymmetric n m a b = omega (arith, ints, a, b)

stricter : (n m : ℤ) → n ≤ℤ m → (m ≡ n → ⊥) → n <ℤ m
stricter n m least other = by (int_lt n m) refl
  where
    by : (b : Bool) → int_lt n m ≡ b → n <ℤ m
    by true e = grind (arith, ints)
    by false e = let back : m ≤ℤ n = grind (arith, ints) in absurd (other (antisymmetric n m least back))

at_end : (xs : List ℤ) (y d : ℤ) → get_or (xs ++ y ∷ []) (length xs) d ≡ y
at_end [] y d = refl
at_end (x ∷ xs) y d = at_end xs y d

module _ (n : ℤ) (numbers : List ℤ) where
  pub whole : IsSought n numbers 0 (length numbers)
  whole = record {
    order = omega (arith);
    within = omega (arith);
    less = λ k h. absurd (omega (arith, h));
    greater = λ k h l. absurd (omega (arith, h, l));
  }

  -- the last one is less, and so all are
  pub above_all : AreRising numbers → (0 < length numbers → number_at numbers (length numbers - 1) <ℤ n) → IsAboveAll numbers n
  above_all rising last k inside =
      let most = last (omega (arith, inside)) in
      elim (cases_lt k (length numbers - 1)) [
        | inl before ↦ let up = rising k (length numbers - 1) before (omega (arith, inside)) in omega (arith, ints, up, most)
        | inr there ↦ let same : length numbers - 1 ≡ k = omega (arith, inside, there) in subst (λ (m : ℕ). number_at numbers m <ℤ n) same most
      ]

  -- one that is greater than all isn't among them
  pub none_above : IsAboveAll numbers n → None ≡ position (is_number n) numbers
  none_above above = sym (no_place (is_number n) numbers (pos 0) (λ k inside. is_other n (number_at numbers k) (λ same. let less = above k inside in omega (arith, ints, less, same))))

  module _ (rising : AreRising numbers) where
    pub low_up : (low high middle : ℕ) → IsSought n numbers low high → middle < high → number_at numbers middle <ℤ n → IsSought n numbers (middle + 1) high
    low_up low high middle b inside less = record {
      order = omega (arith, inside);
      within = b.within;
      less = λ k h. elim (cases_lt k middle) [
        | inl before ↦ let up = rising k middle before (omega (arith, inside, b.within)) in omega (arith, ints, up, less)
        | inr there ↦ let same : middle ≡ k = omega (arith, h, there) in subst (λ (m : ℕ). number_at numbers m <ℤ n) same less
      ];
      greater = b.greater;
    }

    pub high_down : (low high middle : ℕ) → IsSought n numbers low high → low ≤ middle → middle < high → n ≤ℤ number_at numbers middle → (number_at numbers middle ≡ n → ⊥) → IsSought n numbers low middle
    high_down low high middle b above inside least other = let more : n <ℤ number_at numbers middle = stricter n (number_at numbers middle) least other in record {
      order = above;
      within = omega (arith, inside, b.within);
      less = b.less;
      greater = λ k h l. elim (cases_lt middle k) [
        | inl behind ↦ let up = rising middle k behind l in omega (arith, ints, up, more)
        | inr there ↦ let same : middle ≡ k = omega (arith, h, there) in subst (λ (m : ℕ). n <ℤ number_at numbers m) same more
      ];
    }

    pub found_there : (k : ℕ) → k < length numbers → number_at numbers k ≡ n → Some k ≡ position (is_number n) numbers
    found_there k inside is =
        sym (place_is (is_number n) numbers k (pos 0) inside ((Decides-int_eq (number_at numbers k) n).1 is) (λ j before. is_other n (number_at numbers j) (λ same. let up = rising j k before inside in omega (arith, ints, up, same, is))))

  pub nowhere : (low high : ℕ) → IsSought n numbers low high → high ≤ low → None ≡ position (is_number n) numbers
  nowhere low high b none =
      sym (no_place (is_number n) numbers (pos 0) (λ k inside. is_other n (number_at numbers k) (λ same. elim (cases_lt k low) [
        | inl before ↦ let less = b.less k before in absurd (omega (arith, ints, less, same))
        | inr behind ↦ let more = b.greater k (omega (arith, none, behind)) inside in absurd (omega (arith, ints, more, same))
      ])))

  -- a greater one behind them
  pub rises_more : AreRising numbers → IsAboveAll numbers n → AreRising (numbers ++ n ∷ [])
  rises_more rising above i j before inside =
      let long = length-append numbers (n ∷ []) in
      let front : number_at (numbers ++ n ∷ []) i ≡ number_at numbers i = get_or_append_left numbers (n ∷ []) (pos 0) i (omega (arith, before, inside, long)) in
      elim (cases_lt j (length numbers)) [
        | inl inner ↦
            let back : number_at (numbers ++ n ∷ []) j ≡ number_at numbers j = get_or_append_left numbers (n ∷ []) (pos 0) j inner in
            let up = rising i j before inner in omega (arith, ints, front, back, up)
        | inr there ↦
            let last : length numbers ≡ j = omega (arith, inside, long, there) in
            let back : number_at (numbers ++ n ∷ []) j ≡ n = subst (λ (m : ℕ). number_at (numbers ++ n ∷ []) m ≡ n) last (at_end numbers n (pos 0)) in
            let up = above i (omega (arith, before, last)) in omega (arith, ints, front, back, up)
      ]

-- each is greater than those in front of it
pub front_lacks : (numbers : List ℤ) (k : ℕ) → AreRising numbers → k < length numbers → position (is_number (number_at numbers k)) (take k numbers) ≡ None
front_lacks numbers k rising inside =
    let n = number_at numbers k in
    no_place (is_number n) (take k numbers) (pos 0) (λ j l.
    let long = length-take k numbers in
    let before : j < k = omega (arith, l, long) in
    let is : number_at (take k numbers) j ≡ number_at numbers j = get_or-take k numbers j (pos 0) before in
    is_other n (number_at (take k numbers) j) (λ same. let up = rising j k before inside in omega (arith, ints, is, same, up)))
