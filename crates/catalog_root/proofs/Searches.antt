-- Walks over ascending names.
use Rattle.std.proofs.Common.{◌≡◌, ℕ, ◌+◌, ◌*◌, ◌/◌, ◌%◌, ◌<◌, ◌≤◌, true, false, List, length, get_or, refl, sym, ◌∙◌, ap, subst, inl, inr, arith}
use Rattle.std.specs.Prelude.{◌⊎◌, Option, Some, None, IsSome}
use Rattle.std.specs.FinMap.{get}
use Rattle.std.specs.List.Sorted.{IsStrictlyIncreasing}
use Rattle.std.proofs.Math.Dec.{eqb}
use Rattle.std.proofs.lemmas.Bool.Decides.{eqb_tells}
use Rattle.std.proofs.lemmas.List.{get_or_default}
use Rattle.std.proofs.lemmas.List.Kept.{AllPairs-from_increasing}
use Rattle.common_laws.specs.Maps.{Contents}
use Rattle.col_disk.specs.Calls.{ListsNames}
use Rattle.catalog_root.specs.Root.{data_file, gate_file, IsOpenGate, AllClosed, IsGreatestGate, NamesOpenGate, IsLeastData}

-- a name is at most each later one
ordered : (xs : List ℕ) (i j : ℕ) → IsStrictlyIncreasing xs → i ≤ j → j < length xs → get_or xs i 0 ≤ get_or xs j 0
ordered xs i j rising le lt = known (eqb_tells i j)
  where
    known : ((eqb i j ≡ true) × (i ≡ j)) ⊎ ((eqb i j ≡ false) × (i ≡ j → ⊥)) → get_or xs i 0 ≤ get_or xs j 0
    known (inl (test, same)) = let h : get_or xs i 0 ≡ get_or xs j 0 = ap (λ (k : ℕ). get_or xs k 0) same in omega (arith, h)
    known (inr (test, differs)) =
        let before : i < j = below differs in
        let h : get_or xs i 0 < get_or xs j 0 = AllPairs-from_increasing xs rising i j 0 before lt in omega (arith, h)
      where
        below : (i ≡ j → ⊥) → i < j
        below apart = omega (arith, le, apart)

-- where a name stands
place : (m : Contents) (names : List ℕ) (q : ℕ) → ListsNames m names → IsSome (get m q) → (j : ℕ) × (j < length names) × (get_or names j 0 ≡ q)
place m names q lists is = let at = (lists.there q).1 is in (at.0, at.1, get_or_default names at.0 0 q at.1 ∙ at.2)

is_there : (m : Contents) (names : List ℕ) (i : ℕ) → ListsNames m names → i < length names → IsSome (get m (get_or names i 0))
is_there m names i lists lt = (lists.there (get_or names i 0)).0 (i, lt, get_or_default names i (get_or names i 0) 0 lt)

-- no data file stands before a place
abbrev pub NoDataBefore : List ℕ → ℕ → Type 0
NoDataBefore names i = (j : ℕ) → j < i → get_or names j 0 % 4 ≡ 0 → ⊥

pub no_data_more : (names : List ℕ) (i : ℕ) → (get_or names i 0 % 4 ≡ 0 → ⊥) → NoDataBefore names i → NoDataBefore names (i + 1)
no_data_more names i other before j lt test = known (eqb_tells j i)
  where
    known : ((eqb j i ≡ true) × (j ≡ i)) ⊎ ((eqb j i ≡ false) × (j ≡ i → ⊥)) → ⊥
    known (inl (t, same)) = let h : get_or names j 0 ≡ get_or names i 0 = ap (λ (k : ℕ). get_or names k 0) same in other (ap (λ (n : ℕ). n % 4) (sym h) ∙ test)
    known (inr (t, differs)) = before j (omega (arith, lt, differs)) test

pub first_is_least : (m : Contents) (names : List ℕ) (i : ℕ) → i < length names → get_or names i 0 % 4 ≡ 0 → NoDataBefore names i → ListsNames m names
    → (n : ℕ) × (get_or names i 0 ≡ data_file n) × IsLeastData m n
first_is_least m names i within test before lists = (get_or names i 0 / 4, file, record { there = subst (λ (q : ℕ). IsSome (get m q)) file (is_there m names i lists within); least = least })
  where
    file : get_or names i 0 ≡ 4 * (get_or names i 0 / 4)
    file = omega (arith, test)

    later : (k j : ℕ) → j < length names → get_or names j 0 ≡ 4 * k → (j < i → ⊥) → get_or names i 0 / 4 ≤ k
    later k j lt at late = let h : get_or names i 0 ≤ get_or names j 0 = ordered names i j lists.rising (omega (arith, late)) lt in omega (arith, h, at, file)

    least : (k : ℕ) → IsSome (get m (data_file k)) → get_or names i 0 / 4 ≤ k
    least k there = let p = place m names (data_file k) lists there in later k p.0 p.1 p.2 (λ early. before p.0 early (ap (λ (n : ℕ). n % 4) p.2 ∙ omega arith))

pub no_data : (m : Contents) (names : List ℕ) (i : ℕ) → length names ≤ i → NoDataBefore names i → ListsNames m names → (n : ℕ) → get m (data_file n) ≡ None
no_data m names i all before lists n = none (get m (data_file n)) refl
  where
    none : (held : Option (List ℕ)) → get m (data_file n) ≡ held → get m (data_file n) ≡ None
    none None e = e
    none (Some bytes) e =
        let p = place m names (data_file n) lists (subst IsSome (sym e) refl) in
        absurd (before p.0 (omega (arith, all, p.1)) (ap (λ (q : ℕ). q % 4) p.2 ∙ omega arith))

-- from a place on no name is that of an open gate
abbrev pub NoGateFrom : Contents → List ℕ → ℕ → Type 0
NoGateFrom m names i = (j : ℕ) → i ≤ j → j < length names → NamesOpenGate m (get_or names j 0) → ⊥

pub no_gate_more : (m : Contents) (names : List ℕ) (left i : ℕ) → left ≡ i + 1 → (NamesOpenGate m (get_or names i 0) → ⊥) → NoGateFrom m names left → NoGateFrom m names i
no_gate_more m names left i next closed later j le lt is = known (eqb_tells j i)
  where
    known : ((eqb j i ≡ true) × (j ≡ i)) ⊎ ((eqb j i ≡ false) × (j ≡ i → ⊥)) → ⊥
    known (inl (t, same)) = closed (subst (λ (k : ℕ). NamesOpenGate m (get_or names k 0)) same is)
    known (inr (t, differs)) = later j (omega (arith, le, differs, next)) lt is

open_place : (m : Contents) (names : List ℕ) (w : ℕ) → ListsNames m names → IsOpenGate m w → (j : ℕ) × (j < length names) × (get_or names j 0 ≡ gate_file w)
open_place m names w lists is = place m names (gate_file w) lists (subst IsSome (sym is) refl)

pub gate_is_greatest : (m : Contents) (names : List ℕ) (left i : ℕ) → ListsNames m names → left ≡ i + 1 → i < length names
    → NamesOpenGate m (get_or names i 0) → NoGateFrom m names left → IsGreatestGate m (get_or names i 0 / 4)
gate_is_greatest m names left i lists next within (v, file, is) later = record {
  is_open = subst (IsOpenGate m) version is;
  greatest = λ w it. let p = open_place m names w lists it in
      at_most w p.0 p.1 p.2 (λ late. later p.0 late p.1 (w, p.2, it));
}
  where
    version : v ≡ get_or names i 0 / 4
    version = omega (arith, file)

    at_most : (w j : ℕ) → j < length names → get_or names j 0 ≡ gate_file w → (left ≤ j → ⊥) → w ≤ get_or names i 0 / 4
    at_most w j lt at early = let h : get_or names j 0 ≤ get_or names i 0 = ordered names j i lists.rising (omega (arith, early, next)) within in omega (arith, h, at)

pub no_gate : (m : Contents) (names : List ℕ) (left : ℕ) → ListsNames m names → left ≡ 0 → NoGateFrom m names left → AllClosed m
no_gate m names left lists done later v is = let p = open_place m names v lists is in later p.0 (omega (arith, done)) p.1 (v, p.2, is)
