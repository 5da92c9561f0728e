-- Where a position stands among marks.
use Rattle.std.proofs.Common.{◌≡◌, ℕ, zero, suc, ◌+◌, ◌<◌, ◌≤◌, true, false, ltb, leb, eqb, List, [], ◌∷◌, length, get_or, Option, Some, None, cond, refl, sym, ap, ◌∙◌, arith, inl, inr}
use Rattle.std.specs.Prelude.{◌≢◌, Result, Ok, Err, IsOk, is_ok}
use Rattle.std.specs.List.{insert}
use Rattle.std.specs.List.Sorted.{IsNonDecreasingBy}
use Rattle.std.proofs.lemmas.Bool.{cases_Bool, ltb-true, ltb-false, eqb-true, eq-eqb}
use Rattle.del_vector.specs.declared.mark.Mark.{Mark}
use Rattle.del_vector.specs.Marks.{are_marks, epoch_at, with_mark, place_of, marks_upto, cut_epoch}
use Rattle.del_vector.proofs.Reading.{first_mark, marks_more}

at_behind : (from : ℕ) (ms : List Mark) → are_marks from ms ≡ true → (k : ℕ) (d : Mark) → k < length ms → from ≤ (get_or ms k d).position
at_behind from [] e k d lt = absurd (omega (arith, lt))
at_behind from (m ∷ ms) e zero d lt = (first_mark from m ms e).0
at_behind from (m ∷ ms) e (suc k) d lt = let parts = first_mark from m ms e in let h = at_behind (m.position + 1) ms parts.2 k d (omega (arith, lt)) in omega (arith, h, parts.0)

pub rising : (from : ℕ) (ms : List Mark) → are_marks from ms ≡ true → IsNonDecreasingBy (λ (m : Mark). m.position) ms
rising from [] e i j d le lt = absurd (omega (arith, lt))
rising from (m ∷ ms) e zero zero d le lt = omega arith
rising from (m ∷ ms) e zero (suc j) d le lt = let h = at_behind (m.position + 1) ms (first_mark from m ms e).2 j d (omega (arith, lt)) in omega (arith, h)
rising from (m ∷ ms) e (suc i) zero d le lt = absurd (omega (arith, le))
rising from (m ∷ ms) e (suc i) (suc j) d le lt = rising (m.position + 1) ms (first_mark from m ms e).2 i j d (omega (arith, le)) (omega (arith, lt))

pub place_is : (p : ℕ) (ms : List Mark) (i : ℕ) → i ≤ length ms → ((k : ℕ) (d : Mark) → k < i → ltb (get_or ms k d).position p ≡ true)
    → ((k : ℕ) (d : Mark) → i ≤ k → k < length ms → ltb (get_or ms k d).position p ≡ false) → i ≡ place_of p ms
place_is p [] i le below above = omega (arith, le)
place_is p (m ∷ ms) zero le below above = rw (above 0 m (omega arith) (omega arith)) refl
place_is p (m ∷ ms) (suc i) le below above =
    rw (below 0 m (omega arith)) (ap suc (place_is p ms i (omega (arith, le)) (λ k d lt. below (suc k) d (omega (arith, lt))) (λ k d lo hi. above (suc k) d (omega (arith, lo)) (omega (arith, hi)))))

pub inserted : (n : Mark) (ms : List Mark) → insert ms (place_of n.position ms) n ≡ with_mark n ms
inserted n [] = refl
inserted n (m ∷ ms) =
    elim (cases_Bool (ltb m.position n.position)) [
      | inl t ↦ rw t (ap (λ (xs : List Mark). m ∷ xs) (inserted n ms))
      | inr f ↦ rw f refl
    ]

-- ---- the epoch of a position

pub here : (m : Mark) (ms : List Mark) (p : ℕ) → m.position ≡ p → epoch_at (m ∷ ms) p ≡ Some m.epoch
here m ms p is = rw (eq-eqb m.position p is) refl

pub later : (m : Mark) (ms : List Mark) (p : ℕ) → eqb m.position p ≡ false → epoch_at (m ∷ ms) p ≡ epoch_at ms p
later m ms p unequal = rw unequal refl

pub none_before : (from : ℕ) (ms : List Mark) (p : ℕ) → are_marks from ms ≡ true → p < from → epoch_at ms p ≡ None
none_before from [] p e lt = refl
none_before from (m ∷ ms) p e lt =
    let parts = first_mark from m ms e in
    elim (cases_Bool (eqb m.position p)) [
      | inl t ↦ let is = eqb-true m.position p t in absurd (omega (arith, is, parts.0, lt))
      | inr f ↦ later m ms p f ∙ none_before (m.position + 1) ms p parts.2 (omega (arith, parts.0, lt))
    ]

pub marks_wider : (from behind : ℕ) (ms : List Mark) → from ≤ behind → are_marks behind ms ≡ true → are_marks from ms ≡ true
marks_wider from behind [] le e = refl
marks_wider from behind (m ∷ ms) le e = let parts = first_mark behind m ms e in marks_more from m ms (omega (arith, le, parts.0)) parts.1 parts.2

pub marks_with : (from : ℕ) (n : Mark) (ms : List Mark) → are_marks from ms ≡ true → from ≤ n.position → 0 < n.epoch → epoch_at ms n.position ≡ None → are_marks from (with_mark n ms) ≡ true
marks_with from n [] e le some free = marks_more from n [] le some refl
marks_with from n (m ∷ ms) e le some free =
    let parts = first_mark from m ms e in
    elim (cases_Bool (eqb m.position n.position)) [
      | inl t ↦ let is = here m ms n.position (eqb-true m.position n.position t) in absurd (taken (sym is ∙ free))
      | inr f ↦
          let other = later m ms n.position f in
          elim (cases_Bool (ltb m.position n.position)) [
            | inl t ↦ let lt = ltb-true m.position n.position t in rw t (marks_more from m (with_mark n ms) parts.0 parts.1 (marks_with (m.position + 1) n ms parts.2 (omega (arith, lt)) some (sym other ∙ free)))
            | inr g ↦
                let ge = ltb-false m.position n.position g in
                let apart = differ m.position n.position f in
                rw g (marks_more from n (m ∷ ms) le some (marks_more (n.position + 1) m ms (omega (arith, ge, apart)) parts.1 parts.2))
          ]
    ]
  where
    taken : {x : ℕ} → ◌≡◌ {A = Option ℕ} (Some x) None → ⊥
    taken e = cc

    differ : (a b : ℕ) → eqb a b ≡ false → a ≢ b
    differ a b unequal is = let equal = eq-eqb a b is in absurd (cc)

pub unlike : (a b : ℕ) → a < b → eqb a b ≡ false
unlike a b lt = elim (cases_Bool (eqb a b)) [ inl t ↦ let is = eqb-true a b t in absurd (omega (arith, is, lt)) | inr f ↦ f ]

-- the mark at the place of a position
pub at_place : (from p : ℕ) (ms : List Mark) (d : Mark) → are_marks from ms ≡ true → place_of p ms < length ms → epoch_at ms p ≡ epoch_at (get_or ms (place_of p ms) d ∷ []) p
at_place from p [] d e lt = absurd (omega (arith, lt))
at_place from p (n ∷ ms) d e lt =
    let parts = first_mark from n ms e in
    elim (cases_Bool (ltb n.position p)) [
      | inl t ↦
          let below = ltb-true n.position p t in
          let behind : place_of p ms < length ms = inner t lt in
          rw t (later n ms p (unlike n.position p below) ∙ at_place (n.position + 1) p ms d parts.2 behind)
      | inr f ↦
          let ge = ltb-false n.position p f in
          rw f (elim (cases_Bool (eqb n.position p)) [
            | inl t ↦ let at = eqb-true n.position p t in here n ms p at ∙ sym (here n [] p at)
            | inr g ↦ later n ms p g ∙ none_before (n.position + 1) ms p parts.2 (omega (arith, ge)) ∙ sym (later n [] p g)
          ])
    ]
  where
    inner : ltb n.position p ≡ true → place_of p (n ∷ ms) < length (n ∷ ms) → place_of p ms < length ms
    inner t small = let is : place_of p (n ∷ ms) ≡ suc (place_of p ms) = rw t refl in omega (arith, is, small)

pub no_place : (from p : ℕ) (ms : List Mark) → are_marks from ms ≡ true → length ms ≤ place_of p ms → epoch_at ms p ≡ None
no_place from p [] e le = refl
no_place from p (n ∷ ms) e le =
    let parts = first_mark from n ms e in
    elim (cases_Bool (ltb n.position p)) [
      | inl t ↦
          let is : place_of p (n ∷ ms) ≡ suc (place_of p ms) = rw t refl in
          later n ms p (unlike n.position p (ltb-true n.position p t)) ∙ no_place (n.position + 1) p ms parts.2 (omega (arith, is, le))
      | inr f ↦ let is : place_of p (n ∷ ms) ≡ 0 = rw f refl in absurd (omega (arith, is, le))
    ]

-- ---- marks up to an epoch

pub cut_marks : (from epoch : ℕ) (ms : List Mark) → are_marks from ms ≡ true → are_marks from (marks_upto epoch ms) ≡ true
cut_marks from epoch [] e = refl
cut_marks from epoch (m ∷ ms) e =
    let parts = first_mark from m ms e in
    let rest = cut_marks (m.position + 1) epoch ms parts.2 in
    elim (cases_Bool (leb m.epoch epoch)) [
      | inl t ↦ rw t (marks_more from m (marks_upto epoch ms) parts.0 parts.1 rest)
      | inr f ↦ rw f (marks_wider from (m.position + 1) (marks_upto epoch ms) (omega (arith, parts.0)) rest)
    ]

pub cut_epochs : (from epoch : ℕ) (ms : List Mark) → are_marks from ms ≡ true → (p : ℕ) → epoch_at (marks_upto epoch ms) p ≡ cut_epoch epoch (epoch_at ms p)
cut_epochs from epoch [] e p = refl
cut_epochs from epoch (m ∷ ms) e p =
    let parts = first_mark from m ms e in
    let rest = cut_epochs (m.position + 1) epoch ms parts.2 p in
    elim (cases_Bool (eqb m.position p)) [
      | inl at ↦
          elim (cases_Bool (leb m.epoch epoch)) [
            | inl t ↦ rw (t, at, t) refl
            | inr f ↦
                let is = eqb-true m.position p at in
                let past : epoch_at (marks_upto epoch ms) p ≡ None = none_before (m.position + 1) (marks_upto epoch ms) p (cut_marks (m.position + 1) epoch ms parts.2) (omega (arith, is)) in
                rw (f, at, f) past
          ]
      | inr other ↦
          elim (cases_Bool (leb m.epoch epoch)) [
            | inl t ↦ rw (t, other) rest
            | inr f ↦ rw (f, other) rest
          ]
    ]

-- where there is room, a mark is put in
pub added : {E : Type 0} (n : Mark) (ms : List Mark) (k : ℕ) (r : Result (Unit {0}) E) (new : List Mark) → new ≡ (cond (is_ok r) (insert ms k n) ms) → IsOk r → k ≡ place_of n.position ms → new ≡ with_mark n ms
added n ms k (Ok x) new is ok at = is ∙ ap (λ (i : ℕ). insert ms i n) at ∙ inserted n ms
added n ms k (Err e) new is ok at = absurd (cc)
