-- Merging marks: what is put out, and what is left of both.
use Rattle.std.proofs.Common.{◌≡◌, ℕ, ◌+◌, ◌<◌, ◌≤◌, true, false, eqb, List, [], ◌∷◌, ◌++◌, length, Option, Some, None, refl, sym, ap, subst, ◌∙◌, arith, inl, inr, append_assoc}
use Rattle.std.specs.Prelude.{◌⊎◌, ◌≢◌}
use Rattle.std.specs.Option.{option_or}
use Rattle.std.proofs.lemmas.Bool.{cases_Bool, eqb-true, eq-eqb}
use Rattle.std.proofs.lemmas.List.{append-nil}
use Rattle.del_vector.specs.declared.mark.Mark.{Mark}
use Rattle.del_vector.specs.Marks.{are_marks, epoch_at, AreApart, IsMerged, IsBefore, TakesFirst}
use Rattle.del_vector.proofs.Reading.{first_mark, marks_more}
use Rattle.del_vector.proofs.Places.{here, later}

-- Marks that were put out go on with either of what is left; and with both they are all marks of the two.
pub record Merges (first second out left right : List Mark) : Type 0 where
  pub before_left : are_marks 0 (out ++ left) ≡ true
  pub before_right : are_marks 0 (out ++ right) ≡ true
  pub apart : AreApart left right
  pub all : (p : ℕ) → option_or (epoch_at out p) (option_or (epoch_at left p) (epoch_at right p)) ≡ option_or (epoch_at first p) (epoch_at second p)

pub merges_none : (first second : List Mark) → are_marks 0 first ≡ true → are_marks 0 second ≡ true → AreApart first second → Merges first second [] first second
merges_none first second a b apart = record { before_left = a; before_right = b; apart = apart; all = λ p. refl }

-- ---- epochs of joined marks

or_assoc : (a b c : Option ℕ) → option_or (option_or a b) c ≡ option_or a (option_or b c)
or_assoc None b c = refl
or_assoc (Some x) b c = refl

or_none : (a : Option ℕ) → option_or a None ≡ a
or_none None = refl
or_none (Some x) = refl

or_turned : (a b : Option ℕ) → (a ≡ None) ⊎ (b ≡ None) → option_or a b ≡ option_or b a
or_turned a b (inl e) = rw e (sym (or_none b))
or_turned a b (inr e) = rw e (or_none a)

pub joined_epochs : (xs ys : List Mark) (p : ℕ) → epoch_at (xs ++ ys) p ≡ option_or (epoch_at xs p) (epoch_at ys p)
joined_epochs [] ys p = refl
joined_epochs (m ∷ xs) ys p =
    elim (cases_Bool (eqb m.position p)) [
      | inl t ↦ rw t refl
      | inr f ↦ rw f (joined_epochs xs ys p)
    ]

first_epoch : (m : Mark) (ms : List Mark) (p : ℕ) → epoch_at (m ∷ ms) p ≡ option_or (epoch_at (m ∷ []) p) (epoch_at ms p)
first_epoch m ms p = joined_epochs (m ∷ []) ms p

never : {x : ℕ} → ◌≡◌ {A = Option ℕ} (Some x) None → ⊥
never e = cc

none_behind : (m : Mark) (ms : List Mark) (p : ℕ) → epoch_at (m ∷ ms) p ≡ None → (epoch_at (m ∷ []) p ≡ None) × (epoch_at ms p ≡ None)
none_behind m ms p e =
    elim (cases_Bool (eqb m.position p)) [
      | inl t ↦ let is = here m ms p (eqb-true m.position p t) in absurd (never (sym is ∙ e))
      | inr f ↦ (later m [] p f, sym (later m ms p f) ∙ e)
    ]

-- ---- one more is put out

front_marks : (from : ℕ) (out ms : List Mark) → are_marks from (out ++ ms) ≡ true → are_marks from out ≡ true
front_marks from [] ms e = refl
front_marks from (x ∷ out) ms e = let parts = first_mark from x (out ++ ms) e in marks_more from x out parts.0 parts.1 (front_marks (x.position + 1) out ms parts.2)

more_out : (from : ℕ) (out : List Mark) (m : Mark) (ms : List Mark) (n : Mark) (ns : List Mark) → are_marks from (out ++ m ∷ ms) ≡ true → are_marks from (out ++ n ∷ ns) ≡ true → m.position < n.position
    → are_marks from (out ++ m ∷ (n ∷ ns)) ≡ true
more_out from [] m ms n ns a b lt =
    let parts = first_mark from m ms a in
    let others = first_mark from n ns b in
    marks_more from m (n ∷ ns) parts.0 parts.1 (marks_more (m.position + 1) n ns (omega (arith, lt)) others.1 others.2)
more_out from (x ∷ out) m ms n ns a b lt =
    let parts = first_mark from x (out ++ m ∷ ms) a in
    let others = first_mark from x (out ++ n ∷ ns) b in
    marks_more from x (out ++ m ∷ (n ∷ ns)) parts.0 parts.1 (more_out (x.position + 1) out m ms n ns parts.2 others.2 lt)

-- a mark and the first of the other list are of two positions
fronts_differ : (a : Mark) (left : List Mark) (b : Mark) (right : List Mark) → AreApart (a ∷ left) (b ∷ right) → a.position ≤ b.position → a.position < b.position
fronts_differ a left b right apart le =
    elim (cases_Bool (eqb a.position b.position)) [
      | inl t ↦ absurd (both (eqb-true a.position b.position t) (apart b.position))
      | inr f ↦ strict (differ f)
    ]
  where
    both : a.position ≡ b.position → (epoch_at (a ∷ left) b.position ≡ None) ⊎ (epoch_at (b ∷ right) b.position ≡ None) → ⊥
    both same (inl e) = never (sym (here a left b.position same) ∙ e)
    both same (inr e) = never (sym (here b right b.position refl) ∙ e)

    differ : eqb a.position b.position ≡ false → a.position ≢ b.position
    differ unequal same = let equal = eq-eqb a.position b.position same in absurd (cc)

    strict : a.position ≢ b.position → a.position < b.position
    strict other = omega (arith, le, other)

-- a list goes on behind a mark of the other one
goes_on : (out : List Mark) (m : Mark) (l r : List Mark) → AreApart (m ∷ l) r → IsBefore m r → are_marks 0 (out ++ m ∷ l) ≡ true → are_marks 0 (out ++ r) ≡ true → are_marks 0 ((out ++ m ∷ []) ++ r) ≡ true
goes_on out m l [] apart before a b =
    let all : out ++ m ∷ l ≡ (out ++ m ∷ []) ++ l = sym (append_assoc out (m ∷ []) l) in
    subst (λ (ms : List Mark). are_marks 0 ms ≡ true) (sym (append-nil (out ++ m ∷ []))) (front_marks 0 (out ++ m ∷ []) l (subst (λ (ms : List Mark). are_marks 0 ms ≡ true) all a))
goes_on out m l (n ∷ ns) apart before a b =
    subst (λ (ms : List Mark). are_marks 0 ms ≡ true) (sym (append_assoc out (m ∷ []) (n ∷ ns))) (more_out 0 out m l n ns a b (fronts_differ m l n ns apart before))

takes_left : (first second out : List Mark) (m : Mark) (l r : List Mark) → IsBefore m r → Merges first second out (m ∷ l) r → Merges first second (out ++ m ∷ []) l r
takes_left first second out m l r before is = record {
  before_left = subst (λ (ms : List Mark). are_marks 0 ms ≡ true) (sym (append_assoc out (m ∷ []) l)) is.before_left;
  before_right = goes_on out m l r is.apart before is.before_left is.before_right;
  apart = λ p. still p (is.apart p);
  all = λ p.
      ap (λ (o : Option ℕ). option_or o (option_or (epoch_at l p) (epoch_at r p))) (joined_epochs out (m ∷ []) p)
      ∙ or_assoc (epoch_at out p) (epoch_at (m ∷ []) p) (option_or (epoch_at l p) (epoch_at r p))
      ∙ ap (λ (o : Option ℕ). option_or (epoch_at out p) o) (sym (or_assoc (epoch_at (m ∷ []) p) (epoch_at l p) (epoch_at r p)) ∙ ap (λ (o : Option ℕ). option_or o (epoch_at r p)) (sym (first_epoch m l p)))
      ∙ is.all p;
} where
  still : (p : ℕ) → (epoch_at (m ∷ l) p ≡ None) ⊎ (epoch_at r p ≡ None) → (epoch_at l p ≡ None) ⊎ (epoch_at r p ≡ None)
  still p (inl e) = inl (none_behind m l p e).1
  still p (inr e) = inr e

other : {P Q : Type 0} → P ⊎ Q → Q ⊎ P
other (inl p) = inr p
other (inr q) = inl q

-- the two sides exchanged
turned : (first second out left right : List Mark) → AreApart first second → Merges first second out left right → Merges second first out right left
turned first second out left right apart is = record {
  before_left = is.before_right;
  before_right = is.before_left;
  apart = λ p. other (is.apart p);
  all = λ p. ap (λ (o : Option ℕ). option_or (epoch_at out p) o) (or_turned (epoch_at right p) (epoch_at left p) (other (is.apart p))) ∙ is.all p ∙ or_turned (epoch_at first p) (epoch_at second p) (apart p);
}

pub takes_one : (first second out left right : List Mark) (m : Mark) (l r : List Mark) → AreApart first second → TakesFirst left right m l r → Merges first second out left right → Merges first second (out ++ m ∷ []) l r
takes_one first second out left right m l r apart (inl (front, same, before)) is =
    takes_left first second out m l r before (subst (λ (xs : List Mark). Merges first second out (m ∷ l) xs) same (subst (λ (xs : List Mark). Merges first second out xs right) front is))
takes_one first second out left right m l r apart (inr (front, same, before)) is =
    let here = subst (λ (xs : List Mark). Merges first second out xs (m ∷ r)) same (subst (λ (xs : List Mark). Merges first second out left xs) front is) in
    turned second first (out ++ m ∷ []) r l (λ p. other (apart p)) (takes_left second first out m r l before (turned first second out l (m ∷ r) apart here))

-- ---- at the end

pub at_end : (first second out left right : List Mark) → left ≡ [] → right ≡ [] → Merges first second out left right → (are_marks 0 out ≡ true) × IsMerged first second out
at_end first second out left right no_left no_right is =
    let here = subst (λ (xs : List Mark). Merges first second out xs []) no_left (subst (λ (xs : List Mark). Merges first second out left xs) no_right is) in
    (subst (λ (ms : List Mark). are_marks 0 ms ≡ true) (append-nil out) here.before_left, λ p. sym (or_none (epoch_at out p)) ∙ here.all p)

pub taken_shorter : (left right : List Mark) (m : Mark) (l r : List Mark) → TakesFirst left right m l r → length l + length r < length left + length right
taken_shorter left right m l r (inl (front, same, before)) = omega (arith, ap (λ (xs : List Mark). length xs) front, ap (λ (xs : List Mark). length xs) same)
taken_shorter left right m l r (inr (front, same, before)) = omega (arith, ap (λ (xs : List Mark). length xs) front, ap (λ (xs : List Mark). length xs) same)
