-- Marks that were joined and sorted, and put into one vector.
use Rattle.std.proofs.Common.{◌≡◌, ◌+◌, ◌<◌, ◌≤◌, ◌++◌, ◌&&◌, not, ℕ, Bool, true, false, eqb, ltb, cond, List, [], ◌∷◌, length, take, get_or, refl, sym, ◌∙◌, ap, ap₂, subst, arith, inl, inr}
use Rattle.std.specs.Prelude.{Option, Some, None, find, filter, option_map}
use Rattle.std.specs.Option.{option_or}
use Rattle.std.specs.Ordering.{is_lt, nat_cmp}
use Rattle.std.specs.List.{All}
use Rattle.std.specs.List.Sorted.{IsStableBy, ties}
use Rattle.std.proofs.lemmas.Bool.{cases_Bool, eqb-true, eq-eqb, ltb-true, ltb-false}
use Rattle.std.specs.declared.cmp.Ordering.TheVariants.{Less, Equal, Greater}
use Rattle.std.proofs.lemmas.List.{take_more, take_all}
use Rattle.del_vector.specs.declared.mark.Mark.{Mark}
use Rattle.del_vector.specs.Marks.{epoch_at, with_mark}
use Rattle.del_vector.proofs.BothMarks.{joined_epochs}
use Rattle.container_writer.proofs.Marks.{with_epoch, all_with}

-- ---- marks that were sorted

abbrev first : List Mark → Option Mark
first [] = None
first (m ∷ ms) = Some m

first_kept : (p q : Mark → Bool) → ((m : Mark) → q m ≡ p m) → (ms : List Mark) → find q ms ≡ first (filter p ms)
first_kept p q same [] = refl
first_kept p q same (m ∷ ms) =
    elim (cases_Bool (p m)) [
      | inl t ↦ let at = same m ∙ t in rw (at, t) refl
      | inr f ↦ let at = same m ∙ f in rw (at, f) (first_kept p q same ms)
    ]

abbrev lower : Mark → Mark → Bool
lower m n = is_lt (nat_cmp m.position n.position)

abbrev at_position : ℕ → Mark
at_position i = record { position = i; epoch = 0 }

neither : (a b : ℕ) → eqb b a ≡ not (ltb a b) && not (ltb b a)
neither a b =
    elim (cases_Bool (ltb a b)) [
      | inl t ↦ rw t (unlike (ltb-true a b t))
      | inr f ↦
          elim (cases_Bool (ltb b a)) [
            | inl t ↦ rw (f, t) (unlike_too (ltb-true b a t))
            | inr g ↦ rw (f, g) (let ge = ltb-false a b f in let le = ltb-false b a g in eq-eqb b a (omega (arith, ge, le)))
          ]
    ]
  where
    unlike : a < b → eqb b a ≡ false
    unlike lt = elim (cases_Bool (eqb b a)) [ inl t ↦ let is = eqb-true b a t in absurd (omega (arith, is, lt)) | inr f ↦ f ]

    unlike_too : b < a → eqb b a ≡ false
    unlike_too lt = elim (cases_Bool (eqb b a)) [ inl t ↦ let is = eqb-true b a t in absurd (omega (arith, is, lt)) | inr f ↦ f ]

is_lower : (a b : ℕ) → is_lt (nat_cmp a b) ≡ ltb a b
is_lower a b = by (ltb a b) (eqb a b)
  where
    by : (x y : Bool) → is_lt (cond x Less (cond y Equal Greater)) ≡ x
    by true y = refl
    by false true = refl
    by false false = refl

tied : (i : ℕ) (m : Mark) → eqb m.position i ≡ ties lower (at_position i) m
tied i m = neither i m.position ∙ sym (ap₂ (λ (x y : Bool). not x && not y) (is_lower i m.position) (is_lower m.position i))

pub sorted_epochs : (old new : List Mark) → IsStableBy lower old new → (i : ℕ) → epoch_at new i ≡ epoch_at old i
sorted_epochs old new stable i =
    ap (option_map (λ m. m.epoch))
    (first_kept (ties lower (at_position i)) (λ m. eqb m.position i) (tied i) new ∙ ap first (stable (at_position i))
    ∙ sym (first_kept (ties lower (at_position i)) (λ m. eqb m.position i) (tied i) old))

pub joined_are : (held fresh all : List Mark) (i : ℕ) → all ≡ held ++ fresh → epoch_at all i ≡ option_or (epoch_at held i) (epoch_at fresh i)
joined_are held fresh all i is = ap (λ (ms : List Mark). epoch_at ms i) is ∙ joined_epochs held fresh i

-- ---- one mark more

or_none : (o : Option ℕ) → option_or o None ≡ o
or_none None = refl
or_none (Some e) = refl

pub put_unmarked : (old new : List Mark) (mark : Mark) (i : ℕ) → epoch_at old mark.position ≡ None → new ≡ with_mark mark old → epoch_at new i ≡ option_or (epoch_at old i) (epoch_at (mark ∷ []) i)
put_unmarked old new mark i none is =
    ap (λ (ms : List Mark). epoch_at ms i) is ∙ with_epoch mark old i
    ∙ elim (cases_Bool (eqb mark.position i)) [
      | inl t ↦ let free : epoch_at old i ≡ None = ap (epoch_at old) (sym (eqb-true mark.position i t)) ∙ none in rw (t, free) refl
      | inr f ↦ rw f (sym (or_none (epoch_at old i)))
    ]

pub put_within : (n : ℕ) (old new : List Mark) (mark : Mark) → new ≡ with_mark mark old → mark.position < n → All (λ e. e.position < n) old → All (λ e. e.position < n) new
put_within n old new mark is lt all = subst (All (λ e. e.position < n)) (sym is) (all_with (λ e. e.position < n) mark old lt all)

abbrev pub blank : Mark
blank = record { position = 0; epoch = 0 }

-- a vector with the first of some marks
pub record HasFirst (rows : ℕ) (marks : List Mark) (i : ℕ) (vector : List Mark) : Type 0 where
  pub epochs : (p : ℕ) → epoch_at vector p ≡ epoch_at (take i marks) p
  pub within : All (λ e. e.position < rows) vector

pub first_none : (rows : ℕ) (marks vector : List Mark) → vector ≡ [] → HasFirst rows marks 0 vector
first_none rows marks vector is = subst (HasFirst rows marks 0) (sym is) (record { epochs = λ p. refl; within = λ j d lt. absurd (omega (arith, lt)) })

pub first_more : (rows : ℕ) (marks : List Mark) (i : ℕ) (mark : Mark) (old new : List Mark) → i < length marks → mark ≡ get_or marks i mark → mark.position < rows
    → ((p : ℕ) → epoch_at new p ≡ option_or (epoch_at old p) (epoch_at (mark ∷ []) p)) → ((n : ℕ) → mark.position < n → All (λ e. e.position < n) old → All (λ e. e.position < n) new)
    → HasFirst rows marks i old → HasFirst rows marks (i + 1) new
first_more rows marks i mark old new lt is below epochs within has = record {
  epochs = λ p.
      epochs p
      ∙ ap (λ (o : Option ℕ). option_or o (epoch_at (mark ∷ []) p)) (has.epochs p)
      ∙ sym (joined_epochs (take i marks) (mark ∷ []) p)
      ∙ ap (λ (ms : List Mark). epoch_at ms p) (ap (λ (m : Mark). take i marks ++ m ∷ []) is ∙ sym (take_more marks i mark lt));
  within = within rows below has.within;
}

pub first_all : (rows : ℕ) (marks : List Mark) (i : ℕ) (vector : List Mark) → length marks ≤ i → HasFirst rows marks i vector → (p : ℕ) → epoch_at vector p ≡ epoch_at marks p
first_all rows marks i vector done has p = has.epochs p ∙ ap (λ (ms : List Mark). epoch_at ms p) (take_all i marks done)
