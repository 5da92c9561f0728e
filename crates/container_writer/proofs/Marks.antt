-- The marks of rows, one row at a time.
use Rattle.std.proofs.Common.{◌≡◌, ◌+◌, ◌<◌, ◌≤◌, ◌++◌, ℕ, zero, suc, false, eqb, ltb, cond, List, [], ◌∷◌, length, map, take, get_or, refl, sym, ◌∙◌, ap, ap₂, subst, arith, inl, inr}
use Rattle.std.specs.Prelude.{Option, Some, None}
use Rattle.std.specs.List.{All}
use Rattle.std.proofs.lemmas.Bool.{cases_Bool, eqb-true, eq-eqb, ltb-true}
use Rattle.std.proofs.lemmas.List.{take_more, length-take, length-take-le, take_all}
use Rattle.std.proofs.lemmas.List.Elements.{All-cons, All-head, All-tail, All-weaker}
use Rattle.col_value.specs.declared.row.Stamped.{Stamped}
use Rattle.row_history.specs.History.{stamped}
use Rattle.del_vector.specs.declared.mark.Mark.{Mark}
use Rattle.del_vector.specs.Marks.{epoch_at, with_mark}
use Rattle.stored_rows.specs.Held.{stamped_from}
use Rattle.container_writer.specs.declared.refs.Keyed.{Keyed}
use Rattle.container_writer.specs.Ordered.{asked_of, del_at, restamp}

-- the delete epochs of rows with one more
last_del : (rows : List Keyed) (k : Keyed) (p : ℕ) → p ≡ length rows → del_at (rows ++ k ∷ []) p ≡ k.stamped.del
last_del [] k zero at = refl
last_del [] k (suc p) at = absurd (omega (arith, at))
last_del (r ∷ rows) k zero at = absurd (omega (arith, at))
last_del (r ∷ rows) k (suc p) at = last_del rows k p (omega (arith, at))

other_del : (rows : List Keyed) (k : Keyed) (p : ℕ) → (p ≡ length rows → ⊥) → del_at (rows ++ k ∷ []) p ≡ del_at rows p
other_del [] k zero other = absurd (other refl)
other_del [] k (suc p) other = refl
other_del (r ∷ rows) k zero other = refl
other_del (r ∷ rows) k (suc p) other = other_del rows k p (λ at. other (ap suc at))

del_next : (rows : List Keyed) (i : ℕ) (k : Keyed) (p : ℕ) → i < length rows → k ≡ get_or rows i k → del_at (take (i + 1) rows) p ≡ cond (eqb i p) k.stamped.del (del_at (take i rows) p)
del_next rows i k p lt is =
    ap (λ (ks : List Keyed). del_at ks p) (take_more rows i k lt ∙ ap (λ (x : Keyed). take i rows ++ x ∷ []) (sym is))
    ∙ elim (cases_Bool (eqb i p)) [
      | inl t ↦ let at = eqb-true i p t in rw t (last_del (take i rows) k p (omega (arith, at, long)))
      | inr f ↦ rw f (other_del (take i rows) k p (λ at. unlike (omega (arith, at, long)) f))
    ]
  where
    long : length (take i rows) ≡ i
    long = length-take-le i rows (omega (arith, lt))

    unlike : i ≡ p → eqb i p ≡ false → ⊥
    unlike at f = let t = eq-eqb i p at in absurd (cc)

past : (rows : List Keyed) (p : ℕ) → length rows < p + 1 → del_at rows p ≡ None
past [] p lt = refl
past (r ∷ rows) zero lt = absurd (omega (arith, lt))
past (r ∷ rows) (suc p) lt = past rows p (omega (arith, lt))

-- the epochs of marks with one more
pub with_epoch : (n : Mark) (ms : List Mark) (p : ℕ) → epoch_at (with_mark n ms) p ≡ cond (eqb n.position p) (Some n.epoch) (epoch_at ms p)
with_epoch n [] p =
    elim (cases_Bool (eqb n.position p)) [
      | inl t ↦ rw t refl
      | inr f ↦ rw f refl
    ]
with_epoch n (m ∷ ms) p =
    elim (cases_Bool (ltb m.position n.position)) [
      | inl t ↦
          elim (cases_Bool (eqb m.position p)) [
            | inl at ↦
                let lt = ltb-true m.position n.position t in
                let is = eqb-true m.position p at in
                let other = above p n.position (omega (arith, lt, is)) in
                rw (t, at, other) refl
            | inr f ↦ rw (t, f) (with_epoch n ms p)
          ]
      | inr f ↦
          elim (cases_Bool (eqb n.position p)) [
            | inl at ↦ rw (f, at) refl
            | inr other ↦ rw (f, other) refl
          ]
    ]
  where
    above : (a b : ℕ) → a < b → eqb b a ≡ false
    above a b lt = elim (cases_Bool (eqb b a)) [ inl t ↦ let is = eqb-true b a t in absurd (omega (arith, is, lt)) | inr f ↦ f ]

-- Marks of the rows before a place, and of none behind.
pub record AreMarksOf (rows : List Keyed) (i : ℕ) (marks : List Mark) : Type 0 where
  pub deleted : (p : ℕ) → epoch_at marks p ≡ del_at (take i rows) p
  pub within : All (λ e. e.position < i) marks

pub marks_none : (rows : List Keyed) (marks : List Mark) → marks ≡ [] → AreMarksOf rows 0 marks
marks_none rows marks is = subst (AreMarksOf rows 0) (sym is) (record { deleted = λ p. refl; within = λ j d lt. absurd (omega (arith, lt)) })

-- no row before a place has its mark there
pub no_mark : (rows : List Keyed) (i p : ℕ) (marks : List Mark) → i ≤ p → AreMarksOf rows i marks → epoch_at marks p ≡ None
no_mark rows i p marks le are = are.deleted p ∙ past (take i rows) p (let short = length-take i rows in omega (arith, le, short))

pub marks_skip : (rows : List Keyed) (i : ℕ) (k : Keyed) (marks : List Mark) → i < length rows → k ≡ get_or rows i k → k.stamped.del ≡ None → AreMarksOf rows i marks → AreMarksOf rows (i + 1) marks
marks_skip rows i k marks lt is none are = record {
  deleted = λ p. same p ∙ sym (del_next rows i k p lt is);
  within = All-weaker (λ e. e.position < i) (λ e. e.position < i + 1) (λ e h. omega (arith, h)) marks are.within;
} where
  same : (p : ℕ) → epoch_at marks p ≡ cond (eqb i p) k.stamped.del (del_at (take i rows) p)
  same p =
      elim (cases_Bool (eqb i p)) [
        | inl t ↦ rw t (no_mark rows i p marks (let at = eqb-true i p t in omega (arith, at)) are ∙ sym none)
        | inr f ↦ rw f (are.deleted p)
      ]

pub all_with : (P : Mark → Type 0) (n : Mark) (ms : List Mark) → P n → All P ms → All P (with_mark n ms)
all_with P n [] p all = All-cons P n [] p all
all_with P n (m ∷ ms) p all =
    elim (cases_Bool (ltb m.position n.position)) [
      | inl t ↦ rw t (All-cons P m (with_mark n ms) (All-head P m ms all) (all_with P n ms p (All-tail P m ms all)))
      | inr f ↦ rw f (All-cons P n (m ∷ ms) p all)
    ]

pub marks_add : (rows : List Keyed) (i : ℕ) (k : Keyed) (e : ℕ) (marks new : List Mark) → i < length rows → k ≡ get_or rows i k → k.stamped.del ≡ Some e → new ≡ with_mark (record { position = i; epoch = e }) marks
    → AreMarksOf rows i marks → AreMarksOf rows (i + 1) new
marks_add rows i k e marks new lt is some new_is are = subst (AreMarksOf rows (i + 1)) (sym new_is) (record {
  deleted = λ p.
      with_epoch (record { position = i; epoch = e }) marks p
      ∙ ap₂ (λ (x y : Option ℕ). cond (eqb i p) x y) (sym some) (are.deleted p)
      ∙ sym (del_next rows i k p lt is);
  within = all_with (λ m. m.position < i + 1) (record { position = i; epoch = e }) marks (omega arith)
      (All-weaker (λ m. m.position < i) (λ m. m.position < i + 1) (λ m h. omega (arith, h)) marks are.within);
})

pub marks_all : (rows : List Keyed) (i : ℕ) (marks : List Mark) → length rows ≤ i → AreMarksOf rows i marks → (p : ℕ) → epoch_at marks p ≡ del_at rows p
marks_all rows i marks done are p = are.deleted p ∙ ap (λ (ks : List Keyed). del_at ks p) (take_all i rows done)

-- ---- rows with the epochs of their marks

first_at : (f : ℕ → Option ℕ) (k : ℕ) (o : Option ℕ) → f (k + 0) ≡ o → f k ≡ o
first_at f k o is = let same : k + 0 ≡ k = omega arith in sym (ap f same) ∙ is

rest_at : (f : ℕ → Option ℕ) (k : ℕ) (r : Keyed) (rows : List Keyed) → ((i : ℕ) → f (k + i) ≡ del_at (r ∷ rows) i) → (i : ℕ) → f ((k + 1) + i) ≡ del_at rows i
rest_at f k r rows is i = let same : (k + 1) + i ≡ k + suc i = omega arith in ap f same ∙ is (suc i)

restamped : (k : ℕ) (f : ℕ → Option ℕ) (rows : List Keyed) → ((i : ℕ) → f (k + i) ≡ del_at rows i) → stamped_from k f (map asked_of rows) ≡ map restamp rows
restamped k f [] is = refl
restamped k f (r ∷ rows) is = ap₂ (λ (d : Option ℕ) (ts : List Stamped). stamped d (asked_of r) ∷ ts) (first_at f k r.stamped.del (is 0)) (restamped (k + 1) f rows (rest_at f k r rows is))

pub as_written : (rows : List Keyed) (marks : List Mark) → ((i : ℕ) → epoch_at marks i ≡ del_at rows i) → stamped_from 0 (epoch_at marks) (map asked_of rows) ≡ map restamp rows
as_written rows marks deleted = restamped 0 (epoch_at marks) rows (λ i. let same : 0 + i ≡ i = omega arith in ap (epoch_at marks) same ∙ deleted i)
