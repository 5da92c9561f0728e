-- The marks that are read are the marks that were spelled.
use Rattle.std.proofs.Common.{◌≡◌, ℕ, suc, ◌+◌, ◌-◌, ◌^◌, ◌<◌, ◌≤◌, ◌&&◌, not, true, eqb, ltb, List, [], ◌∷◌, ◌++◌, length, Option, Some, None, cond, refl, sym, ap, ap₂, subst, ◌∙◌, arith}
use Rattle.std.specs.Prelude.{option_and_then}
use Rattle.std.specs.List.{AllByRecursion}
use Rattle.std.proofs.lemmas.Bool.{eqb-true, ltb-true, ltb-false, lt-ltb, le-ltb, and_parts, and_from, not-true}
use Rattle.std.proofs.lemmas.List.{append-nil, nil_from_length}
use Rattle.std.proofs.lemmas.List.Elements.{All-from_recursion, recursion_from_All}
use Rattle.std.proofs.lemmas.Option.{option_and_then_some, cond_some}
use Rattle.col_bytes.specs.Spellings.{vint, counted, FitsList}
use Rattle.col_bytes.specs.Fronts.{vint_at}
use Rattle.col_bytes.specs.Parts.{ended, counted_at}
use Rattle.col_bytes.proofs.Codecs.{IsCodec}
use Rattle.col_bytes.proofs.Combine.{both_codec, made_codec, counted_codec}
use Rattle.col_bytes.proofs.Vints.{vint_codec}
use Rattle.col_bytes.proofs.Whole.{IsReader, tested_reader, made_reader, one_spelled}
use Rattle.del_vector.specs.declared.gaps.Gap.{Gap}
use Rattle.del_vector.specs.declared.mark.Mark.{Mark}
use Rattle.del_vector.specs.Marks.{are_marks}
use Rattle.del_vector.specs.Spelling.{gaps_from, gap_spelling, spelling, FitsMark, IsSpelled}
use Rattle.del_vector.specs.Fronts.{made_gap, gap_at, marks_from, reach, are_gaps, gaps_of, marks_of}

abbrev is_wide : ℕ → Type 0
is_wide n = n < 2 ^ 64

abbrev pub FitsGap : Gap → Type 0
FitsGap g = (g.gap < 2 ^ 64) × (g.epoch < 2 ^ 64)

gap_codec : IsCodec gap_spelling FitsGap gap_at
unfolding gap_at
gap_codec = made_codec made_gap (λ (g : Gap). (g.gap, g.epoch)) (λ g. refl) (λ x. refl) _ _ _ (both_codec vint is_wide vint_at vint is_wide vint_at vint_codec vint_codec)

-- what is read of a front, where nothing stands behind it
ended_reader : {A : Type 0} (spell : A → List ℕ) (fits : A → Type 0) (read : List ℕ → Option (A × List ℕ)) → IsCodec spell fits read → IsReader spell fits (λ bytes. option_and_then ended (read bytes))
ended_reader {A} spell fits read codec = record {
  takes = λ bytes x are e.
      option_and_then_some ended (read bytes) x e
      (λ y is done.
      let one = codec.takes bytes y are is in
      let g = cond_some (eqb (length y.1) 0) y.0 x done in
      let nothing : y.1 ≡ [] = nil_from_length y.1 (eqb-true _ _ g.0) in
      let all : bytes ≡ spell y.0 = one.0.parts ∙ ap (λ (r : List ℕ). spell y.0 ++ r) nothing ∙ append-nil (spell y.0) in
      subst (λ (z : A). (bytes ≡ spell z) × fits z) g.1 (all, one.1));
  again = λ x fit.
      let back : read (spell x) ≡ Some (x, []) = ap read (sym (append-nil (spell x))) ∙ codec.again x [] fit in
      rw back refl;
}

-- ---- marks and gaps

at_least : (a b : ℕ) → not (ltb a b) ≡ true → b ≤ a
at_least a b e = ltb-false a b (not-true (ltb a b) e)

not_below : (a b : ℕ) → b ≤ a → not (ltb a b) ≡ true
not_below a b le = ap not (le-ltb a b le)

-- what is asked of the first of some marks, and of the others
pub first_mark : (from : ℕ) (m : Mark) (ms : List Mark) → are_marks from (m ∷ ms) ≡ true → (from ≤ m.position) × (0 < m.epoch) × (are_marks (m.position + 1) ms ≡ true)
first_mark from m ms e =
    let one = and_parts (not (ltb m.position from)) (ltb 0 m.epoch && are_marks (m.position + 1) ms) e in
    let two = and_parts (ltb 0 m.epoch) (are_marks (m.position + 1) ms) one.1 in
    (at_least m.position from one.0, ltb-true 0 m.epoch two.0, two.1)

pub marks_more : (from : ℕ) (m : Mark) (ms : List Mark) → from ≤ m.position → 0 < m.epoch → are_marks (m.position + 1) ms ≡ true → are_marks from (m ∷ ms) ≡ true
marks_more from m ms le some rest = and_from _ _ (not_below m.position from le) (and_from _ _ (lt-ltb 0 m.epoch some) rest)

first_gap : (from : ℕ) (g : Gap) (gs : List Gap) → reach from (g ∷ gs) ≡ true → (from + g.gap < 2 ^ 64) × (0 < g.epoch) × (reach (from + g.gap + 1) gs ≡ true)
first_gap from g gs e =
    let one = and_parts (ltb (from + g.gap) (2 ^ 64)) (ltb 0 g.epoch && reach (from + g.gap + 1) gs) e in
    let two = and_parts (ltb 0 g.epoch) (reach (from + g.gap + 1) gs) one.1 in
    (ltb-true _ _ one.0, ltb-true _ _ two.0, two.1)

pub long_gaps : (from : ℕ) (ms : List Mark) → length (gaps_from from ms) ≡ length ms
long_gaps from [] = refl
long_gaps from (m ∷ ms) = ap suc (long_gaps (m.position + 1) ms)

long_marks : (from : ℕ) (gs : List Gap) → length (marks_from from gs) ≡ length gs
long_marks from [] = refl
long_marks from (g ∷ gs) = ap suc (long_marks (from + g.gap + 1) gs)

again_gaps : (from : ℕ) (gs : List Gap) → gaps_from from (marks_from from gs) ≡ gs
again_gaps from [] = refl
again_gaps from (g ∷ gs) =
    let same : from + g.gap - from ≡ g.gap = omega arith in
    ap₂ (λ (n : ℕ) (rest : List Gap). (record g { gap = n }) ∷ rest) same (again_gaps (from + g.gap + 1) gs)

again_marks : (from : ℕ) (ms : List Mark) → are_marks from ms ≡ true → marks_from from (gaps_from from ms) ≡ ms
again_marks from [] e = refl
again_marks from (m ∷ ms) e =
    let parts = first_mark from m ms e in
    let same : from + (m.position - from) ≡ m.position = omega (arith, parts.0) in
    ap (λ (n : ℕ). (record m { position = n }) ∷ marks_from (n + 1) (gaps_from (m.position + 1) ms)) same
    ∙ ap (λ (rest : List Mark). m ∷ rest) (again_marks (m.position + 1) ms parts.2)

pub in_order : (from : ℕ) (gs : List Gap) → reach from gs ≡ true → are_marks from (marks_from from gs) ≡ true
in_order from [] e = refl
in_order from (g ∷ gs) e =
    let parts = first_gap from g gs e in
    marks_more from (record { position = from + g.gap; epoch = g.epoch }) (marks_from (from + g.gap + 1) gs) (omega arith) parts.1 (in_order (from + g.gap + 1) gs parts.2)

fit_marks : (from : ℕ) (gs : List Gap) → reach from gs ≡ true → AllByRecursion FitsGap gs → AllByRecursion FitsMark (marks_from from gs)
fit_marks from [] e fit = tt
fit_marks from (g ∷ gs) e (here, rest) =
    let parts = first_gap from g gs e in
    ((parts.0, here.1), fit_marks (from + g.gap + 1) gs parts.2 rest)

fit_gaps : (from : ℕ) (ms : List Mark) → AllByRecursion FitsMark ms → AllByRecursion FitsGap (gaps_from from ms)
fit_gaps from [] fit = tt
fit_gaps from (m ∷ ms) (here, rest) = ((omega (arith, here.0), here.1), fit_gaps (m.position + 1) ms rest)

reach_gaps : (from : ℕ) (ms : List Mark) → are_marks from ms ≡ true → AllByRecursion FitsMark ms → reach from (gaps_from from ms) ≡ true
reach_gaps from [] e fit = refl
reach_gaps from (m ∷ ms) e (here, rest) =
    let parts = first_mark from m ms e in
    let same : m.position ≡ from + (m.position - from) = omega (arith, parts.0) in
    let behind : reach (m.position + 1) (gaps_from (m.position + 1) ms) ≡ true = reach_gaps (m.position + 1) ms parts.2 rest in
    and_from _ _ (lt-ltb (from + (m.position - from)) (2 ^ 64) (subst (λ (n : ℕ). n < 2 ^ 64) same here.0))
    (and_from _ _ (lt-ltb 0 m.epoch parts.1) (subst (λ (n : ℕ). reach (n + 1) (gaps_from (m.position + 1) ms) ≡ true) same behind))

-- ---- all of the bytes

abbrev FitsGaps : List Gap → Type 0
FitsGaps gs = FitsList FitsGap gs × (are_gaps gs ≡ true)

gaps_reader : IsReader (counted gap_spelling) FitsGaps gaps_of
unfolding gaps_of
gaps_reader = tested_reader are_gaps (counted gap_spelling) (FitsList FitsGap) (λ bytes. option_and_then ended (counted_at gap_at bytes))
    (ended_reader (counted gap_spelling) (FitsList FitsGap) (counted_at gap_at) (counted_codec gap_spelling FitsGap gap_at gap_codec))

pub marks_reader : IsReader spelling IsSpelled marks_of
marks_reader = made_reader (marks_from 0) (gaps_from 0) (counted gap_spelling) FitsGaps IsSpelled gaps_of gaps_reader there back where
  there : (gs : List Gap) → FitsGaps gs → IsSpelled (marks_from 0 gs) × (gaps_from 0 (marks_from 0 gs) ≡ gs)
  there gs fit =
      let parts = and_parts (ltb 0 (length gs)) (reach 0 gs) fit.1 in (
        record {
          some = subst (λ (n : ℕ). 0 < n) (sym (long_marks 0 gs)) (ltb-true 0 (length gs) parts.0);
          long = subst (λ (n : ℕ). n < 2 ^ 64) (sym (long_marks 0 gs)) fit.0.0;
          order = in_order 0 gs parts.1;
          fits = All-from_recursion FitsMark (marks_from 0 gs) (fit_marks 0 gs parts.1 fit.0.1);
        },
        again_gaps 0 gs,
      )

  back : (ms : List Mark) → IsSpelled ms → FitsGaps (gaps_from 0 ms) × (marks_from 0 (gaps_from 0 ms) ≡ ms)
  back ms is =
      let fit = recursion_from_All FitsMark ms is.fits in (
        (
          (subst (λ (n : ℕ). n < 2 ^ 64) (sym (long_gaps 0 ms)) is.long, fit_gaps 0 ms fit),
          and_from _ _ (lt-ltb 0 (length (gaps_from 0 ms)) (subst (λ (n : ℕ). 0 < n) (sym (long_gaps 0 ms)) is.some)) (reach_gaps 0 ms is.order fit),
        ),
        again_marks 0 ms is.order,
      )

pub one_spelling : (ms ns : List Mark) → IsSpelled ms → IsSpelled ns → spelling ms ≡ spelling ns → ms ≡ ns
one_spelling ms ns a b e = one_spelled spelling IsSpelled marks_of marks_reader ms ns a b e

-- the gaps that were read reach no further than positions go
pub gaps_reach : (bytes : List ℕ) (gs : List Gap) → gaps_of bytes ≡ Some gs → reach 0 gs ≡ true
unfolding gaps_of
gaps_reach bytes gs e =
    option_and_then_some (λ (xs : List Gap). cond (are_gaps xs) (Some xs) None) (option_and_then ended (counted_at gap_at bytes)) gs e
    (λ xs is passes.
    let c = cond_some (are_gaps xs) xs gs passes in
    (and_parts (ltb 0 (length gs)) (reach 0 gs) (subst (λ (ys : List Gap). are_gaps ys ≡ true) c.1 c.0)).1)
