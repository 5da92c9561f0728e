-- The output among the others, and the greatest epoch, one container after the other.
use Rattle.std.proofs.Common.{◌≡◌, ℕ, zero, suc, ◌+◌, ◌<◌, ◌≤◌, ◌++◌, Bool, true, false, cond, List, [], ◌∷◌, length, drop, get_or, refl, sym, ap, ◌∙◌, arith, subst, append_assoc}
use Rattle.std.specs.Prelude.{slice_index_or}
use Rattle.std.specs.List.{All}
use Rattle.std.proofs.lemmas.List.{append-nil, drop_all}
use Rattle.std.proofs.lemmas.List.Elements.{All-nil, All-cons, All-head, All-tail, All-append}
use Rattle.catalog_types.specs.declared.catalogue.Container.{Container}
use Rattle.merge_rows.specs.Inputs.{chosen, others, replaced}
use Rattle.mergeout_job.specs.Putting.{put_at}

-- what is still to come: the output too, where none was chosen yet
abbrev pub left_of : Bool → List Bool → List Container → List Container → List Container
left_of true flags made ks = replaced flags made ks
left_of false flags made ks = others flags ks

step_none : (first : Bool) (made : List Container) (k : Container) (ks : List Container) → left_of first [] made (k ∷ ks) ≡ k ∷ left_of first [] made ks
step_none true made k ks = refl
step_none false made k ks = refl

step_one : (first f : Bool) (flags : List Bool) (made : List Container) (k : Container) (ks : List Container) → left_of first (f ∷ flags) made (k ∷ ks) ≡ put_at f first made k ++ left_of (cond f false first) flags made ks
step_one true true flags made k ks = refl
step_one true false flags made k ks = refl
step_one false true flags made k ks = refl
step_one false false flags made k ks = refl

drop_none : (n : ℕ) → drop {A = Bool} n [] ≡ []
drop_none zero = refl
drop_none (suc n) = refl

left_suc : (first : Bool) (i : ℕ) (flags : List Bool) (made ks : List Container) (k : Container) → i < length ks → k ≡ get_or ks i k
    → left_of first (drop i flags) made (drop i ks) ≡ put_at (slice_index_or flags i false) first made k ++ left_of (cond (slice_index_or flags i false) false first) (drop (suc i) flags) made (drop (suc i) ks)
left_suc first i flags made [] k lt is = absurd (omega (arith, lt))
left_suc first zero [] made (x ∷ ks) k lt is = step_none first made x ks ∙ ap (λ (y : Container). y ∷ left_of first [] made ks) (sym is)
left_suc first zero (f ∷ flags) made (x ∷ ks) k lt is = step_one first f flags made x ks ∙ ap (λ (y : Container). put_at f first made y ++ left_of (cond f false first) flags made ks) (sym is)
left_suc first (suc i) [] made (x ∷ ks) k lt is = ap (λ (fs : List Bool). left_of first fs made (drop i ks)) (sym (drop_none i)) ∙ left_suc first i [] made ks k (omega (arith, lt)) is
left_suc first (suc i) (f ∷ flags) made (x ∷ ks) k lt is = left_suc first i flags made ks k (omega (arith, lt)) is

pub left_more : (first : Bool) (i : ℕ) (flags : List Bool) (made ks all : List Container) (k : Container) (out more : List Container) (flag now : Bool) → i < length ks → k ≡ get_or ks i k → flag ≡ slice_index_or flags i false
    → more ≡ out ++ put_at flag first made k → now ≡ cond flag false first
    → out ++ left_of first (drop i flags) made (drop i ks) ≡ all → more ++ left_of now (drop (i + 1) flags) made (drop (i + 1) ks) ≡ all
left_more first i flags made ks all k out more flag now lt is flag_is more_is now_is was =
    let next : i + 1 ≡ suc i = omega arith in
    let rest : Bool → List Container = λ (b : Bool). left_of b (drop (suc i) flags) made (drop (suc i) ks) in
    ap (λ (n : ℕ). more ++ left_of now (drop n flags) made (drop n ks)) next
    ∙ ap (λ (xs : List Container). xs ++ rest now) (more_is ∙ ap (λ (b : Bool). out ++ put_at b first made k) flag_is)
    ∙ ap (λ (b : Bool). (out ++ put_at (slice_index_or flags i false) first made k) ++ rest b) (now_is ∙ ap (λ (b : Bool). cond b false first) flag_is)
    ∙ append_assoc out (put_at (slice_index_or flags i false) first made k) (rest (cond (slice_index_or flags i false) false first))
    ∙ ap (λ (xs : List Container). out ++ xs) (sym (left_suc first i flags made ks k lt is))
    ∙ was

pub left_none : (first : Bool) (i : ℕ) (flags : List Bool) (made ks : List Container) → length ks ≤ i → left_of first (drop i flags) made (drop i ks) ≡ []
left_none first i flags made ks done = ap (left_of first (drop i flags) made) (drop_all i ks done) ∙ by first (drop i flags)
  where
    by : (b : Bool) (fs : List Bool) → left_of b fs made [] ≡ []
    by true [] = refl
    by true (f ∷ fs) = refl
    by false [] = refl
    by false (f ∷ fs) = refl

-- ---- of each that stands in the place of others

pub all_others : (P : Container → Type 0) (flags : List Bool) (ks : List Container) → All P ks → All P (others flags ks)
all_others P [] ks all = all
all_others P (f ∷ flags) [] all = All-nil P
all_others P (true ∷ flags) (k ∷ ks) all = all_others P flags ks (All-tail P k ks all)
all_others P (false ∷ flags) (k ∷ ks) all = All-cons P k (others flags ks) (All-head P k ks all) (all_others P flags ks (All-tail P k ks all))

pub all_replaced : (P : Container → Type 0) (flags : List Bool) (made ks : List Container) → All P made → All P ks → All P (replaced flags made ks)
all_replaced P [] made ks new all = all
all_replaced P (f ∷ flags) made [] new all = All-nil P
all_replaced P (true ∷ flags) made (k ∷ ks) new all = All-append P made (others flags ks) new (all_others P flags ks (All-tail P k ks all))
all_replaced P (false ∷ flags) made (k ∷ ks) new all = All-cons P k (replaced flags made ks) (All-head P k ks all) (all_replaced P flags made ks new (All-tail P k ks all))
