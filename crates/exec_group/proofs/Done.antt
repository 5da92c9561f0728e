-- The aggregates of groups that are done, each at its place.
use Rattle.std.proofs.Common.{◌≡◌, ◌⊎◌, ℕ, zero, suc, ◌+◌, ◌<◌, List, [], ◌∷◌, ◌++◌, length, get_or, inl, inr, refl, sym, ap, ◌∙◌, arith}
use Rattle.std.proofs.Math.Seq.{get_or-append_seam}
use Rattle.std.proofs.lemmas.List.{get_or_append_left, length-append}
use Rattle.col_value.specs.declared.wide.Wide.{Wide}
use Rattle.exec_group.specs.Groups.{worths_at, worths_upto}
use Rattle.exec_group.specs.declared.accumulator.Accumulator.{Accumulator}

pub worths_count : (columns : List (List Accumulator)) (n : ℕ) → length (worths_upto columns n) ≡ n
worths_count columns zero = refl
worths_count columns (suc n) =
    let before = worths_count columns n in
    let more = length-append (worths_upto columns n) (worths_at columns n ∷ []) in
    omega (arith, before, more)

before_or_there : (g n : ℕ) → g < suc n → (g < n) ⊎ (g ≡ n)
before_or_there zero zero h = inr refl
before_or_there zero (suc n) h = inl (omega arith)
before_or_there (suc g) zero h = absurd (omega (arith, h))
before_or_there (suc g) (suc n) h = by (before_or_there g n (omega (arith, h)))
  where
    by : (g < n) ⊎ (g ≡ n) → (suc g < suc n) ⊎ (suc g ≡ suc n)
    by (inl lt) = inl (omega (arith, lt))
    by (inr is) = inr (ap suc is)

pub worths_there : (columns : List (List Accumulator)) (n g : ℕ) → g < n → get_or (worths_upto columns n) g [] ≡ worths_at columns g
worths_there columns zero g h = absurd (omega (arith, h))
worths_there columns (suc n) g h = by (worths_there columns n g) (before_or_there g n h)
  where
    before : List (List Wide)
    before = worths_upto columns n

    by : (g < n → get_or before g [] ≡ worths_at columns g) → (g < n) ⊎ (g ≡ n) → get_or (before ++ worths_at columns n ∷ []) g [] ≡ worths_at columns g
    by there (inl lt) = let inside : g < length before = omega (arith, lt, worths_count columns n) in get_or_append_left before (worths_at columns n ∷ []) [] g inside ∙ there lt
    by there (inr is) =
        let last : g ≡ length before = is ∙ sym (worths_count columns n) in
        ap (λ k. get_or (before ++ worths_at columns n ∷ []) k []) last ∙ get_or-append_seam before (worths_at columns n) [] [] ∙ ap (worths_at columns) (sym is)
