-- The load is made line by line.
use Rattle.std.proofs.Common.{◌≡◌, ◌∙◌, ℕ, zero, suc, ◌+◌, ◌-◌, ◌<◌, List, ◌++◌, refl, ap, arith, append_assoc}
use Rattle.generated_load.specs.Load.{drawn, generated_line, lines_from, number_after}

-- one line more is made
pub line_more : (out made : List ℕ) (n i x : ℕ) → 0 < n → made ≡ out ++ generated_line i (drawn (number_after x)) → made ++ lines_from (n - 1) (i + 1) (number_after x) ≡ out ++ lines_from n i x
line_more out made zero i x some is = absurd (omega (arith, some))
line_more out made (suc n) i x some is =
    let less : suc n - 1 ≡ n = omega arith in
    ap (λ m. made ++ lines_from m (i + 1) (number_after x)) less
    ∙ ap (λ front. front ++ lines_from n (i + 1) (number_after x)) is
    ∙ append_assoc out (generated_line i (drawn (number_after x))) (lines_from n (i + 1) (number_after x))

-- the parts of a line, put behind each other
pub line_made : {a b c d e f g all : List ℕ} (old number region quantity price bar end : List ℕ) → a ≡ old ++ number → b ≡ a ++ bar → c ≡ b ++ region → d ≡ c ++ bar → e ≡ d ++ quantity → f ≡ e ++ bar → g ≡ f ++ price → all ≡ g ++ end
    → all ≡ old ++ (number ++ bar ++ region ++ bar ++ quantity ++ bar ++ price ++ end)
line_made old number region quantity price bar end is1 is2 is3 is4 is5 is6 is7 is8 = is8 ∙ rw (is7, is6, is5, is4, is3, is2, is1) (simp append_assoc refl)
