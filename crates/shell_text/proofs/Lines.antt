-- The last line of a text, as it is read on.
use Rattle.std.proofs.Common.{◌≡◌, ◌≢◌, ℕ, ◌+◌, ◌<◌, ◌≤◌, ◌++◌, Bool, true, false, List, [], ◌∷◌, length, take, drop, get_or, sym, ap, ◌∙◌, arith}
use Rattle.std.specs.Prelude.{◌==◌, if◌then◌else◌}
use Rattle.std.specs.List.{fold}
use Rattle.std.proofs.lemmas.Bool.Decides.{nat_tests}
use Rattle.std.proofs.lemmas.List.{drop_all, drop-append-le, length-take, take_more}
use Rattle.std.proofs.lemmas.List.Sums.{fold_more}
use Rattle.shell_text.specs.Excerpts.{last_line}

abbrev step : List ℕ → ℕ → List ℕ
step line b = if b == 10 then [] else line ++ b ∷ []

is_other : (b : ℕ) → b ≢ 10 → (b == 10) ≡ false
is_other b h = grind (arith, nat_tests)

-- behind a line feed a line begins
pub line_begins : (text : List ℕ) (i b : ℕ) → i < length text → get_or text i 0 ≡ b → b ≡ 10 → drop (i + 1) (take (i + 1) text) ≡ last_line (take (i + 1) text)
line_begins text i b within at is =
    drop_all (i + 1) (take (i + 1) text) (omega (arith, length-take (i + 1) text))
    ∙ sym (fold_more step [] text i 0 within ∙ ap (step (last_line (take i text))) (at ∙ is))

-- and any other byte belongs to it
pub line_goes_on : (text : List ℕ) (start i b : ℕ) → start ≤ i → i < length text → get_or text i 0 ≡ b → b ≢ 10 → drop start (take i text) ≡ last_line (take i text) → drop start (take (i + 1) text) ≡ last_line (take (i + 1) text)
line_goes_on text start i b order within at other before =
    ap (drop start) (take_more text i 0 within)
    ∙ drop-append-le start (take i text) (get_or text i 0 ∷ []) (omega (arith, length-take i text))
    ∙ ap (λ (line : List ℕ). line ++ get_or text i 0 ∷ []) before
    ∙ ap (λ (x : ℕ). last_line (take i text) ++ x ∷ []) at
    ∙ ap (λ (v : Bool). if v then [] else last_line (take i text) ++ b ∷ []) (sym (is_other b other))
    ∙ sym (fold_more step [] text i 0 within ∙ ap (step (last_line (take i text))) at)
