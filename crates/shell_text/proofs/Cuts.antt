-- Pieces at the front of a text.
use Rattle.std.proofs.Common.{◌≡◌, ℕ, ◌+◌, ◌-◌, ◌<◌, ◌≤◌, ◌++◌, List, [], ◌∷◌, length, take, drop, refl, sym, ap, ap₂, ◌∙◌, arith}
use Rattle.std.proofs.lemmas.List.{drop-drop, drop-take, length-drop, length-take, take-append-drop}
use Rattle.sql_words.specs.Texts.{statement_spans}
use Rattle.shell_text.specs.Pieces.{IsLine, IsStatement}

pub front_and_rest : (bytes : List ℕ) (at size : ℕ) → drop at bytes ≡ take size (drop at bytes) ++ drop (at + size) bytes
front_and_rest bytes at size = sym (take-append-drop size (drop at bytes)) ∙ ap (λ (t : List ℕ). take size (drop at bytes) ++ t) (drop-drop size at bytes)

-- a span that begins at 0 and ends there
pub span_is : (span : ℕ × ℕ) (end : ℕ) → span.0 ≡ 0 → span.1 ≡ end → span ≡ (0, end)
span_is span end a b = ap₂ (λ (x y : ℕ). (x, y)) a b

-- the statement that a place of a text begins with
pub placed_statement : (text rest : List ℕ) (start e size : ℕ) → rest ≡ drop start text → start ≤ length text → e < length rest → size ≡ start + e + 1 → statement_spans (take (e + 1) rest) ≡ (0, e) ∷ []
    → IsStatement (take size text) start (start + e)
placed_statement text rest start e size is within before size_is one =
    let long : size ≡ start + (e + 1) = omega arith in
    let as_long : length rest ≡ length (drop start text) = ap (λ (t : List ℕ). length t) is in
    let cut : drop start (take size text) ≡ take (e + 1) rest =
    ap (λ (n : ℕ). drop start (take n text)) long ∙ drop-take start (e + 1) text ∙ ap (take (e + 1)) (sym is) in
    let same : e ≡ (start + e) - start = omega arith in
    record {
      order = omega arith;
      ends = omega (arith, length-take size text, length-drop start text);
      one = ap statement_spans cut ∙ one ∙ ap (λ (n : ℕ). (0, n) ∷ []) same;
    }

-- the line of the shell's own that a place of a text begins with
pub placed_line : (text rest : List ℕ) (start n size : ℕ) → rest ≡ drop start text → start ≤ length text → n < length rest → size ≡ start + n + 1 → IsLine (take size text) start (start + n)
placed_line text rest start n size is within before size_is =
    let as_long : length rest ≡ length (drop start text) = ap (λ (t : List ℕ). length t) is in
    record {
      order = omega arith;
      ends = omega (arith, length-take size text, length-drop start text);
    }
