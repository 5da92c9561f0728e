-- Spaces and comments have no token.
use Rattle.std.proofs.Common.{◌≡◌, ◌≢◌, ℕ, ◌+◌, ◌≤◌, ◌<◌, false, List, [], ◌∷◌, ◌++◌, length, drop, All, IsTrue, arith, refl, ap, ◌∙◌, subst, append_assoc, length-append}
use Rattle.std.specs.List.{list_any}
use Rattle.std.proofs.Math.Seq.{drop-append_seam, drop-length}
use Rattle.sql_words.specs.declared.piece.Piece.{Piece}
use Rattle.sql_words.specs.Bytes.{is_space}
use Rattle.sql_words.specs.Words.{gap, piece_of, placed, tokens_behind}
use Rattle.sql_words.specs.WellFormed.{Part, spelled, spelling, is_of_token}
use Rattle.sql_words.proofs.Tokens.{behind_piece}
use Rattle.word_laws.proofs.Parts.{ArePartsBefore, one_line, last_line}

-- behind a piece whose size is known the tokens go on
pub piece_step : (at : ℕ) (front rest : List ℕ) (piece : Piece) → 0 < length front → piece_of (front ++ rest) ≡ piece → piece.size ≡ length front → tokens_behind 0 at (front ++ rest) ≡ placed piece at ++ tokens_behind 0 (at + length front) rest
piece_step at front rest piece some is_piece is_size =
    let P : Piece → Type 0 = λ p. 0 < p.size → p.size ≤ length (front ++ rest) → tokens_behind 0 at (front ++ rest) ≡ placed p at ++ tokens_behind 0 (at + p.size) (drop p.size (front ++ rest)) in
    let there : P (piece_of (front ++ rest)) = λ s w. behind_piece at (front ++ rest) s w in
    let here : P piece = subst P is_piece there in
    here (omega (arith, is_size)) (omega (arith, is_size, length-append front rest))
    ∙ (ap (λ (n : ℕ). placed piece at ++ tokens_behind 0 (at + n) (drop n (front ++ rest))) is_size
    ∙ ap (λ (more : List ℕ). placed piece at ++ tokens_behind 0 (at + length front) more) (drop-append_seam front rest))

-- past a space or a comment
pub gap_step : (at : ℕ) (front rest : List ℕ) → 0 < length front → piece_of (front ++ rest) ≡ gap (length front) → tokens_behind 0 at (front ++ rest) ≡ tokens_behind 0 (at + length front) rest
gap_step at front rest some is_gap = piece_step at front rest (gap (length front)) some is_gap refl

pub space_gap : (b : ℕ) (rest : List ℕ) → IsTrue (is_space b) → piece_of (b ∷ rest) ≡ gap 1
unfolding piece_of
space_gap b rest told = rw told refl

pub space_gone : (at b : ℕ) (rest : List ℕ) → IsTrue (is_space b) → tokens_behind 0 at (b ∷ rest) ≡ tokens_behind 0 (at + 1) rest
space_gone at b rest told = gap_step at (b ∷ []) rest (omega arith) (space_gap b rest told)

pub comment_gap : (line rest : List ℕ) → All (λ b. b ≢ 10) line → piece_of ((45 ∷ (45 ∷ line)) ++ (10 ∷ rest)) ≡ gap (length (45 ∷ (45 ∷ line)))
unfolding piece_of
comment_gap line rest h = rw (one_line line rest h) (ap (λ (n : ℕ). gap n) (omega arith))

pub comment_gone : (at : ℕ) (line rest : List ℕ) → All (λ b. b ≢ 10) line → tokens_behind 0 at (spelled (Part.Comment line) ++ rest) ≡ tokens_behind 0 (at + length (spelled (Part.Comment line))) rest
comment_gone at line rest h =
    let same : spelled (Part.Comment line) ++ rest ≡ (45 ∷ (45 ∷ line)) ++ (10 ∷ rest) = simp append_assoc in
    let as_long : at + length (45 ∷ (45 ∷ line)) + 1 ≡ at + length (spelled (Part.Comment line)) = omega (arith, length-append line (10 ∷ [])) in
    ap (λ (x : List ℕ). tokens_behind 0 at x) same
    ∙ (gap_step at (45 ∷ (45 ∷ line)) (10 ∷ rest) (omega arith) (comment_gap line rest h)
    ∙ (space_gone (at + length (45 ∷ (45 ∷ line))) 10 rest refl
    ∙ ap (λ (n : ℕ). tokens_behind 0 n rest) as_long))

-- past all of them
join_gone : (at : ℕ) (piece more after : List ℕ) → tokens_behind 0 at (piece ++ (more ++ after)) ≡ tokens_behind 0 (at + length piece) (more ++ after) → tokens_behind 0 (at + length piece) (more ++ after) ≡ tokens_behind 0 (at + length piece + length more) after → tokens_behind 0 at ((piece ++ more) ++ after) ≡ tokens_behind 0 (at + length (piece ++ more)) after
join_gone at piece more after one two =
    let as_long : at + length piece + length more ≡ at + length (piece ++ more) = omega (arith, length-append piece more) in
    ap (λ (x : List ℕ). tokens_behind 0 at x) (append_assoc piece more after) ∙ (one ∙ (two ∙ ap (λ (n : ℕ). tokens_behind 0 n after) as_long))

pub blanks_gone : (at : ℕ) (after : List ℕ) (parts : List Part) → ArePartsBefore after parts → list_any is_of_token parts ≡ false → tokens_behind 0 at (spelling parts ++ after) ≡ tokens_behind 0 (at + length (spelling parts)) after
blanks_gone at after [] h none = let e : at + 0 ≡ at = omega arith in rw e refl
blanks_gone at after (Part.Space b ∷ more) h none =
    join_gone at (b ∷ []) (spelling more) after
    (space_gone at b (spelling more ++ after) (h.0))
    (blanks_gone (at + length (b ∷ [])) after more (h.1) none)
blanks_gone at after (Part.Comment line ∷ more) h none =
    join_gone at (spelled (Part.Comment line)) (spelling more) after
    (comment_gone at line (spelling more ++ after) (h.0))
    (blanks_gone (at + length (spelled (Part.Comment line))) after more (h.1) none)
blanks_gone at after (Part.Text says ∷ more) h none = cc
blanks_gone at after (Part.Other b ∷ more) h none = cc

-- a comment that goes on to the end has none either
last_gap : (line : List ℕ) → All (λ b. b ≢ 10) line → piece_of (45 ∷ (45 ∷ line)) ≡ gap (length (45 ∷ (45 ∷ line)))
unfolding piece_of
last_gap line h = rw (last_line line h) (ap (λ (n : ℕ). gap n) (omega arith))

pub last_gone : (at : ℕ) (line : List ℕ) → All (λ b. b ≢ 10) line → tokens_behind 0 at (45 ∷ (45 ∷ line)) ≡ []
last_gone at line h =
    let text = 45 ∷ (45 ∷ line) in
    let P : Piece → Type 0 = λ p. 0 < p.size → p.size ≤ length text → tokens_behind 0 at text ≡ placed p at ++ tokens_behind 0 (at + p.size) (drop p.size text) in
    let there : P (piece_of text) = λ s w. behind_piece at text s w in
    let here : P (gap (length text)) = subst P (last_gap line h) there in
    here (omega arith) (omega arith) ∙ ap (λ (more : List ℕ). tokens_behind 0 (at + length text) more) (drop-length text)
