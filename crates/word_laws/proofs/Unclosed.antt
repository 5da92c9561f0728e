-- A quote that is closed nowhere takes the rest of the script.
use Rattle.std.proofs.Common.{◌≡◌, ◌≢◌, ℕ, zero, suc, ◌+◌, ◌-◌, ◌<◌, true, false, List, [], ◌∷◌, ◌++◌, map, length, drop, slice_index, Option, Some, None, inl, inr, arith, refl, ap, sym, ◌∙◌, subst, append_assoc, append-nil, length-append, length-drop}
use Rattle.std.proofs.lemmas.List.{map-append}
use Rattle.std.proofs.Math.Seq.{drop-length}
use Rattle.sql_words.specs.declared.token.Token.{Token}
use Rattle.sql_words.specs.declared.token.TokenKind.{TokenKind}
use Rattle.sql_words.specs.declared.piece.Piece.{Piece}
use Rattle.sql_words.specs.Bytes.{closing_quote}
use Rattle.sql_words.specs.Symbols.{Symbol, symbol_of, symbol_of_kind}
use Rattle.sql_words.specs.Texts.{part_size, ends_behind, is_nonempty, statement_texts}
use Rattle.sql_words.specs.Words.{piece_of, placed, tokens_of, tokens_behind}
use Rattle.sql_words.specs.WellFormed.{Part, spelled, spelling, AreParts}
use Rattle.sql_words.proofs.Tokens.{behind_piece}
use Rattle.word_laws.specs.Unfinished.{ends_in_text, EndsBad, UnfinishedIsOne, UnfinishedIsLast, UnfinishedIsBad, UnfinishedSaysNothing}
use Rattle.word_laws.proofs.Parts.{ArePartsBefore, not_first, past_parts}
use Rattle.word_laws.proofs.Shifted.{kept}
use Rattle.word_laws.proofs.Cuts.{alone, to_the_end, ends_cut}
use Rattle.word_laws.proofs.Lands.{GoesOn, goes}

-- the parts behind the first end as all do
last_behind : (part : Part) (more : List Part) → ends_in_text (part ∷ more) ≡ false → ends_in_text more ≡ false
last_behind part [] h = refl
last_behind part (next ∷ more) h = h

first_of : (d : ℕ) (xs ys : List ℕ) → 0 < length xs → slice_index xs 0 ≢ d → slice_index (xs ++ ys) 0 ≢ d
first_of d [] ys some other = absurd (omega arith)
first_of d (x ∷ xs) ys some other = other

part_some : (part : Part) (rest : List ℕ) → 0 < length (spelled part ++ rest)
part_some (Part.Space b) rest = omega arith
part_some (Part.Comment line) rest = omega arith
part_some (Part.Text says) rest = omega arith
part_some (Part.Other b) rest = omega arith

text_before : (says : List ℕ) (more : List Part) (rest : List ℕ) → slice_index (spelling more) 0 ≢ 39 → ends_in_text (Part.Text says ∷ more) ≡ false → slice_index (spelling more ++ (39 ∷ rest)) 0 ≢ 39
text_before says [] rest other last = cc
text_before says (next ∷ more) rest other last = first_of 39 (spelling (next ∷ more)) (39 ∷ rest) (part_some next (spelling more)) other

no_dash : (rest : List ℕ) → slice_index (39 ∷ rest) 0 ≢ 45
no_dash rest e = cc

-- parts of which the last is no text between quotes are so before a quote
pub open_before : (rest : List ℕ) (parts : List Part) → AreParts parts → ends_in_text parts ≡ false → ArePartsBefore (39 ∷ rest) parts
open_before rest [] h last = tt
open_before rest (Part.Space b ∷ more) h last = (h.0, open_before rest more (h.1) (last_behind (Part.Space b) more last))
open_before rest (Part.Comment line ∷ more) h last = (h.0, open_before rest more (h.1) (last_behind (Part.Comment line) more last))
open_before rest (Part.Text says ∷ more) h last = (text_before says more rest (h.0) last, open_before rest more (h.1) (last_behind (Part.Text says) more last))
open_before rest (Part.Other b ∷ more) h last = (h.0, h.1, h.2, λ e. not_first 45 (spelling more) (39 ∷ rest) (h.3 e) (no_dash rest), open_before rest more (h.4) (last_behind (Part.Other b) more last))

-- a Bad token behind others
bad_behind : (end : ℕ) (tokens more : List Token) → EndsBad end more → EndsBad end (tokens ++ more)
bad_behind end tokens more (before, last, are, bad, ends) = (tokens ++ before, last, ap (λ (xs : List Token). tokens ++ xs) are ∙ sym (append_assoc tokens before (last ∷ [])), bad, ends)

bad_placed : (kind : Option TokenKind) (size at end : ℕ) → kind ≡ Some TokenKind.Bad → at + size ≡ end → EndsBad end (placed (record { kind = kind; size = size }) at)
bad_placed None size at end bad ends = cc
bad_placed (Some kind) size at end bad ends = ([], record { kind = kind; start = at; end = at + size }, refl, cc, ends)

bad_alone : (piece : Piece) (at : ℕ) (text : List ℕ) → piece.kind ≡ Some TokenKind.Bad → piece.size ≡ length text → EndsBad (at + length text) (placed piece at ++ tokens_behind 0 (at + piece.size) (drop piece.size text))
bad_alone piece at text bad size =
    let P : ℕ → Type 0 = λ n. tokens_behind 0 (at + piece.size) (drop n text) ≡ [] in
    let none : P piece.size = subst P (sym size) (ap (λ (more : List ℕ). tokens_behind 0 (at + piece.size) more) (drop-length text)) in
    let Q : List Token → Type 0 = λ more. EndsBad (at + length text) (placed piece at ++ more) in
    let R : List Token → Type 0 = λ tokens. EndsBad (at + length text) tokens in
    let one : R (placed piece at) = bad_placed piece.kind piece.size at (at + length text) bad (ap (λ (n : ℕ). at + n) size) in
    subst Q (sym none) (subst R (sym (append-nil (placed piece at))) one)

-- the last token is Bad
ends_bad : (count at : ℕ) (rest : List ℕ) (parts : List Part) → length (spelling parts ++ (39 ∷ rest)) < count → ArePartsBefore (39 ∷ rest) parts → closing_quote 0 rest ≡ None → EndsBad (at + length (spelling parts ++ (39 ∷ rest))) (tokens_behind 0 at (spelling parts ++ (39 ∷ rest)))
ends_bad zero at rest parts below are none = absurd (omega arith)
ends_bad (suc count) at rest parts below are none =
    let text = spelling parts ++ (39 ∷ rest) in
    let piece = piece_of text in
    let on : GoesOn (39 ∷ rest) text piece = goes rest parts are none in
    let P : List Token → Type 0 = λ tokens. EndsBad (at + length text) tokens in
    let here = behind_piece at text (on.0) (on.1) in
    elim (on.2) [
      | inl h ↦ subst P (sym here) (bad_alone piece at text (h.0) (h.1))
      | inr h ↦
          let shorter : length (drop piece.size text) ≡ length text - piece.size = length-drop piece.size text in
          let as_long : length (drop piece.size text) ≡ length (spelling (h.0) ++ (39 ∷ rest)) = ap (λ (x : List ℕ). length x) (h.2) in
          let end : at + piece.size + length (spelling (h.0) ++ (39 ∷ rest)) ≡ at + length text = omega (arith, shorter, as_long, on.1) in
          let more = ends_bad count (at + piece.size) rest (h.0) (omega (arith, shorter, as_long, on.0, on.1, below)) (h.1) none in
          let Q : List ℕ → Type 0 = λ x. EndsBad (at + length text) (tokens_behind 0 (at + piece.size) x) in
          let R : ℕ → Type 0 = λ n. EndsBad n (tokens_behind 0 (at + piece.size) (spelling (h.0) ++ (39 ∷ rest))) in
          let there : Q (drop piece.size text) = subst Q (sym (h.2)) (subst R end more) in
          subst P (sym here) (bad_behind (at + length text) (placed piece at) (tokens_behind 0 (at + piece.size) (drop piece.size text)) there)
    ]

parts_bad : (rest : List ℕ) (parts : List Part) → ArePartsBefore (39 ∷ rest) parts → closing_quote 0 rest ≡ None → EndsBad (length (spelling parts ++ (39 ∷ rest))) (tokens_of (spelling parts ++ (39 ∷ rest)))
parts_bad rest parts are none =
    let text = spelling parts ++ (39 ∷ rest) in
    let P : ℕ → Type 0 = λ n. EndsBad n (tokens_of text) in
    let same : 0 + length text ≡ length text = omega arith in
    subst P same (ends_bad (suc (length text)) 0 rest parts (omega arith) are none)

pub unfinished_bad : UnfinishedIsBad
unfinished_bad text inner h none =
    let P : List ℕ → Type 0 = λ x. EndsBad (length (x ++ (39 ∷ inner))) (tokens_of (x ++ (39 ∷ inner))) in
    subst P h.spells (parts_bad inner h.parts (open_before inner h.parts h.are h.last) none)

bad_unknown : (text : List ℕ) (token : Token) (kind : TokenKind) → token.kind ≡ kind → kind ≡ TokenKind.Bad → symbol_of text token ≡ Symbol.Unknown
bad_unknown text token kind is_kind bad = ap (λ (k : TokenKind). symbol_of_kind text (token.start, token.end) k) (is_kind ∙ bad)

pub unfinished_unknown : UnfinishedSaysNothing
unfinished_unknown text inner h none =
    let script = text ++ (39 ∷ inner) in
    let bad = unfinished_bad text inner h none in
    let unknown : symbol_of script (bad.1) ≡ Symbol.Unknown = bad_unknown script (bad.1) (bad.1).kind refl (bad.3) in (
      map (symbol_of script) (bad.0),
      ap (λ (tokens : List Token). map (symbol_of script) tokens) (bad.2)
          ∙ (map-append (symbol_of script) (bad.0) (bad.1 ∷ [])
          ∙ ap (λ (s : Symbol). map (symbol_of script) (bad.0) ++ (s ∷ [])) unknown),
    )

-- the quote and all behind it are one part
open_size : (rest : List ℕ) → closing_quote 0 rest ≡ None → part_size (39 ∷ rest) ≡ length (39 ∷ rest)
unfolding part_size
open_size rest none = rw none refl

some_behind : (before : List Token) (last : Token) → is_nonempty (before ++ (last ∷ [])) ≡ true
some_behind [] last = refl
some_behind (token ∷ before) last = refl

bad_kept : (end : ℕ) (text : List ℕ) → EndsBad end (tokens_of text) → kept text ≡ text ∷ []
bad_kept end text (before, last, are, bad, ends) =
    let some : is_nonempty (tokens_of text) ≡ true = ap (λ (tokens : List Token). is_nonempty tokens) are ∙ some_behind before last in
    rw some refl

parts_one : (rest : List ℕ) (parts : List Part) → ArePartsBefore (39 ∷ rest) parts → closing_quote 0 rest ≡ None → statement_texts (spelling parts ++ (39 ∷ rest)) ≡ (spelling parts ++ (39 ∷ rest)) ∷ []
parts_one rest parts are none =
    let text = spelling parts ++ (39 ∷ rest) in
    let as_long : 0 + length (spelling parts) + length (39 ∷ rest) ≡ 0 + length text = omega (arith, length-append (spelling parts) (39 ∷ rest)) in
    let ends : ends_behind 0 0 text ≡ (0 + length text) ∷ [] =
    past_parts 0 (39 ∷ rest) parts are ∙ (to_the_end (0 + length (spelling parts)) (39 ∷ rest) (omega arith) (λ e. cc) (open_size rest none) ∙ ap (λ (n : ℕ). n ∷ []) as_long) in
    alone text ends ∙ bad_kept (length text) text (parts_bad rest parts are none)

pub unfinished_one : UnfinishedIsOne
unfinished_one text inner h none =
    let P : List ℕ → Type 0 = λ x. statement_texts (x ++ (39 ∷ inner)) ≡ (x ++ (39 ∷ inner)) ∷ [] in
    subst P h.spells (parts_one inner h.parts (open_before inner h.parts h.are h.last) none)

pub unfinished_last : UnfinishedIsLast
unfinished_last script text inner closed h none =
    ends_cut script (text ++ (39 ∷ inner)) closed ∙ ap (λ (xs : List (List ℕ)). statement_texts script ++ xs) (unfinished_one text inner h none)
