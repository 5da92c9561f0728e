-- A script of well-formed texts splits into them.
use Rattle.std.proofs.Common.{◌≡◌, ◌≢◌, ℕ, suc, ◌+◌, ◌-◌, ◌≤◌, ◌<◌, ◌==◌, nat_eq, Bool, true, false, not, if◌then◌else◌, List, [], ◌∷◌, ◌++◌, map, filter, flat_map, length, take, drop, slice_index, All, Option, Some, None, is_some, inl, inr, codes, IsTrue, arith, refl, ap, sym, ◌∙◌, subst, append_assoc, length-append, append-nil}
use Rattle.std.specs.List.{list_any, prefix_len}
use Rattle.std.proofs.lemmas.Bool.{ne_eqb}
use Rattle.std.proofs.lemmas.Bool.Decides.{eqb_tells}
use Rattle.std.proofs.lemmas.List.Elements.{All-head, All-tail}
use Rattle.std.proofs.Math.Seq.{drop-append_seam, take-append_seam}
use Rattle.sql_words.specs.Bytes.{is_space, begins_word, stands_at, begins_comment, closing_quote}
use Rattle.sql_words.specs.Texts.{cut, part_size, ends_behind, spans_to, has_token, is_nonempty}
use Rattle.std.specs.Char.{is_ascii_digit}
use Rattle.std.specs.Str.{is_utf8}
use Rattle.sql_words.specs.declared.token.Sign.{Sign}
use Rattle.sql_words.specs.declared.token.Back.{Back}
use Rattle.sql_words.specs.declared.token.Token.{Token}
use Rattle.sql_words.specs.declared.token.TokenKind.{TokenKind}
use Rattle.sql_words.specs.declared.piece.Piece.{Piece}
use Rattle.sql_words.specs.Words.{gap, bad_piece, command_piece, piece_of, placed, tokens_behind, tokens_of, number_of_size, text_of_size, short_sign, short_sign_piece, sign_piece_of}
use Rattle.sql_words.specs.WellFormed.{Part, spelled_in_text, spelled, spelling, AreParts, is_of_token, IsWellFormed, joined, SplitsBack}
use Rattle.sql_words.proofs.Ends.{behind_part}
use Rattle.sql_words.proofs.Quotes.{past_byte, past_twin}
use Rattle.sql_words.proofs.Tokens.{nonempty_piece, behind_piece}

-- the first byte of two lists is that of the one or the other
not_first : (d : ℕ) (xs ys : List ℕ) → slice_index xs 0 ≢ d → slice_index ys 0 ≢ d → slice_index (xs ++ ys) 0 ≢ d
not_first d [] ys one two = two
not_first d (x ∷ xs) ys one two = one

-- a part whose size is known is passed over
part_step : (at : ℕ) (piece rest : List ℕ) → 0 < length piece → slice_index (piece ++ rest) 0 ≢ 59 → part_size (piece ++ rest) ≡ length piece → ends_behind 0 at (piece ++ rest) ≡ ends_behind 0 (at + length piece) rest
part_step at piece rest some other size =
    let P : ℕ → Type 0 = λ n. 0 < n → n ≤ length (piece ++ rest) → ends_behind 0 at (piece ++ rest) ≡ ends_behind 0 (at + n) (drop n (piece ++ rest)) in
    let there : P (part_size (piece ++ rest)) = λ s w. behind_part at (piece ++ rest) other s w in
    let here : P (length piece) = subst P size there in
    here some (omega (arith, length-append piece rest)) ∙ ap (λ (more : List ℕ). ends_behind 0 (at + length piece) more) (drop-append_seam piece rest)

-- one byte that begins no comment and no text
one_byte_size : (b : ℕ) (rest : List ℕ) → b ≢ 39 → begins_comment (b ∷ rest) ≡ false → part_size (b ∷ rest) ≡ 1
unfolding part_size
one_byte_size b rest no_quote no_comment =
    let quote : nat_eq b 39 ≡ false = ne_eqb b 39 no_quote in
    rw (no_comment, quote) refl

one_byte : (at b : ℕ) (rest : List ℕ) → b ≢ 39 → b ≢ 59 → begins_comment (b ∷ rest) ≡ false → ends_behind 0 at ((b ∷ []) ++ rest) ≡ ends_behind 0 (at + 1) rest
one_byte at b rest no_quote no_end no_comment = part_step at (b ∷ []) rest (omega arith) no_end (one_byte_size b rest no_quote no_comment)

-- how far a comment goes
one_line : (line rest : List ℕ) → All (λ b. b ≢ 10) line → prefix_len (λ b. not (b == 10)) (line ++ (10 ∷ rest)) ≡ length line
one_line [] rest h = refl
one_line (b ∷ line) rest h =
    let other : nat_eq b 10 ≡ false = ne_eqb b 10 (All-head (λ b. b ≢ 10) b line h) in
    let more : prefix_len (λ b. not (b == 10)) (line ++ (10 ∷ rest)) ≡ length line = one_line line rest (All-tail (λ b. b ≢ 10) b line h) in
    rw (other, more) (omega arith)

comment_size : (line rest : List ℕ) → All (λ b. b ≢ 10) line → part_size ((45 ∷ (45 ∷ line)) ++ (10 ∷ rest)) ≡ length (45 ∷ (45 ∷ line))
unfolding part_size
comment_size line rest h = rw (one_line line rest h) (omega arith)

past_comment : (at : ℕ) (line rest : List ℕ) → All (λ b. b ≢ 10) line → ends_behind 0 at (spelled (Part.Comment line) ++ rest) ≡ ends_behind 0 (at + length (spelled (Part.Comment line))) rest
past_comment at line rest h =
    let same : spelled (Part.Comment line) ++ rest ≡ (45 ∷ (45 ∷ line)) ++ (10 ∷ rest) = simp append_assoc in
    let first : ends_behind 0 at ((45 ∷ (45 ∷ line)) ++ (10 ∷ rest)) ≡ ends_behind 0 (at + length (45 ∷ (45 ∷ line))) (10 ∷ rest) = part_step at (45 ∷ (45 ∷ line)) (10 ∷ rest) (omega arith) (λ e. cc) (comment_size line rest h) in
    let last : ends_behind 0 (at + length (45 ∷ (45 ∷ line))) (10 ∷ rest) ≡ ends_behind 0 (at + length (45 ∷ (45 ∷ line)) + 1) rest = one_byte (at + length (45 ∷ (45 ∷ line))) 10 rest (λ e. cc) (λ e. cc) refl in
    let as_long : at + length (45 ∷ (45 ∷ line)) + 1 ≡ at + length (spelled (Part.Comment line)) = omega (arith, length-append line (10 ∷ [])) in
    ap (λ (x : List ℕ). ends_behind 0 at x) same ∙ (first ∙ (last ∙ ap (λ (n : ℕ). ends_behind 0 n rest) as_long))

-- one more byte of a text, a quote or another
closed_byte : (n b : ℕ) (body rest : List ℕ) → closing_quote (n + 1) (body ++ (39 ∷ rest)) ≡ Some (n + 1 + length body) → closing_quote (n + 2) (body ++ (39 ∷ rest)) ≡ Some (n + 2 + length body) → closing_quote n ((spelled_in_text b ++ body) ++ (39 ∷ rest)) ≡ Some (n + length (spelled_in_text b ++ body))
closed_byte n b body rest one two =
    let P : List ℕ → Type 0 = λ front. closing_quote n ((front ++ body) ++ (39 ∷ rest)) ≡ Some (n + length (front ++ body)) in
    let one_on : n + 1 + length body ≡ n + suc (length body) = omega arith in
    let two_on : n + 2 + length body ≡ n + suc (suc (length body)) = omega arith in
    elim (eqb_tells b 39) [
      | inl h ↦
          let twice : spelled_in_text b ≡ 39 ∷ (39 ∷ []) = rw (h.0) refl in
          let there : P (39 ∷ (39 ∷ [])) = past_twin n 39 39 (body ++ (39 ∷ rest)) refl refl ∙ (two ∙ ap (λ (m : ℕ). Some m) two_on) in
          subst P (sym twice) there
      | inr h ↦
          let once : spelled_in_text b ≡ b ∷ [] = rw (h.0) refl in
          let there : P (b ∷ []) = past_byte n b (body ++ (39 ∷ rest)) (h.1) ∙ (one ∙ ap (λ (m : ℕ). Some m) one_on) in
          subst P (sym once) there
    ]

-- the quote that ends a text
closed : (n : ℕ) (says rest : List ℕ) → slice_index rest 0 ≢ 39 → closing_quote n (flat_map spelled_in_text says ++ (39 ∷ rest)) ≡ Some (n + length (flat_map spelled_in_text says))
closed n [] [] other = let e : n + 0 ≡ n = omega arith in rw e refl
closed n [] (c ∷ rest) other = let e : n + 0 ≡ n = omega arith in let test : nat_eq c 39 ≡ false = ne_eqb c 39 other in rw (e, test) refl
closed n (b ∷ says) rest other = closed_byte n b (flat_map spelled_in_text says) rest (closed (n + 1) says rest other) (closed (n + 2) says rest other)

text_part_size : (says rest : List ℕ) → slice_index rest 0 ≢ 39 → part_size (spelled (Part.Text says) ++ rest) ≡ length (spelled (Part.Text says))
unfolding part_size
text_part_size says rest other =
    let close : closing_quote 0 (flat_map spelled_in_text says ++ (39 ∷ rest)) ≡ Some (length (flat_map spelled_in_text says)) =
    let e : 0 + length (flat_map spelled_in_text says) ≡ length (flat_map spelled_in_text says) = omega arith in
    closed 0 says rest other ∙ ap (λ (m : ℕ). Some m) e in
    rw (append_assoc, close) (omega (arith, length-append (flat_map spelled_in_text says) (39 ∷ [])))

past_text : (at : ℕ) (says rest : List ℕ) → slice_index rest 0 ≢ 39 → ends_behind 0 at (spelled (Part.Text says) ++ rest) ≡ ends_behind 0 (at + length (spelled (Part.Text says))) rest
past_text at says rest other = part_step at (spelled (Part.Text says)) rest (omega arith) (λ e. cc) (text_part_size says rest other)

-- a space is no quote, no dash and no `;`
space_is : (b : ℕ) → IsTrue (is_space b) → (b ≢ 39) × (b ≢ 59) × (b ≢ 45)
space_is b told =
    let P : ℕ → Type 0 = λ n. IsTrue (is_space n) in
    (λ e. (let bad : P 39 = subst P e told in cc), λ e. (let bad : P 59 = subst P e told in cc), λ e. (let bad : P 45 = subst P e told in cc))

-- a byte that is no dash begins no comment, nor does one that stands before another byte
no_comment_here : (b : ℕ) (rest : List ℕ) → (b ≡ 45 → slice_index rest 0 ≢ 45) → begins_comment (b ∷ rest) ≡ false
no_comment_here b rest apart =
    elim (eqb_tells b 45) [
      | inl h ↦ (let other : nat_eq (slice_index rest 0) 45 ≡ false = ne_eqb (slice_index rest 0) 45 (apart (h.1)) in rw (h.0, other) refl)
      | inr h ↦ rw (h.0) refl
    ]

-- past a part and past those behind it
join_parts : (at : ℕ) (piece more after : List ℕ) → ends_behind 0 at (piece ++ (more ++ after)) ≡ ends_behind 0 (at + length piece) (more ++ after) → ends_behind 0 (at + length piece) (more ++ after) ≡ ends_behind 0 (at + length piece + length more) after → ends_behind 0 at ((piece ++ more) ++ after) ≡ ends_behind 0 (at + length (piece ++ more)) after
join_parts at piece more after one two =
    let as_long : at + length piece + length more ≡ at + length (piece ++ more) = omega (arith, length-append piece more) in
    ap (λ (x : List ℕ). ends_behind 0 at x) (append_assoc piece more after) ∙ (one ∙ (two ∙ ap (λ (n : ℕ). ends_behind 0 n after) as_long))

-- past the parts of a text the ends go on
past_parts : (at : ℕ) (parts : List Part) (after : List ℕ) → AreParts parts → slice_index after 0 ≢ 39 → slice_index after 0 ≢ 45 → ends_behind 0 at (spelling parts ++ after) ≡ ends_behind 0 (at + length (spelling parts)) after
past_parts at [] after h no_quote no_dash = let e : at + 0 ≡ at = omega arith in rw e refl
past_parts at (Part.Space b ∷ more) after h no_quote no_dash =
    let is = space_is b (h.0) in
    join_parts at (b ∷ []) (spelling more) after
    (one_byte at b (spelling more ++ after) (is.0) (is.1) (no_comment_here b (spelling more ++ after) (λ e. absurd (is.2 e))))
    (past_parts (at + length (b ∷ [])) more after (h.1) no_quote no_dash)
past_parts at (Part.Comment line ∷ more) after h no_quote no_dash =
    join_parts at (spelled (Part.Comment line)) (spelling more) after
    (past_comment at line (spelling more ++ after) (h.0))
    (past_parts (at + length (spelled (Part.Comment line))) more after (h.1) no_quote no_dash)
past_parts at (Part.Text says ∷ more) after h no_quote no_dash =
    join_parts at (spelled (Part.Text says)) (spelling more) after
    (past_text at says (spelling more ++ after) (not_first 39 (spelling more) after (h.0) no_quote))
    (past_parts (at + length (spelled (Part.Text says))) more after (h.1) no_quote no_dash)
past_parts at (Part.Other b ∷ more) after h no_quote no_dash =
    join_parts at (b ∷ []) (spelling more) after
    (one_byte at b (spelling more ++ after) (h.1) (h.2) (no_comment_here b (spelling more ++ after) (λ e. not_first 45 (spelling more) after (h.3 e) no_dash)))
    (past_parts (at + length (b ∷ [])) more after (h.4) no_quote no_dash)

-- a choice of two pieces that are tokens is one
either_some : (test : Bool) (x y : Piece) → is_some x.kind ≡ true → is_some y.kind ≡ true → is_some (if test then x else y).kind ≡ true
either_some true x y one two = one
either_some false x y one two = two

number_some : (text : List ℕ) (size : ℕ) (n : Option ℕ) → is_some (number_of_size text size n).kind ≡ true
number_some text size None = refl
number_some text size (Some n) = refl

text_some : (text : List ℕ) (size : Option ℕ) → is_some (text_of_size text size).kind ≡ true
text_some text None = refl
text_some text (Some n) = either_some (is_utf8 (take n (drop 1 text))) _ _ refl refl

short_some : (text : List ℕ) (sign : Option Sign) → is_some (short_sign_piece text sign).kind ≡ true
short_some text None = refl
short_some text (Some sign) = refl

sign_some : (text : List ℕ) (sign : Option Sign) → is_some (sign_piece_of text sign).kind ≡ true
sign_some text None = short_some text (short_sign (slice_index text 0))
sign_some text (Some sign) = refl

command_some : (text : List ℕ) → is_some (command_piece text).kind ≡ true
command_some text =
    either_some (stands_at (codes "\\session") text) (record { kind = Some (TokenKind.Back Back.Session); size = 8 }) (if stands_at (codes "\\step") text then record { kind = Some (TokenKind.Back Back.Step); size = 5 } else bad_piece text) refl
    (either_some (stands_at (codes "\\step") text) (record { kind = Some (TokenKind.Back Back.Step); size = 5 }) (bad_piece text) refl refl)

-- what is no space and no comment is a token
piece_some : (text : List ℕ) → is_space (slice_index text 0) ≡ false → begins_comment text ≡ false → is_some (piece_of text).kind ≡ true
unfolding piece_of
piece_some text no_space no_comment =
    rw (no_space, no_comment)
    (either_some (begins_word (slice_index text 0)) _ _ refl
    (either_some (is_ascii_digit (slice_index text 0)) _ _ (number_some text _ _)
    (either_some (slice_index text 0 == 39) _ _ (text_some text _)
    (either_some (slice_index text 0 == 92) _ _ (command_some text)
    (sign_some text _)))))

-- past a space or a comment the tokens go on
gap_step : (at : ℕ) (piece rest : List ℕ) → 0 < length piece → piece_of (piece ++ rest) ≡ gap (length piece) → tokens_behind 0 at (piece ++ rest) ≡ tokens_behind 0 (at + length piece) rest
gap_step at piece rest some is_gap =
    let P : Piece → Type 0 = λ p. 0 < p.size → p.size ≤ length (piece ++ rest) → tokens_behind 0 at (piece ++ rest) ≡ placed p at ++ tokens_behind 0 (at + p.size) (drop p.size (piece ++ rest)) in
    let there : P (piece_of (piece ++ rest)) = λ s w. behind_piece at (piece ++ rest) s w in
    let here : P (gap (length piece)) = subst P is_gap there in
    here some (omega (arith, length-append piece rest)) ∙ ap (λ (more : List ℕ). tokens_behind 0 (at + length piece) more) (drop-append_seam piece rest)

space_gap : (b : ℕ) (rest : List ℕ) → IsTrue (is_space b) → piece_of (b ∷ rest) ≡ gap 1
unfolding piece_of
space_gap b rest told = rw told refl

comment_gap : (line rest : List ℕ) → All (λ b. b ≢ 10) line → piece_of ((45 ∷ (45 ∷ line)) ++ (10 ∷ rest)) ≡ gap (length (45 ∷ (45 ∷ line)))
unfolding piece_of
comment_gap line rest h = rw (one_line line rest h) (ap (λ (n : ℕ). gap n) (omega arith))

comment_gone : (at : ℕ) (line rest : List ℕ) → All (λ b. b ≢ 10) line → tokens_behind 0 at (spelled (Part.Comment line) ++ rest) ≡ tokens_behind 0 (at + length (45 ∷ (45 ∷ line)) + 1) rest
comment_gone at line rest h =
    let same : spelled (Part.Comment line) ++ rest ≡ (45 ∷ (45 ∷ line)) ++ (10 ∷ rest) = simp append_assoc in
    ap (λ (x : List ℕ). tokens_behind 0 at x) same
    ∙ (gap_step at (45 ∷ (45 ∷ line)) (10 ∷ rest) (omega arith) (comment_gap line rest h)
    ∙ gap_step (at + length (45 ∷ (45 ∷ line))) (10 ∷ []) rest (omega arith) (space_gap 10 rest refl))

-- a text with such a part has a token
parts_say : (at : ℕ) (parts : List Part) → AreParts parts → list_any is_of_token parts ≡ true → is_nonempty (tokens_behind 0 at (spelling parts)) ≡ true
parts_say at [] h says = cc
parts_say at (Part.Space b ∷ more) h says =
    ap (λ (tokens : List Token). is_nonempty tokens) (gap_step at (b ∷ []) (spelling more) (omega arith) (space_gap b (spelling more) (h.0)))
    ∙ parts_say (at + length (b ∷ [])) more (h.1) says
parts_say at (Part.Comment line ∷ more) h says =
    ap (λ (tokens : List Token). is_nonempty tokens) (comment_gone at line (spelling more) (h.0))
    ∙ parts_say (at + length (45 ∷ (45 ∷ line)) + 1) more (h.1) says
parts_say at (Part.Text t ∷ more) h says =
    nonempty_piece (piece_of (spelling (Part.Text t ∷ more))) at _ (piece_some (spelling (Part.Text t ∷ more)) refl refl)
parts_say at (Part.Other b ∷ more) h says =
    nonempty_piece (piece_of (spelling (Part.Other b ∷ more))) at _ (piece_some (spelling (Part.Other b ∷ more)) (h.0) (no_comment_here b (spelling more) (h.3)))

well_formed_says : (text : List ℕ) → IsWellFormed text → is_nonempty (tokens_of text) ≡ true
well_formed_says text h = ap (λ (x : List ℕ). is_nonempty (tokens_of x)) (sym h.spells) ∙ parts_say 0 h.parts h.are h.says

-- where a well-formed text ends that stands before a `;` or last
well_formed_ends : (at : ℕ) (text after : List ℕ) → IsWellFormed text → slice_index after 0 ≢ 39 → slice_index after 0 ≢ 45 → ends_behind 0 at (text ++ after) ≡ ends_behind 0 (at + length text) after
well_formed_ends at text after h no_quote no_dash =
    let P : List ℕ → Type 0 = λ x. ends_behind 0 at (x ++ after) ≡ ends_behind 0 (at + length x) after in
    subst P h.spells (past_parts at h.parts after h.are no_quote no_dash)

-- the bytes between two places
cut_middle : (front text after : List ℕ) → cut (front ++ (text ++ after)) (length front, length front + length text) ≡ text
cut_middle front text after =
    let size : length front + length text - length front ≡ length text = omega arith in
    rw (size, drop-append_seam front (text ++ after)) (take-append_seam text after)

-- one text more at the front
cut_one : (script front text after : List ℕ) (at : ℕ) (spans : List (ℕ × ℕ)) → script ≡ front ++ (text ++ after) → at ≡ length front → IsWellFormed text → map (cut script) (filter (has_token script) ((at, at + length text) ∷ spans)) ≡ text ∷ map (cut script) (filter (has_token script) spans)
cut_one script front text after at spans is_script is_at h =
    let is_text : cut script (at, at + length text) ≡ text = rw (is_script, is_at) (cut_middle front text after) in
    let says : has_token script (at, at + length text) ≡ true = ap (λ (x : List ℕ). is_nonempty (tokens_of x)) is_text ∙ well_formed_says text h in
    rw says (ap (λ (x : List ℕ). x ∷ map (cut script) (filter (has_token script) spans)) is_text)

-- the texts that the ends of a script from a place on cut out
abbrev texts_to : List ℕ → ℕ → List ℕ → List (List ℕ)
texts_to script at ends = map (cut script) (filter (has_token script) (spans_to at ends))

-- no text at the end
cut_none : (script : List ℕ) (at : ℕ) → texts_to script at (at ∷ []) ≡ []
cut_none script at = let e : at - at ≡ 0 = omega arith in rw e refl

-- the last text
cut_last : (script front text : List ℕ) (at : ℕ) → script ≡ front ++ text → at ≡ length front → IsWellFormed text → texts_to script at (ends_behind 0 at text) ≡ text ∷ []
cut_last script front text at is_script is_at well =
    let whole : text ++ [] ≡ text = append-nil text in
    let last : ends_behind 0 at text ≡ (at + length text) ∷ [] = ap (λ (x : List ℕ). ends_behind 0 at x) (sym whole) ∙ well_formed_ends at text [] well (λ e. cc) (λ e. cc) in
    let is_here : script ≡ front ++ (text ++ []) = is_script ∙ ap (λ (x : List ℕ). front ++ x) (sym whole) in
    ap (λ (ends : List ℕ). texts_to script at ends) last ∙ cut_one script front text [] at [] is_here is_at well

-- a text before others
cut_more : (script front text rest : List ℕ) (at : ℕ) (others : List (List ℕ)) → script ≡ front ++ (text ++ (59 ∷ rest)) → at ≡ length front → IsWellFormed text → texts_to script (at + length text + 1) (ends_behind 0 (at + length text + 1) rest) ≡ others → texts_to script at (ends_behind 0 at (text ++ (59 ∷ rest))) ≡ text ∷ others
cut_more script front text rest at others is_script is_at well behind =
    let first : ends_behind 0 at (text ++ (59 ∷ rest)) ≡ (at + length text) ∷ ends_behind 0 (at + length text + 1) rest = well_formed_ends at text (59 ∷ rest) well (λ e. cc) (λ e. cc) in
    ap (λ (ends : List ℕ). texts_to script at ends) first
    ∙ (cut_one script front text (59 ∷ rest) at (spans_to (at + length text + 1) (ends_behind 0 (at + length text + 1) rest)) is_script is_at well
    ∙ ap (λ (xs : List (List ℕ)). text ∷ xs) behind)

-- the place behind a text and its `;`
front_more : (script front text rest : List ℕ) → script ≡ front ++ (text ++ (59 ∷ rest)) → script ≡ ((front ++ text) ++ (59 ∷ [])) ++ rest
front_more script front text rest is_script = is_script ∙ simp append_assoc

place_more : (front text : List ℕ) (at : ℕ) → at ≡ length front → at + length text + 1 ≡ length ((front ++ text) ++ (59 ∷ []))
place_more front text at is_at = omega (arith, length-append (front ++ text) (59 ∷ []), length-append front text)

-- the texts of a script whose texts are joined from a place on
cut_back : (script front : List ℕ) (at : ℕ) (texts : List (List ℕ)) → script ≡ front ++ joined texts → at ≡ length front → All IsWellFormed texts → texts_to script at (ends_behind 0 at (joined texts)) ≡ texts
cut_back script front at [] is_script is_at h = cut_none script at
cut_back script front at (text ∷ []) is_script is_at h = cut_last script front text at is_script is_at (All-head IsWellFormed text [] h)
cut_back script front at (text ∷ (next ∷ more)) is_script is_at h =
    cut_more script front text (joined (next ∷ more)) at (next ∷ more) is_script is_at (All-head IsWellFormed text (next ∷ more) h)
    (cut_back script ((front ++ text) ++ (59 ∷ [])) (at + length text + 1) (next ∷ more) (front_more script front text (joined (next ∷ more)) is_script) (place_more front text at is_at) (All-tail IsWellFormed text (next ∷ more) h))

pub splits_back : SplitsBack
splits_back texts h = cut_back (joined texts) [] 0 texts refl refl h
