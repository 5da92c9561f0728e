-- Past the parts of a text the ends of a script go on.
use Rattle.std.proofs.Common.{◌≡◌, ◌≢◌, ℕ, suc, ◌+◌, ◌≤◌, ◌<◌, ◌==◌, nat_eq, false, not, List, [], ◌∷◌, ◌++◌, flat_map, length, drop, slice_index, All, Some, inl, inr, IsTrue, IsFalse, arith, refl, ap, sym, ◌∙◌, subst, append_assoc, length-append}
use Rattle.std.specs.List.{list_any, prefix_len}
use Rattle.std.proofs.lemmas.Bool.{ne_eqb}
use Rattle.std.proofs.lemmas.Bool.Decides.{eqb_tells}
use Rattle.std.proofs.lemmas.List.Elements.{All-head, All-tail}
use Rattle.std.proofs.Math.Seq.{drop-append_seam}
use Rattle.sql_words.specs.Bytes.{is_space, begins_comment, closing_quote}
use Rattle.sql_words.specs.Texts.{part_size, ends_behind}
use Rattle.sql_words.specs.WellFormed.{Part, spelled_in_text, spelled, spelling, AreParts, is_of_token}
use Rattle.sql_words.proofs.Ends.{behind_part}
use Rattle.sql_words.proofs.Quotes.{past_byte, past_twin}

-- the parts are what they are called before these bytes, too
abbrev pub ArePartsBefore : List ℕ → List Part → Type 0
ArePartsBefore after [] = Unit {0}
ArePartsBefore after (Part.Space b ∷ more) = IsTrue (is_space b) × ArePartsBefore after more
ArePartsBefore after (Part.Comment line ∷ more) = All (λ b. b ≢ 10) line × ArePartsBefore after more
ArePartsBefore after (Part.Text says ∷ more) = (slice_index (spelling more ++ after) 0 ≢ 39) × ArePartsBefore after more
ArePartsBefore after (Part.Other b ∷ more) = IsFalse (is_space b) × (b ≢ 39) × (b ≢ 59) × (b ≡ 45 → slice_index (spelling more ++ after) 0 ≢ 45) × ArePartsBefore after more

-- the first byte of two lists is that of the one or the other
pub not_first : (d : ℕ) (xs ys : List ℕ) → slice_index xs 0 ≢ d → slice_index ys 0 ≢ d → slice_index (xs ++ ys) 0 ≢ d
not_first d [] ys one two = two
not_first d (x ∷ xs) ys one two = one

-- so they are before bytes that begin with no quote and no dash
pub parts_before : (after : List ℕ) (parts : List Part) → AreParts parts → slice_index after 0 ≢ 39 → slice_index after 0 ≢ 45 → ArePartsBefore after parts
parts_before after [] h no_quote no_dash = tt
parts_before after (Part.Space b ∷ more) h no_quote no_dash = (h.0, parts_before after more (h.1) no_quote no_dash)
parts_before after (Part.Comment line ∷ more) h no_quote no_dash = (h.0, parts_before after more (h.1) no_quote no_dash)
parts_before after (Part.Text says ∷ more) h no_quote no_dash = (not_first 39 (spelling more) after (h.0) no_quote, parts_before after more (h.1) no_quote no_dash)
parts_before after (Part.Other b ∷ more) h no_quote no_dash = (h.0, h.1, h.2, λ e. not_first 45 (spelling more) after (h.3 e) no_dash, parts_before after more (h.4) no_quote no_dash)

-- spaces and comments are before any bytes
pub blanks_before : (after : List ℕ) (parts : List Part) → AreParts parts → list_any is_of_token parts ≡ false → ArePartsBefore after parts
blanks_before after [] h none = tt
blanks_before after (Part.Space b ∷ more) h none = (h.0, blanks_before after more (h.1) none)
blanks_before after (Part.Comment line ∷ more) h none = (h.0, blanks_before after more (h.1) none)
blanks_before after (Part.Text says ∷ more) h none = cc
blanks_before after (Part.Other b ∷ more) h none = cc

-- a part whose size is known is passed over
part_step : (at : ℕ) (piece rest : List ℕ) → 0 < length piece → slice_index (piece ++ rest) 0 ≢ 59 → part_size (piece ++ rest) ≡ length piece → ends_behind 0 at (piece ++ rest) ≡ ends_behind 0 (at + length piece) rest
part_step at piece rest some other size =
    let P : ℕ → Type 0 = λ n. 0 < n → n ≤ length (piece ++ rest) → ends_behind 0 at (piece ++ rest) ≡ ends_behind 0 (at + n) (drop n (piece ++ rest)) in
    let there : P (part_size (piece ++ rest)) = λ s w. behind_part at (piece ++ rest) other s w in
    let here : P (length piece) = subst P size there in
    here some (omega (arith, length-append piece rest)) ∙ ap (λ (more : List ℕ). ends_behind 0 (at + length piece) more) (drop-append_seam piece rest)

one_byte_size : (b : ℕ) (rest : List ℕ) → b ≢ 39 → begins_comment (b ∷ rest) ≡ false → part_size (b ∷ rest) ≡ 1
unfolding part_size
one_byte_size b rest no_quote no_comment =
    let quote : nat_eq b 39 ≡ false = ne_eqb b 39 no_quote in
    rw (no_comment, quote) refl

one_byte : (at b : ℕ) (rest : List ℕ) → b ≢ 39 → b ≢ 59 → begins_comment (b ∷ rest) ≡ false → ends_behind 0 at ((b ∷ []) ++ rest) ≡ ends_behind 0 (at + 1) rest
one_byte at b rest no_quote no_end no_comment = part_step at (b ∷ []) rest (omega arith) no_end (one_byte_size b rest no_quote no_comment)

-- how far a comment goes
pub one_line : (line rest : List ℕ) → All (λ b. b ≢ 10) line → prefix_len (λ b. not (b == 10)) (line ++ (10 ∷ rest)) ≡ length line
one_line [] rest h = refl
one_line (b ∷ line) rest h =
    let other : nat_eq b 10 ≡ false = ne_eqb b 10 (All-head (λ b. b ≢ 10) b line h) in
    let more : prefix_len (λ b. not (b == 10)) (line ++ (10 ∷ rest)) ≡ length line = one_line line rest (All-tail (λ b. b ≢ 10) b line h) in
    rw (other, more) (omega arith)

-- and one that no LF ends
pub last_line : (line : List ℕ) → All (λ b. b ≢ 10) line → prefix_len (λ b. not (b == 10)) line ≡ length line
last_line [] h = refl
last_line (b ∷ line) h =
    let other : nat_eq b 10 ≡ false = ne_eqb b 10 (All-head (λ b. b ≢ 10) b line h) in
    let more : prefix_len (λ b. not (b == 10)) line ≡ length line = last_line line (All-tail (λ b. b ≢ 10) b line h) in
    rw (other, more) (omega arith)

comment_size : (line rest : List ℕ) → All (λ b. b ≢ 10) line → part_size ((45 ∷ (45 ∷ line)) ++ (10 ∷ rest)) ≡ length (45 ∷ (45 ∷ line))
unfolding part_size
comment_size line rest h = rw (one_line line rest h) (omega arith)

past_comment : (at : ℕ) (line rest : List ℕ) → All (λ b. b ≢ 10) line → ends_behind 0 at (spelled (Part.Comment line) ++ rest) ≡ ends_behind 0 (at + length (spelled (Part.Comment line))) rest
past_comment at line rest h =
    let same : spelled (Part.Comment line) ++ rest ≡ (45 ∷ (45 ∷ line)) ++ (10 ∷ rest) = simp append_assoc in
    let first : ends_behind 0 at ((45 ∷ (45 ∷ line)) ++ (10 ∷ rest)) ≡ ends_behind 0 (at + length (45 ∷ (45 ∷ line))) (10 ∷ rest) = part_step at (45 ∷ (45 ∷ line)) (10 ∷ rest) (omega arith) (λ e. cc) (comment_size line rest h) in
    let last : ends_behind 0 (at + length (45 ∷ (45 ∷ line))) (10 ∷ rest) ≡ ends_behind 0 (at + length (45 ∷ (45 ∷ line)) + 1) rest = one_byte (at + length (45 ∷ (45 ∷ line))) 10 rest (λ e. cc) (λ e. cc) refl in
    let as_long : at + length (45 ∷ (45 ∷ line)) + 1 ≡ at + length (spelled (Part.Comment line)) = omega (arith, length-append line (10 ∷ [])) in
    ap (λ (x : List ℕ). ends_behind 0 at x) same ∙ (first ∙ (last ∙ ap (λ (n : ℕ). ends_behind 0 n rest) as_long))

-- one more byte of a text, a quote or another
closed_byte : (n b : ℕ) (body rest : List ℕ) → closing_quote (n + 1) (body ++ (39 ∷ rest)) ≡ Some (n + 1 + length body) → closing_quote (n + 2) (body ++ (39 ∷ rest)) ≡ Some (n + 2 + length body) → closing_quote n ((spelled_in_text b ++ body) ++ (39 ∷ rest)) ≡ Some (n + length (spelled_in_text b ++ body))
closed_byte n b body rest one two =
    let P : List ℕ → Type 0 = λ front. closing_quote n ((front ++ body) ++ (39 ∷ rest)) ≡ Some (n + length (front ++ body)) in
    let one_on : n + 1 + length body ≡ n + suc (length body) = omega arith in
    let two_on : n + 2 + length body ≡ n + suc (suc (length body)) = omega arith in
    elim (eqb_tells b 39) [
      | inl h ↦
          let twice : spelled_in_text b ≡ 39 ∷ (39 ∷ []) = rw (h.0) refl in
          let there : P (39 ∷ (39 ∷ [])) = past_twin n 39 39 (body ++ (39 ∷ rest)) refl refl ∙ (two ∙ ap (λ (m : ℕ). Some m) two_on) in
          subst P (sym twice) there
      | inr h ↦
          let once : spelled_in_text b ≡ b ∷ [] = rw (h.0) refl in
          let there : P (b ∷ []) = past_byte n b (body ++ (39 ∷ rest)) (h.1) ∙ (one ∙ ap (λ (m : ℕ). Some m) one_on) in
          subst P (sym once) there
    ]

-- the quote that ends a text
pub closed : (n : ℕ) (says rest : List ℕ) → slice_index rest 0 ≢ 39 → closing_quote n (flat_map spelled_in_text says ++ (39 ∷ rest)) ≡ Some (n + length (flat_map spelled_in_text says))
closed n [] [] other = let e : n + 0 ≡ n = omega arith in rw e refl
closed n [] (c ∷ rest) other = let e : n + 0 ≡ n = omega arith in let test : nat_eq c 39 ≡ false = ne_eqb c 39 other in rw (e, test) refl
closed n (b ∷ says) rest other = closed_byte n b (flat_map spelled_in_text says) rest (closed (n + 1) says rest other) (closed (n + 2) says rest other)

pub closes : (says rest : List ℕ) → slice_index rest 0 ≢ 39 → closing_quote 0 (flat_map spelled_in_text says ++ (39 ∷ rest)) ≡ Some (length (flat_map spelled_in_text says))
closes says rest other =
    let e : 0 + length (flat_map spelled_in_text says) ≡ length (flat_map spelled_in_text says) = omega arith in
    closed 0 says rest other ∙ ap (λ (m : ℕ). Some m) e

text_part_size : (says rest : List ℕ) → slice_index rest 0 ≢ 39 → part_size (spelled (Part.Text says) ++ rest) ≡ length (spelled (Part.Text says))
unfolding part_size
text_part_size says rest other =
    rw (append_assoc, closes says rest other) (omega (arith, length-append (flat_map spelled_in_text says) (39 ∷ [])))

past_text : (at : ℕ) (says rest : List ℕ) → slice_index rest 0 ≢ 39 → ends_behind 0 at (spelled (Part.Text says) ++ rest) ≡ ends_behind 0 (at + length (spelled (Part.Text says))) rest
past_text at says rest other = part_step at (spelled (Part.Text says)) rest (omega arith) (λ e. cc) (text_part_size says rest other)

-- a space is no quote, no dash and no `;`
space_is : (b : ℕ) → IsTrue (is_space b) → (b ≢ 39) × (b ≢ 59) × (b ≢ 45)
space_is b told =
    let P : ℕ → Type 0 = λ n. IsTrue (is_space n) in
    (λ e. (let bad : P 39 = subst P e told in cc), λ e. (let bad : P 59 = subst P e told in cc), λ e. (let bad : P 45 = subst P e told in cc))

-- a byte that is no dash begins no comment, nor does one that stands before another byte
pub no_comment_here : (b : ℕ) (rest : List ℕ) → (b ≡ 45 → slice_index rest 0 ≢ 45) → begins_comment (b ∷ rest) ≡ false
no_comment_here b rest apart =
    elim (eqb_tells b 45) [
      | inl h ↦ (let other : nat_eq (slice_index rest 0) 45 ≡ false = ne_eqb (slice_index rest 0) 45 (apart (h.1)) in rw (h.0, other) refl)
      | inr h ↦ rw (h.0) refl
    ]

-- past a part and past those behind it
join_parts : (at : ℕ) (piece more after : List ℕ) → ends_behind 0 at (piece ++ (more ++ after)) ≡ ends_behind 0 (at + length piece) (more ++ after) → ends_behind 0 (at + length piece) (more ++ after) ≡ ends_behind 0 (at + length piece + length more) after → ends_behind 0 at ((piece ++ more) ++ after) ≡ ends_behind 0 (at + length (piece ++ more)) after
join_parts at piece more after one two =
    let as_long : at + length piece + length more ≡ at + length (piece ++ more) = omega (arith, length-append piece more) in
    ap (λ (x : List ℕ). ends_behind 0 at x) (append_assoc piece more after) ∙ (one ∙ (two ∙ ap (λ (n : ℕ). ends_behind 0 n after) as_long))

-- past the parts of a text the ends go on
pub past_parts : (at : ℕ) (after : List ℕ) (parts : List Part) → ArePartsBefore after parts → ends_behind 0 at (spelling parts ++ after) ≡ ends_behind 0 (at + length (spelling parts)) after
past_parts at after [] h = let e : at + 0 ≡ at = omega arith in rw e refl
past_parts at after (Part.Space b ∷ more) h =
    let is = space_is b (h.0) in
    join_parts at (b ∷ []) (spelling more) after
    (one_byte at b (spelling more ++ after) (is.0) (is.1) (no_comment_here b (spelling more ++ after) (λ e. absurd (is.2 e))))
    (past_parts (at + length (b ∷ [])) after more (h.1))
past_parts at after (Part.Comment line ∷ more) h =
    join_parts at (spelled (Part.Comment line)) (spelling more) after
    (past_comment at line (spelling more ++ after) (h.0))
    (past_parts (at + length (spelled (Part.Comment line))) after more (h.1))
past_parts at after (Part.Text says ∷ more) h =
    join_parts at (spelled (Part.Text says)) (spelling more) after
    (past_text at says (spelling more ++ after) (h.0))
    (past_parts (at + length (spelled (Part.Text says))) after more (h.1))
past_parts at after (Part.Other b ∷ more) h =
    join_parts at (b ∷ []) (spelling more) after
    (one_byte at b (spelling more ++ after) (h.1) (h.2) (no_comment_here b (spelling more ++ after) (h.3)))
    (past_parts (at + length (b ∷ [])) after more (h.4))
