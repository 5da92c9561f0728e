-- What stands at the front of a text that goes on with a quote: it ends with a part of the text, or it is Bad and takes all.
use Rattle.std.proofs.Common.{◌≡◌, ◌≢◌, ◌⊎◌, ℕ, zero, suc, ◌+◌, ◌≤◌, ◌<◌, ◌==◌, ◌&&◌, ◌||◌, nat_eq, not, Bool, true, false, if◌then◌else◌, List, [], ◌∷◌, ◌++◌, flat_map, length, take, drop, slice_index, codes, Option, Some, None, inl, inr, arith, refl, ap, sym, ◌∙◌, subst, append_assoc, length-append}
use Rattle.std.specs.List.{list_all, prefix_len}
use Rattle.std.specs.Char.{is_ascii_digit}
use Rattle.std.specs.Int.{is_in_range}
use Rattle.std.specs.Str.{is_utf8}
use Rattle.std.proofs.lemmas.Bool.{and_parts, ne_eqb}
use Rattle.std.proofs.lemmas.Bool.Decides.{eqb_tells}
use Rattle.std.proofs.lemmas.List.Sums.{prefix_len-le-length}
use Rattle.std.proofs.lemmas.Slice.Eq.{bytes_eq-Decides}
use Rattle.std.proofs.Math.Seq.{drop-append_seam}
use Rattle.sql_words.specs.declared.token.Sign.{Sign}
use Rattle.sql_words.specs.declared.token.Back.{Back}
use Rattle.sql_words.specs.declared.token.TokenKind.{TokenKind}
use Rattle.sql_words.specs.declared.piece.Piece.{Piece}
use Rattle.sql_words.specs.Bytes.{is_space, begins_word, is_of_word, begins_comment, closing_quote, stands_at}
use Rattle.sql_words.specs.Words.{gap, bad_piece, number_of_size, text_of_size, command_piece, long_sign, short_sign, short_sign_piece, sign_piece_of, sign_piece, piece_of}
use Rattle.sql_words.specs.WellFormed.{Part, spelled_in_text, spelled, spelling}
use Rattle.word_laws.proofs.Parts.{ArePartsBefore, closes, no_comment_here}
use Rattle.word_laws.proofs.Blanks.{space_gap, comment_gap}

-- the bytes from a place on are parts again, and what stands behind them
abbrev pub Lands : List ℕ → List ℕ → ℕ → Type 0
Lands after text size = (parts : List Part) × ArePartsBefore after parts × (drop size text ≡ spelling parts ++ after)

-- a piece at the front
abbrev pub GoesOn : List ℕ → List ℕ → Piece → Type 0
GoesOn after text piece = (0 < piece.size) × (piece.size ≤ length text) × (((piece.kind ≡ Some TokenKind.Bad) × (piece.size ≡ length text)) ⊎ Lands after text piece.size)

bad_goes : (after text : List ℕ) → 0 < length text → GoesOn after text (bad_piece text)
bad_goes after text some = (some, omega arith, inl (refl, refl))

either_goes : (after text : List ℕ) (test : Bool) (x y : Piece) → (test ≡ true → GoesOn after text x) → (test ≡ false → GoesOn after text y) → GoesOn after text (if test then x else y)
either_goes after text true x y one two = one refl
either_goes after text false x y one two = two refl

-- the first byte passes the test, where one does at all
first_passes : (p : ℕ → Bool) (b k : ℕ) (rest : List ℕ) (test : Bool) → p b ≡ test → suc k ≤ prefix_len p (b ∷ rest) → (test ≡ true) × (k ≤ prefix_len p rest)
first_passes p b k rest true told within =
    let size : prefix_len p (b ∷ rest) ≡ 1 + prefix_len p rest = rw told refl in
    (refl, omega (arith, size))
first_passes p b k rest false told within =
    let size : prefix_len p (b ∷ rest) ≡ 0 = rw told refl in
    absurd (omega (arith, size, within))

none_pass : (p : ℕ → Bool) (b k : ℕ) (rest : List ℕ) → p b ≡ false → suc k ≤ prefix_len p (b ∷ rest) → ⊥
none_pass p b k rest told within =
    let size : prefix_len p (b ∷ rest) ≡ 0 = rw told refl in
    omega (arith, size, within)

-- bytes that pass a test, which a quote and a dash don't, are parts of their own
pub front_lands : (p : ℕ → Bool) → p 39 ≡ false → p 45 ≡ false → (k : ℕ) (rest : List ℕ) (parts : List Part) → ArePartsBefore (39 ∷ rest) parts → k ≤ prefix_len p (spelling parts ++ (39 ∷ rest)) → Lands (39 ∷ rest) (spelling parts ++ (39 ∷ rest)) k
front_lands p quote dash zero rest parts are within = (parts, are, refl)
front_lands p quote dash (suc k) rest [] are within = absurd (none_pass p 39 k rest quote within)
front_lands p quote dash (suc k) rest (Part.Space b ∷ more) are within =
    front_lands p quote dash k rest more (are.1) (first_passes p b k (spelling more ++ (39 ∷ rest)) (p b) refl within).1
front_lands p quote dash (suc k) rest (Part.Comment line ∷ more) are within = absurd (none_pass p 45 k (((45 ∷ (line ++ (10 ∷ []))) ++ spelling more) ++ (39 ∷ rest)) dash within)
front_lands p quote dash (suc k) rest (Part.Text says ∷ more) are within = absurd (none_pass p 39 k (((flat_map spelled_in_text says ++ (39 ∷ [])) ++ spelling more) ++ (39 ∷ rest)) quote within)
front_lands p quote dash (suc k) rest (Part.Other b ∷ more) are within =
    front_lands p quote dash k rest more (are.4) (first_passes p b k (spelling more ++ (39 ∷ rest)) (p b) refl within).1

some_pass : (p : ℕ → Bool) (b : ℕ) (rest : List ℕ) → p b ≡ true → 0 < prefix_len p (b ∷ rest)
some_pass p b rest told = let size : prefix_len p (b ∷ rest) ≡ 1 + prefix_len p rest = rw told refl in omega (arith, size)

-- so do those of a word that stands at the front
word_passes : (p : ℕ → Bool) (word text : List ℕ) → take (length word) text ≡ word → list_all p word ≡ true → length word ≤ prefix_len p text
word_passes p [] text there all = omega arith
word_passes p (w ∷ word) [] there all = cc
word_passes p (w ∷ word) (b ∷ text) there all =
    let parts = and_parts (p w) (list_all p word) all in
    let head : b ≡ w = ap (λ (xs : List ℕ). slice_index xs 0) there in
    let tail : take (length word) text ≡ word = ap (λ (xs : List ℕ). drop 1 xs) there in
    let more : length word ≤ prefix_len p text = word_passes p word text tail (parts.1) in
    let told : p b ≡ true = ap p head ∙ parts.0 in
    let size : prefix_len p (b ∷ text) ≡ 1 + prefix_len p text = rw told refl in
    omega (arith, size, more)

-- a word, a number and a command
is_word : (digit upper lower line : Bool) → ((upper || lower) || line) ≡ true → (((digit || upper) || lower) || line) ≡ true
is_word true upper lower line told = refl
is_word false upper lower line told = told

begins_is : (b : ℕ) → begins_word b ≡ true → is_of_word b ≡ true
begins_is b told = is_word (is_in_range 48 57 b) (is_in_range 65 90 b) (is_in_range 97 122 b) (b == 95) told

run_goes : (p : ℕ → Bool) → p 39 ≡ false → p 45 ≡ false → (kind : Option TokenKind) (b : ℕ) (rest : List ℕ) (more : List Part) → ArePartsBefore (39 ∷ rest) (Part.Other b ∷ more) → p b ≡ true → GoesOn (39 ∷ rest) (b ∷ (spelling more ++ (39 ∷ rest))) (record { kind = kind; size = prefix_len p (b ∷ (spelling more ++ (39 ∷ rest))) })
run_goes p quote dash kind b rest more are told =
    let text = b ∷ (spelling more ++ (39 ∷ rest)) in
    (some_pass p b (spelling more ++ (39 ∷ rest)) told, prefix_len-le-length p text, inr (front_lands p quote dash (prefix_len p text) rest (Part.Other b ∷ more) are (omega arith)))

number_goes : (after text : List ℕ) (size : ℕ) (n : Option ℕ) → 0 < length text → GoesOn after text (record { kind = Some TokenKind.Int; size = size }) → GoesOn after text (number_of_size text size n)
number_goes after text size None some h = bad_goes after text some
number_goes after text size (Some n) some h = h

-- a byte that is neither a quote nor a dash
abbrev is_plain : ℕ → Bool
is_plain b = not (b == 39) && not (b == 45)

at_front_goes : (kind : Option TokenKind) (word : List ℕ) (rest : List ℕ) (parts : List Part) → ArePartsBefore (39 ∷ rest) parts → 0 < length word → list_all is_plain word ≡ true → take (length word) (spelling parts ++ (39 ∷ rest)) ≡ word → GoesOn (39 ∷ rest) (spelling parts ++ (39 ∷ rest)) (record { kind = kind; size = length word })
at_front_goes kind word rest parts are some plain there =
    let text = spelling parts ++ (39 ∷ rest) in
    let pass : length word ≤ prefix_len is_plain text = word_passes is_plain word text there plain in
    (some, omega (arith, pass, prefix_len-le-length is_plain text), inr (front_lands is_plain refl refl (length word) rest parts are pass))

stands : (word text : List ℕ) → stands_at word text ≡ true → take (length word) text ≡ word
stands word text told = (bytes_eq-Decides (take (length word) text) word).0 told

command_goes : (rest : List ℕ) (parts : List Part) → ArePartsBefore (39 ∷ rest) parts → GoesOn (39 ∷ rest) (spelling parts ++ (39 ∷ rest)) (command_piece (spelling parts ++ (39 ∷ rest)))
command_goes rest parts are =
    let text = spelling parts ++ (39 ∷ rest) in
    let some : 0 < length text = omega (arith, length-append (spelling parts) (39 ∷ rest)) in
    either_goes (39 ∷ rest) text (stands_at (codes "\\session") text) (record { kind = Some (TokenKind.Back Back.Session); size = 8 }) (if stands_at (codes "\\step") text then record { kind = Some (TokenKind.Back Back.Step); size = 5 } else bad_piece text)
    (λ e. at_front_goes (Some (TokenKind.Back Back.Session)) (codes "\\session") rest parts are (omega arith) refl (stands (codes "\\session") text e))
    (λ no. either_goes (39 ∷ rest) text (stands_at (codes "\\step") text) (record { kind = Some (TokenKind.Back Back.Step); size = 5 }) (bad_piece text)
    (λ e. at_front_goes (Some (TokenKind.Back Back.Step)) (codes "\\step") rest parts are (omega arith) refl (stands (codes "\\step") text e))
    (λ none. bad_goes (39 ∷ rest) text some))

-- a sign of two bytes has none of a text or a comment
pair_none : (a c x y : ℕ) → (is_plain x && is_plain y) ≡ true → (is_plain a && is_plain c) ≡ false → ((a == x) && (c == y)) ≡ false
pair_none a c x y both none =
    elim (eqb_tells a x) [
      | inl h ↦ elim (eqb_tells c y) [
        | inl k ↦
            let same : (is_plain a && is_plain c) ≡ (is_plain x && is_plain y) = ap (λ (n : ℕ). is_plain n && is_plain c) (h.1) ∙ ap (λ (n : ℕ). is_plain x && is_plain n) (k.1) in
            let bad : true ≡ false = sym both ∙ (sym same ∙ none) in
            cc
        | inr k ↦ rw (h.0, k.0) refl
      ]
      | inr h ↦ rw (h.0) refl
    ]

long_none : (a c : ℕ) → (is_plain a && is_plain c) ≡ false → long_sign a c ≡ None
long_none a c none = rw (pair_none a c 60 62 refl none, pair_none a c 33 61 refl none, pair_none a c 60 61 refl none, pair_none a c 62 61 refl none) refl

one_goes : (kind : Option TokenKind) (b : ℕ) (rest : List ℕ) (more : List Part) → ArePartsBefore (39 ∷ rest) more → GoesOn (39 ∷ rest) (b ∷ (spelling more ++ (39 ∷ rest))) (record { kind = kind; size = 1 })
one_goes kind b rest more are = (omega arith, omega arith, inr (more, are, refl))

short_goes : (b : ℕ) (rest : List ℕ) (more : List Part) (sign : Option Sign) → ArePartsBefore (39 ∷ rest) more → GoesOn (39 ∷ rest) (b ∷ (spelling more ++ (39 ∷ rest))) (short_sign_piece (b ∷ (spelling more ++ (39 ∷ rest))) sign)
short_goes b rest more None are = bad_goes (39 ∷ rest) (b ∷ (spelling more ++ (39 ∷ rest))) (omega arith)
short_goes b rest more (Some sign) are = one_goes (Some (TokenKind.Sign sign)) b rest more are

sign_goes_of : (b : ℕ) (rest : List ℕ) (more : List Part) (sign : Option Sign) → ArePartsBefore (39 ∷ rest) more → (sign ≡ None ⊎ Lands (39 ∷ rest) (spelling more ++ (39 ∷ rest)) 1) → GoesOn (39 ∷ rest) (b ∷ (spelling more ++ (39 ∷ rest))) (sign_piece_of (b ∷ (spelling more ++ (39 ∷ rest))) sign)
sign_goes_of b rest more None are two = short_goes b rest more (short_sign b) are
sign_goes_of b rest more (Some sign) are (inl none) = cc
sign_goes_of b rest more (Some sign) are (inr lands) = (omega arith, omega (arith, length-append (spelling more) (39 ∷ rest)), inr lands)

first_plain : (c : ℕ) (rest : List ℕ) → is_plain c ≡ true → 1 ≤ prefix_len is_plain (c ∷ rest)
first_plain c rest told = let some : 0 < prefix_len is_plain (c ∷ rest) = some_pass is_plain c rest told in omega (arith, some)

text_plain : (text : List ℕ) → 0 < length text → is_plain (slice_index text 0) ≡ true → 1 ≤ prefix_len is_plain text
text_plain [] some told = absurd (omega arith)
text_plain (c ∷ text) some told = first_plain c text told

second : (b : ℕ) (text : List ℕ) → slice_index (b ∷ text) 1 ≡ slice_index text 0
second b [] = refl
second b (c ∷ text) = refl

two_told : (b : ℕ) (rest : List ℕ) (more : List Part) (test : Bool) → ArePartsBefore (39 ∷ rest) more → (is_plain b && is_plain (slice_index (spelling more ++ (39 ∷ rest)) 0)) ≡ test → (long_sign b (slice_index (spelling more ++ (39 ∷ rest)) 0) ≡ None) ⊎ Lands (39 ∷ rest) (spelling more ++ (39 ∷ rest)) 1
two_told b rest more false are told = inl (long_none b (slice_index (spelling more ++ (39 ∷ rest)) 0) told)
two_told b rest more true are told =
    let text = spelling more ++ (39 ∷ rest) in
    let plain : is_plain (slice_index text 0) ≡ true = (and_parts (is_plain b) (is_plain (slice_index text 0)) told).1 in
    inr (front_lands is_plain refl refl 1 rest more are (text_plain text (omega (arith, length-append (spelling more) (39 ∷ rest))) plain))

sign_goes : (b : ℕ) (rest : List ℕ) (more : List Part) → ArePartsBefore (39 ∷ rest) more → GoesOn (39 ∷ rest) (b ∷ (spelling more ++ (39 ∷ rest))) (sign_piece (b ∷ (spelling more ++ (39 ∷ rest))))
sign_goes b rest more are =
    let text = spelling more ++ (39 ∷ rest) in
    let P : ℕ → Type 0 = λ c. GoesOn (39 ∷ rest) (b ∷ text) (sign_piece_of (b ∷ text) (long_sign b c)) in
    let there : P (slice_index text 0) = sign_goes_of b rest more (long_sign b (slice_index text 0)) are (two_told b rest more (is_plain b && is_plain (slice_index text 0)) are refl) in
    subst P (sym (second b text)) there

-- a byte that is no space and begins no text and no comment
not_quote : (b : ℕ) → b ≢ 39 → (b == 39) ≡ true → ⊥
not_quote b other told = let no : nat_eq b 39 ≡ false = ne_eqb b 39 other in cc

other_goes : (b : ℕ) (rest : List ℕ) (more : List Part) → ArePartsBefore (39 ∷ rest) (Part.Other b ∷ more) → GoesOn (39 ∷ rest) (b ∷ (spelling more ++ (39 ∷ rest))) (piece_of (b ∷ (spelling more ++ (39 ∷ rest))))
unfolding piece_of
other_goes b rest more are =
    let after = 39 ∷ rest in
    let text = b ∷ (spelling more ++ after) in
    let no_space : is_space b ≡ false = are.0 in
    let no_comment : begins_comment text ≡ false = no_comment_here b (spelling more ++ after) (are.3) in
    rw (no_space, no_comment)
    (either_goes after text (begins_word b) _ _ (λ e. run_goes is_of_word refl refl _ b rest more are (begins_is b e))
    (λ no_word. either_goes after text (is_ascii_digit b) _ _ (λ e. number_goes after text _ _ (omega arith) (run_goes is_ascii_digit refl refl (Some TokenKind.Int) b rest more are e))
    (λ no_digit. either_goes after text (b == 39) _ _ (λ e. absurd (not_quote b (are.1) e))
    (λ no_quote. either_goes after text (b == 92) _ _ (λ e. command_goes rest (Part.Other b ∷ more) are)
    (λ no_command. sign_goes b rest more (are.4))))))

-- a space, a comment and a text
space_goes : (b : ℕ) (rest : List ℕ) (more : List Part) → ArePartsBefore (39 ∷ rest) (Part.Space b ∷ more) → GoesOn (39 ∷ rest) (b ∷ (spelling more ++ (39 ∷ rest))) (piece_of (b ∷ (spelling more ++ (39 ∷ rest))))
space_goes b rest more are =
    subst (λ p. GoesOn (39 ∷ rest) (b ∷ (spelling more ++ (39 ∷ rest))) p) (sym (space_gap b (spelling more ++ (39 ∷ rest)) (are.0))) (one_goes None b rest more (are.1))

seam_goes : (after front behind : List ℕ) (kind : Option TokenKind) (parts : List Part) → ArePartsBefore after parts → 0 < length front → behind ≡ spelling parts ++ after → GoesOn after (front ++ behind) (record { kind = kind; size = length front })
seam_goes after front behind kind parts are some is_behind =
    (some, omega (arith, length-append front behind), inr (parts, are, drop-append_seam front behind ∙ is_behind))

comment_goes : (line rest : List ℕ) (more : List Part) → ArePartsBefore (39 ∷ rest) (Part.Comment line ∷ more) → GoesOn (39 ∷ rest) (spelling (Part.Comment line ∷ more) ++ (39 ∷ rest)) (piece_of (spelling (Part.Comment line ∷ more) ++ (39 ∷ rest)))
comment_goes line rest more are =
    let after = 39 ∷ rest in
    let behind = 10 ∷ (spelling more ++ after) in
    let front = 45 ∷ (45 ∷ line) in
    let same : front ++ behind ≡ spelling (Part.Comment line ∷ more) ++ after = simp append_assoc in
    let P : List ℕ → Type 0 = λ text. GoesOn after text (piece_of text) in
    let Q : Piece → Type 0 = λ p. GoesOn after (front ++ behind) p in
    let there : Q (gap (length front)) = seam_goes after front behind None (Part.Space 10 ∷ more) (refl, are.1) (omega arith) refl in
    let here : P (front ++ behind) = subst Q (sym (comment_gap line (spelling more ++ after) (are.0))) there in
    subst P same here

-- a text, which has to be UTF-8
text_piece_is : (says behind : List ℕ) → slice_index behind 0 ≢ 39 → piece_of (39 ∷ (flat_map spelled_in_text says ++ (39 ∷ behind))) ≡ text_of_size (39 ∷ (flat_map spelled_in_text says ++ (39 ∷ behind))) (Some (length (flat_map spelled_in_text says)))
unfolding piece_of
text_piece_is says behind other = rw (closes says behind other) refl

text_goes : (says rest : List ℕ) (more : List Part) → ArePartsBefore (39 ∷ rest) (Part.Text says ∷ more) → GoesOn (39 ∷ rest) (spelling (Part.Text says ∷ more) ++ (39 ∷ rest)) (piece_of (spelling (Part.Text says ∷ more) ++ (39 ∷ rest)))
text_goes says rest more are =
    let after = 39 ∷ rest in
    let quoted = flat_map spelled_in_text says in
    let behind = spelling more ++ after in
    let text = 39 ∷ (quoted ++ (39 ∷ behind)) in
    let front = spelled (Part.Text says) in
    let same : text ≡ spelling (Part.Text says ∷ more) ++ after = simp append_assoc in
    let apart : front ++ behind ≡ text = simp append_assoc in
    let size : length front ≡ length quoted + 2 = omega (arith, length-append quoted (39 ∷ [])) in
    let P : List ℕ → Type 0 = λ x. GoesOn after x (piece_of x) in
    let Q : Piece → Type 0 = λ p. GoesOn after text p in
    let R : List ℕ → Type 0 = λ x. GoesOn after x (record { kind = Some TokenKind.Text; size = length front }) in
    let S : ℕ → Type 0 = λ n. GoesOn after text (record { kind = Some TokenKind.Text; size = n }) in
    let good : S (length quoted + 2) = subst S size (subst R apart (seam_goes after front behind (Some TokenKind.Text) more (are.1) (omega (arith, size)) refl)) in
    let there : Q (text_of_size text (Some (length quoted))) = either_goes after text (is_utf8 (take (length quoted) (drop 1 text))) _ _ (λ e. good) (λ e. bad_goes after text (omega arith)) in
    let here : P text = subst Q (sym (text_piece_is says behind (are.0))) there in
    subst P same here

-- the quote that is closed nowhere
open_piece : (rest : List ℕ) → closing_quote 0 rest ≡ None → piece_of (39 ∷ rest) ≡ bad_piece (39 ∷ rest)
unfolding piece_of
open_piece rest none = rw none refl

pub goes : (rest : List ℕ) (parts : List Part) → ArePartsBefore (39 ∷ rest) parts → closing_quote 0 rest ≡ None → GoesOn (39 ∷ rest) (spelling parts ++ (39 ∷ rest)) (piece_of (spelling parts ++ (39 ∷ rest)))
goes rest [] are none = subst (λ p. GoesOn (39 ∷ rest) (39 ∷ rest) p) (sym (open_piece rest none)) (bad_goes (39 ∷ rest) (39 ∷ rest) (omega arith))
goes rest (Part.Space b ∷ more) are none = space_goes b rest more are
goes rest (Part.Comment line ∷ more) are none = comment_goes line rest more are
goes rest (Part.Text says ∷ more) are none = text_goes says rest more are
goes rest (Part.Other b ∷ more) are none = other_goes b rest more are
