-- What a text says is UTF-8 where its bytes are.
use Rattle.std.proofs.Common.{◌≡◌, ◌≢◌, ℕ, suc, ◌+◌, ◌-◌, ◌<◌, ◌==◌, nat_eq, Bool, true, false, List, [], ◌∷◌, ◌++◌, length, get_or, drop, take, inl, inr, refl, sym, ap, ◌∙◌, subst, arith, append-nil, All, Option, Some, None, slice_index, codes, if◌then◌else◌}
use Rattle.std.specs.Str.{IsUtf8, is_utf8}
use Rattle.std.proofs.lemmas.Bool.{and_parts, cases_eq, ne_eqb}
use Rattle.std.proofs.lemmas.Str.{IsUtf8-append, IsUtf8-nil, IsUtf8-encode, encode_ascii, inside_one, IsUtf8-from_is_utf8, length-encode, len_utf8_bounds}
use Rattle.std.proofs.Math.Utf8.{scalars, encode, encodes}
use Rattle.std.proofs.lemmas.List.{drop-drop}
use Rattle.std.proofs.lemmas.List.Elements.{All-cons, All-nil, All-append}
use Rattle.std.specs.Char.{is_ascii_digit}
use Rattle.sql_words.specs.declared.token.Back.{Back}
use Rattle.sql_words.specs.declared.token.Sign.{Sign}
use Rattle.sql_words.specs.declared.token.Token.{Token}
use Rattle.sql_words.specs.declared.token.TokenKind.{TokenKind}
use Rattle.sql_words.specs.declared.piece.Piece.{Piece}
use Rattle.sql_words.specs.Bytes.{is_space, begins_word, stands_at, begins_comment, unquoted, unquoted_behind}
use Rattle.sql_words.specs.Symbols.{IsUtf8Text, SaysUtf8}
use Rattle.sql_words.specs.Texts.{cut}
use Rattle.sql_words.specs.Words.{bad_piece, command_piece, number_of_size, text_of_size, short_sign, short_sign_piece, sign_piece_of, piece_of, placed}

-- a byte that is no quote is said
one_said : (twin : Bool) (b : ℕ) (rest : List ℕ) → b ≢ 39 → unquoted_behind twin (b ∷ rest) ≡ b ∷ unquoted_behind false rest
one_said true b rest other = let test : nat_eq b 39 ≡ false = ne_eqb b 39 other in rw test refl
one_said false b rest other = let test : nat_eq b 39 ≡ false = ne_eqb b 39 other in rw test refl

-- bytes that are no quotes are said
all_said : (bytes rest : List ℕ) → ((k : ℕ) → k < length bytes → get_or bytes k 0 ≢ 39) → unquoted_behind false (bytes ++ rest) ≡ bytes ++ unquoted_behind false rest
all_said [] rest other = refl
all_said (b ∷ bytes) rest other =
    one_said false b (bytes ++ rest) (other 0 (omega arith)) ∙ ap (λ (x : List ℕ). b ∷ x) (all_said bytes rest (λ k below. other (suc k) (omega arith)))

char_said : (twin : Bool) (bytes rest : List ℕ) → 0 < length bytes → ((k : ℕ) → k < length bytes → get_or bytes k 0 ≢ 39) → unquoted_behind twin (bytes ++ rest) ≡ bytes ++ unquoted_behind false rest
char_said twin [] rest some other = absurd (omega arith)
char_said twin (b ∷ bytes) rest some other =
    one_said twin b (bytes ++ rest) (other 0 (omega arith)) ∙ ap (λ (x : List ℕ). b ∷ x) (all_said bytes rest (λ k below. other (suc k) (omega arith)))

-- no byte of another character is a quote
no_quote_in : (c : ℕ) → c ≢ 39 → (k : ℕ) → k < length (encode c) → get_or (encode c) k 0 ≢ 39
no_quote_in c other k below quote = other (inside_one c [] (encode c) k (sym (append-nil (encode c))) below (omega arith) ∙ quote)

encode_some : (c : ℕ) → 0 < length (encode c)
encode_some c = omega (arith, length-encode c, (len_utf8_bounds c).0)

quote_said : (twin : Bool) (rest : List ℕ) → ((t : Bool) → IsUtf8 (unquoted_behind t rest)) → IsUtf8 (unquoted_behind twin (39 ∷ rest))
quote_said true rest more = more false
quote_said false rest more = IsUtf8-append (39 ∷ []) (unquoted_behind true rest) (subst IsUtf8 (encode_ascii 39 (omega arith)) (IsUtf8-encode 39 refl)) (more true)

chars_said : (cs : List ℕ) → scalars cs ≡ true → (twin : Bool) → IsUtf8 (unquoted_behind twin (encodes cs))
chars_said [] e twin = IsUtf8-nil
chars_said (c ∷ cs) e twin =
    let p = and_parts _ _ e in
    let P : List ℕ → Type 0 = λ x. IsUtf8 (unquoted_behind twin (x ++ encodes cs)) in
    elim (cases_eq c 39) [
      | inl same ↦
          let is_quote : encode c ≡ 39 ∷ [] = ap encode same ∙ encode_ascii 39 (omega arith) in
          subst P (sym is_quote) (quote_said twin (encodes cs) (chars_said cs (p.1)))
      | inr other ↦
          subst IsUtf8 (sym (char_said twin (encode c) (encodes cs) (encode_some c) (no_quote_in c other)))
          (IsUtf8-append (encode c) (unquoted_behind false (encodes cs)) (IsUtf8-encode c (p.0)) (chars_said cs (p.1) false))
    ]

-- so what a text says is UTF-8
pub says_utf8 : (inner : List ℕ) → IsUtf8 inner → IsUtf8 (unquoted inner)
says_utf8 inner h = let P : List ℕ → Type 0 = λ x. IsUtf8 (unquoted x) in subst P (h.1.1) (chars_said (h.0) (h.1.0) false)

-- of a piece of a text: what it says is UTF-8, where it is a text
abbrev KindSays : Option TokenKind → List ℕ → Type 0
KindSays None says = Unit {0}
KindSays (Some kind) says = IsUtf8Text kind says

abbrev PieceSays : List ℕ → Piece → Type 0
PieceSays front piece = KindSays piece.kind (unquoted (take (piece.size - 2) (drop 1 front)))

either_says : (front : List ℕ) (test : Bool) (x y : Piece) → PieceSays front x → PieceSays front y → PieceSays front (if test then x else y)
either_says front true x y one two = one
either_says front false x y one two = two

number_says : (front : List ℕ) (size : ℕ) (n : Option ℕ) → PieceSays front (number_of_size front size n)
number_says front size None = tt
number_says front size (Some n) = tt

text_test_says : (front : List ℕ) (n : ℕ) (test : Bool) → is_utf8 (take n (drop 1 front)) ≡ test → PieceSays front (if test then record { kind = Some TokenKind.Text; size = n + 2 } else bad_piece front)
text_test_says front n true told =
    let e : n + 2 - 2 ≡ n = omega arith in
    rw e (says_utf8 (take n (drop 1 front)) (IsUtf8-from_is_utf8 (take n (drop 1 front)) told))
text_test_says front n false told = tt

text_says : (front : List ℕ) (size : Option ℕ) → PieceSays front (text_of_size front size)
text_says front None = tt
text_says front (Some n) = text_test_says front n (is_utf8 (take n (drop 1 front))) refl

short_says : (front : List ℕ) (sign : Option Sign) → PieceSays front (short_sign_piece front sign)
short_says front None = tt
short_says front (Some sign) = tt

sign_says : (front : List ℕ) (sign : Option Sign) → PieceSays front (sign_piece_of front sign)
sign_says front None = short_says front (short_sign (slice_index front 0))
sign_says front (Some sign) = tt

command_says : (front : List ℕ) → PieceSays front (command_piece front)
command_says front =
    either_says front (stands_at (codes "\\session") front) (record { kind = Some (TokenKind.Back Back.Session); size = 8 }) (if stands_at (codes "\\step") front then record { kind = Some (TokenKind.Back Back.Step); size = 5 } else bad_piece front) tt
    (either_says front (stands_at (codes "\\step") front) (record { kind = Some (TokenKind.Back Back.Step); size = 5 }) (bad_piece front) tt tt)

piece_says : (front : List ℕ) → PieceSays front (piece_of front)
unfolding piece_of
piece_says front =
    either_says front (is_space (slice_index front 0)) _ _ tt
    (either_says front (begins_comment front) _ _ tt
    (either_says front (begins_word (slice_index front 0)) _ _ tt
    (either_says front (is_ascii_digit (slice_index front 0)) _ _ (number_says front _ _)
    (either_says front (slice_index front 0 == 39) _ _ (text_says front _)
    (either_says front (slice_index front 0 == 92) _ _ (command_says front)
    (sign_says front _))))))

-- the piece as a token of the text
placed_says : (text : List ℕ) (at : ℕ) (kind : Option TokenKind) (size : ℕ) → PieceSays (drop at text) (record { kind = kind; size = size }) → All (SaysUtf8 text) (placed (record { kind = kind; size = size }) at)
placed_says text at None size h = All-nil (SaysUtf8 text)
placed_says text at (Some kind) size h =
    let place : at + size - 1 - (at + 1) ≡ size - 2 = omega arith in
    let same : cut text (at + 1, at + size - 1) ≡ take (size - 2) (drop 1 (drop at text)) = rw (place, drop-drop 1 at text) refl in
    let P : List ℕ → Type 0 = λ x. IsUtf8Text kind (unquoted x) in
    All-cons (SaysUtf8 text) (record { kind = kind; start = at; end = at + size }) [] (subst P (sym same) h) (All-nil (SaysUtf8 text))

-- one turn of the lexer
pub says_on : (text front : List ℕ) (at : ℕ) (piece : Piece) (found new : List Token) → front ≡ drop at text → piece ≡ piece_of front → new ≡ found ++ placed piece at → All (SaysUtf8 text) found → All (SaysUtf8 text) new
says_on text front at piece found new is_front is_piece is_new h =
    let same : piece ≡ piece_of (drop at text) = is_piece ∙ ap piece_of is_front in
    let P : Piece → Type 0 = λ p. PieceSays (drop at text) p in
    let here : PieceSays (drop at text) piece = subst P (sym same) (piece_says (drop at text)) in
    let Q : List Token → Type 0 = λ tokens. All (SaysUtf8 text) tokens in
    subst Q (sym is_new) (All-append (SaysUtf8 text) found (placed piece at) h (placed_says text at piece.kind piece.size here))
