-- A token of a text says something, unless it is Bad: the digits that a number is cut out of spell one that is small enough.
use Rattle.std.proofs.Common.{◌≡◌, ℕ, ◌+◌, ◌-◌, ◌==◌, Bool, true, false, List, [], ◌++◌, drop, take, refl, sym, ap, ◌∙◌, subst, arith, All, Option, Some, None, slice_index, codes, if◌then◌else◌}
use Rattle.std.specs.Char.{is_ascii_digit}
use Rattle.std.specs.List.{prefix_len}
use Rattle.std.specs.Str.{is_utf8}
use Rattle.std.proofs.lemmas.List.Elements.{All-cons, All-nil, All-append}
use Rattle.sql_words.specs.declared.token.Back.{Back}
use Rattle.sql_words.specs.declared.token.Key.{Key}
use Rattle.sql_words.specs.declared.token.Sign.{Sign}
use Rattle.sql_words.specs.declared.token.Token.{Token}
use Rattle.sql_words.specs.declared.token.TokenKind.{TokenKind}
use Rattle.sql_words.specs.declared.piece.Piece.{Piece}
use Rattle.sql_words.specs.Bytes.{is_space, begins_word, stands_at, begins_comment}
use Rattle.sql_words.specs.Symbols.{Symbol, symbol_of_kind, number_symbol, SaysSomething}
use Rattle.sql_words.specs.Texts.{cut}
use Rattle.sql_words.specs.Words.{bad_piece, number_of, command_piece, number_of_size, text_of_size, short_sign, short_sign_piece, sign_piece_of, piece_of, placed}

-- a kind with the number that its span spells
abbrev Counts : TokenKind → Option ℕ → Type 0
Counts (TokenKind.Word key) n = Unit {0}
Counts TokenKind.Int None = ⊥
Counts TokenKind.Int (Some n) = Unit {0}
Counts TokenKind.Text n = Unit {0}
Counts (TokenKind.Sign sign) n = Unit {0}
Counts (TokenKind.Back back) n = Unit {0}
Counts TokenKind.Bad n = Unit {0}

abbrev KindCounts : Option TokenKind → Option ℕ → Type 0
KindCounts None n = Unit {0}
KindCounts (Some kind) n = Counts kind n

abbrev PieceCounts : List ℕ → Piece → Type 0
PieceCounts front piece = KindCounts piece.kind (number_of (take piece.size front))

either_counts : (front : List ℕ) (test : Bool) (x y : Piece) → PieceCounts front x → PieceCounts front y → PieceCounts front (if test then x else y)
either_counts front true x y one two = one
either_counts front false x y one two = two

number_counts : (front : List ℕ) (size : ℕ) (n : Option ℕ) → number_of (take size front) ≡ n → PieceCounts front (number_of_size front size n)
number_counts front size None told = tt
number_counts front size (Some n) told = rw told tt

text_counts : (front : List ℕ) (size : Option ℕ) → PieceCounts front (text_of_size front size)
text_counts front None = tt
text_counts front (Some n) = either_counts front (is_utf8 (take n (drop 1 front))) (record { kind = Some TokenKind.Text; size = n + 2 }) (bad_piece front) tt tt

short_counts : (front : List ℕ) (sign : Option Sign) → PieceCounts front (short_sign_piece front sign)
short_counts front None = tt
short_counts front (Some sign) = tt

sign_counts : (front : List ℕ) (sign : Option Sign) → PieceCounts front (sign_piece_of front sign)
sign_counts front None = short_counts front (short_sign (slice_index front 0))
sign_counts front (Some sign) = tt

command_counts : (front : List ℕ) → PieceCounts front (command_piece front)
command_counts front =
    either_counts front (stands_at (codes "\\session") front) (record { kind = Some (TokenKind.Back Back.Session); size = 8 }) (if stands_at (codes "\\step") front then record { kind = Some (TokenKind.Back Back.Step); size = 5 } else bad_piece front) tt
    (either_counts front (stands_at (codes "\\step") front) (record { kind = Some (TokenKind.Back Back.Step); size = 5 }) (bad_piece front) tt tt)

piece_counts : (front : List ℕ) → PieceCounts front (piece_of front)
unfolding piece_of
piece_counts front =
    either_counts front (is_space (slice_index front 0)) _ _ tt
    (either_counts front (begins_comment front) _ _ tt
    (either_counts front (begins_word (slice_index front 0)) _ _ tt
    (either_counts front (is_ascii_digit (slice_index front 0)) _ _ (number_counts front (prefix_len is_ascii_digit front) _ refl)
    (either_counts front (slice_index front 0 == 39) _ _ (text_counts front _)
    (either_counts front (slice_index front 0 == 92) _ _ (command_counts front)
    (sign_counts front _))))))

-- a token that counts says something
number_said : (n : Option ℕ) → Counts TokenKind.Int n → number_symbol n ≡ Symbol.Unknown → TokenKind.Int ≡ TokenKind.Bad
number_said None h e = absurd h
number_said (Some n) h e = cc

word_said : (text : List ℕ) (span : ℕ × ℕ) (key : Option Key) → symbol_of_kind text span (TokenKind.Word key) ≡ Symbol.Unknown → TokenKind.Word key ≡ TokenKind.Bad
word_said text span None e = cc
word_said text span (Some key) e = cc

kind_said : (text : List ℕ) (span : ℕ × ℕ) (kind : TokenKind) → Counts kind (number_of (cut text span)) → symbol_of_kind text span kind ≡ Symbol.Unknown → kind ≡ TokenKind.Bad
kind_said text span (TokenKind.Word key) h e = word_said text span key e
kind_said text span TokenKind.Int h e = number_said (number_of (cut text span)) h e
kind_said text span TokenKind.Text h e = cc
kind_said text span (TokenKind.Sign sign) h e = cc
kind_said text span (TokenKind.Back back) h e = cc
kind_said text span TokenKind.Bad h e = refl

-- the piece as a token of the text
placed_counts : (text : List ℕ) (at : ℕ) (kind : Option TokenKind) (size : ℕ) → PieceCounts (drop at text) (record { kind = kind; size = size }) → All (SaysSomething text) (placed (record { kind = kind; size = size }) at)
placed_counts text at None size h = All-nil (SaysSomething text)
placed_counts text at (Some kind) size h =
    let place : at + size - at ≡ size = omega arith in
    let P : ℕ → Type 0 = λ n. Counts kind (number_of (take n (drop at text))) in
    let there : Counts kind (number_of (cut text (at, at + size))) = subst P (sym place) h in
    All-cons (SaysSomething text) (record { kind = kind; start = at; end = at + size }) [] (kind_said text (at, at + size) kind there) (All-nil (SaysSomething text))

-- one turn of the lexer
pub counts_on : (text front : List ℕ) (at : ℕ) (piece : Piece) (found new : List Token) → front ≡ drop at text → piece ≡ piece_of front → new ≡ found ++ placed piece at → All (SaysSomething text) found → All (SaysSomething text) new
counts_on text front at piece found new is_front is_piece is_new h =
    let same : piece ≡ piece_of (drop at text) = is_piece ∙ ap piece_of is_front in
    let P : Piece → Type 0 = λ p. PieceCounts (drop at text) p in
    let here : PieceCounts (drop at text) piece = subst P (sym same) (piece_counts (drop at text)) in
    let Q : List Token → Type 0 = λ tokens. All (SaysSomething text) tokens in
    subst Q (sym is_new) (All-append (SaysSomething text) found (placed piece at) h (placed_counts text at piece.kind piece.size here))
