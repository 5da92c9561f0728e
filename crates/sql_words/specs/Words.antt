-- The tokens of a text.
use Rattle.std.specs.Prelude.{ℕ, zero, suc, pred, ◌+◌, ◌^◌, ◌<◌, ◌≤◌, ◌==◌, ◌&&◌, if◌then◌else◌, nat_lt, List, [], ◌∷◌, ◌++◌, length, take, drop, slice_index, Option, Some, None, option_map, option_to_list, find, codes}
use Rattle.std.specs.List.{prefix_len}
use Rattle.std.specs.Char.{is_ascii_digit}
use Rattle.std.specs.Str.{is_utf8, str_eq_ignore_ascii_case}
use Rattle.sql_words.specs.declared.token.Key.{Key}
use Rattle.sql_words.specs.declared.token.Sign.{Sign}
use Rattle.sql_words.specs.declared.token.Back.{Back}
use Rattle.sql_words.specs.declared.token.Token.{Token}
use Rattle.sql_words.specs.declared.token.TokenKind.{TokenKind}
use Rattle.sql_words.specs.declared.piece.Piece.{Piece}
use Rattle.sql_words.specs.Reserved.{reserved_words}
use Rattle.sql_words.specs.Bytes.{is_space, begins_word, is_of_word, begins_comment, line_size, inner_size, value_of, stands_at}

-- the keyword of a table's first entry that the word is, without regard to ASCII case
unfoldable pub key_in : List (List ℕ × Key) → List ℕ → Option Key
key_in table word = option_map (λ e. e.1) (find (λ e. str_eq_ignore_ascii_case e.0 word) table)

-- the keyword of the reserved word that a word is; None where it is a name
unfoldable pub key_of : List ℕ → Option Key
key_of word = key_in reserved_words word

-- what begins no token: it goes on to the end
abbrev pub bad_piece : List ℕ → Piece
bad_piece text = record { kind = Some TokenKind.Bad; size = length text }

-- a word, as long as possible
abbrev pub word_piece : List ℕ → Piece
word_piece text = let size = prefix_len is_of_word text in record { kind = Some (TokenKind.Word (key_of (take size text))); size = size }

-- the number that digits spell, where it is at most 2^127 - 1
unfoldable pub number_of : List ℕ → Option ℕ
number_of digits = if nat_lt (value_of digits) (2 ^ 127) then Some (value_of digits) else None

abbrev pub number_of_size : List ℕ → ℕ → Option ℕ → Piece
number_of_size text size None = bad_piece text
number_of_size text size (Some n) = record { kind = Some TokenKind.Int; size = size }

-- a number, as long as possible
abbrev pub number_piece : List ℕ → Piece
number_piece text = let size = prefix_len is_ascii_digit text in number_of_size text size (number_of (take size text))

-- the text between the first quote and the one that ends it, where its bytes are UTF-8
abbrev pub text_of_size : List ℕ → Option ℕ → Piece
text_of_size text None = bad_piece text
text_of_size text (Some n) = if is_utf8 (take n (drop 1 text)) then record { kind = Some TokenKind.Text; size = n + 2 } else bad_piece text

abbrev pub text_piece : List ℕ → Piece
text_piece text = text_of_size text (inner_size (drop 1 text))

-- a command, in lower case
abbrev pub command_piece : List ℕ → Piece
command_piece text =
    if stands_at (codes "\\session") text then record { kind = Some (TokenKind.Back Back.Session); size = 8 }
    else (if stands_at (codes "\\step") text then record { kind = Some (TokenKind.Back Back.Step); size = 5 } else bad_piece text)

-- the sign that two bytes spell
abbrev pub long_sign : ℕ → ℕ → Option Sign
long_sign a b =
    if (a == 60) && (b == 62) then Some Sign.NotEqual
    else (if (a == 33) && (b == 61) then Some Sign.NotEqual
    else (if (a == 60) && (b == 61) then Some Sign.AtMost
    else (if (a == 62) && (b == 61) then Some Sign.AtLeast else None)))

-- the sign that one byte spells
abbrev pub short_sign : ℕ → Option Sign
short_sign a =
    if a == 40 then Some Sign.Open
    else (if a == 41 then Some Sign.Close
    else (if a == 44 then Some Sign.Comma
    else (if a == 46 then Some Sign.Dot
    else (if a == 42 then Some Sign.Star
    else (if a == 43 then Some Sign.Plus
    else (if a == 45 then Some Sign.Minus
    else (if a == 61 then Some Sign.Equal
    else (if a == 60 then Some Sign.Less
    else (if a == 62 then Some Sign.Greater else None)))))))))

-- a sign of one byte, where there is one
abbrev pub short_sign_piece : List ℕ → Option Sign → Piece
short_sign_piece text None = bad_piece text
short_sign_piece text (Some sign) = record { kind = Some (TokenKind.Sign sign); size = 1 }

-- the longest sign that fits
abbrev pub sign_piece_of : List ℕ → Option Sign → Piece
sign_piece_of text None = short_sign_piece text (short_sign (slice_index text 0))
sign_piece_of text (Some sign) = record { kind = Some (TokenKind.Sign sign); size = 2 }

abbrev pub sign_piece : List ℕ → Piece
sign_piece text = sign_piece_of text (long_sign (slice_index text 0) (slice_index text 1))

-- a space or a comment
abbrev pub gap : ℕ → Piece
gap size = record { kind = None; size = size }

-- what stands at the front of a text that isn't empty
unfoldable pub piece_of : List ℕ → Piece
piece_of text =
    let b = slice_index text 0 in
    if is_space b then gap 1
    else (if begins_comment text then gap (line_size text)
    else (if begins_word b then word_piece text
    else (if is_ascii_digit b then number_piece text
    else (if b == 39 then text_piece text
    else (if b == 92 then command_piece text else sign_piece text)))))

-- a piece that stands at a place of a text, as a token; a space or a comment is none
abbrev pub placed : Piece → ℕ → List Token
placed piece at = option_to_list (option_map (λ k. record { kind = k; start = at; end = at + piece.size }) piece.kind)

-- the tokens of the bytes that stand at a place of a text, behind those that a piece before them takes
abbrev pub tokens_behind : ℕ → ℕ → List ℕ → List Token
tokens_behind skip at [] = []
tokens_behind zero at (b ∷ rest) = placed (piece_of (b ∷ rest)) at ++ tokens_behind (pred (piece_of (b ∷ rest)).size) (at + 1) rest
tokens_behind (suc skip) at (b ∷ rest) = tokens_behind skip (at + 1) rest

-- the tokens of a text, in order, each with its place
abbrev pub tokens_of : List ℕ → List Token
tokens_of text = tokens_behind 0 0 text

-- the token has a byte, and ends within the first n
abbrev pub IsWithin : ℕ → Token → Type 0
IsWithin n token = (token.start < token.end) × (token.end ≤ n)

-- tokens stand one behind the other between two places: each has a byte, and ends before the next begins
abbrev pub AreInOrder : ℕ → ℕ → List Token → Type 0
AreInOrder from to [] = from ≤ to
AreInOrder from to (token ∷ more) = (from ≤ token.start) × (token.start < token.end) × AreInOrder token.end to more
