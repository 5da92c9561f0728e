-- Kinds of bytes, and the runs that a text is made of.
use Rattle.std.specs.Prelude.{ℕ, min, ◌+◌, ◌-◌, ◌*◌, ◌==◌, ◌&&◌, ◌||◌, not, if◌then◌else◌, Bool, false, List, [], ◌∷◌, Option, Some, None, length, slice_index, fold, bytes_eq, take}
use Rattle.std.specs.List.{prefix_len}
use Rattle.std.specs.Char.{is_ascii_alphabetic, is_ascii_alphanumeric, to_ascii_lowercase}

-- tab, LF, CR and the space
abbrev pub is_space : ℕ → Bool
is_space b = ((b == 32) || (b == 10)) || ((b == 9) || (b == 13))

-- a letter or `_`: what begins a word
abbrev pub begins_word : ℕ → Bool
begins_word b = is_ascii_alphabetic b || (b == 95)

-- a letter, a digit or `_`: what a word goes on with
abbrev pub is_of_word : ℕ → Bool
is_of_word b = is_ascii_alphanumeric b || (b == 95)

-- two dashes stand at the front
abbrev pub begins_comment : List ℕ → Bool
begins_comment text = (slice_index text 0 == 45) && (slice_index text 1 == 45)

-- how many bytes stand before the first LF, or all where there is none
abbrev pub line_size : List ℕ → ℕ
line_size text = prefix_len (λ b. not (b == 10)) text

-- the place of the quote that ends a text, whose bytes behind its first quote stand here from a place on; None where no quote ends it.
-- Two quotes in a row are a quote of the text, and don't end it.
abbrev pub closing_quote : ℕ → List ℕ → Option ℕ
closing_quote at [] = None
closing_quote at (b ∷ []) = if b == 39 then Some at else None
closing_quote at (b ∷ (c ∷ rest)) = if b == 39 then (if c == 39 then closing_quote (at + 2) rest else Some at) else closing_quote (at + 1) (c ∷ rest)

-- behind the first quote of a text: how many bytes stand before the quote that ends it
abbrev pub inner_size : List ℕ → Option ℕ
inner_size inner = closing_quote 0 inner

-- what a text says: of two quotes in a row the second is left out (`twin`: a quote was just read that is the first of two)
abbrev pub unquoted_behind : Bool → List ℕ → List ℕ
unquoted_behind twin [] = []
unquoted_behind twin (b ∷ rest) = if twin && (b == 39) then unquoted_behind false rest else b ∷ unquoted_behind (b == 39) rest

-- what a text between its two quotes says, `''` read as one quote
abbrev pub unquoted : List ℕ → List ℕ
unquoted inner = unquoted_behind false inner

-- the place in the alphabet of a word's first letter; 0 for what is before `a`, and 26 for what is behind `z`
abbrev pub letter_of : List ℕ → ℕ
letter_of word = min (to_ascii_lowercase (slice_index word 0) - 97) 26

-- the number that digits spell
abbrev pub value_of : List ℕ → ℕ
value_of digits = fold (λ n d. 10 * n + (d - 48)) 0 digits

-- these letters stand at the front
abbrev pub stands_at : List ℕ → List ℕ → Bool
stands_at word text = bytes_eq (take (length word) text) word
