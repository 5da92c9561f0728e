-- How a text is written between quotes.
use Rattle.std.specs.Prelude.{◌≡◌, ℕ, List, [], ◌∷◌, ◌++◌, flat_map, length}
use Rattle.std.specs.Str.{IsUtf8}
use Rattle.sql_words.specs.declared.token.TokenKind.{TokenKind}
use Rattle.sql_words.specs.Bytes.{unquoted}
use Rattle.sql_words.specs.Symbols.{Symbol, symbols_of}
use Rattle.sql_words.specs.Words.{tokens_of}
use Rattle.sql_words.specs.WellFormed.{spelled_in_text}

-- bytes as they stand between the quotes of a text: each quote twice, each other byte once
abbrev pub quoted : List ℕ → List ℕ
quoted says = flat_map spelled_in_text says

-- with the quotes
abbrev pub in_quotes : List ℕ → List ℕ
in_quotes says = 39 ∷ (quoted says ++ (39 ∷ []))

-- what is written between quotes is read back, whatever bytes it is
abbrev pub QuotedReadsBack : Type 0
QuotedReadsBack = (says : List ℕ) → unquoted (quoted says) ≡ says

-- a text between quotes is one token, where it is UTF-8
abbrev pub QuotedIsOneToken : Type 0
QuotedIsOneToken = (says : List ℕ) → IsUtf8 says → tokens_of (in_quotes says) ≡ record { kind = TokenKind.Text; start = 0; end = length (in_quotes says) } ∷ []

-- and that token says the text
abbrev pub QuotedSaysIt : Type 0
QuotedSaysIt = (says : List ℕ) → IsUtf8 says → symbols_of (in_quotes says) ≡ Symbol.Text says ∷ []

-- bytes that aren't UTF-8 are no text, also between quotes: they are one Bad token
abbrev pub OtherBytesAreBad : Type 0
OtherBytesAreBad = (says : List ℕ) → (IsUtf8 says → ⊥) → tokens_of (in_quotes says) ≡ record { kind = TokenKind.Bad; start = 0; end = length (in_quotes says) } ∷ []
