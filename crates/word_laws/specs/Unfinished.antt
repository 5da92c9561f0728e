-- Texts with a quote that is closed nowhere.
use Rattle.std.specs.Prelude.{◌≡◌, ℕ, Bool, true, false, List, [], ◌∷◌, ◌++◌, length, None}
use Rattle.sql_words.specs.declared.token.Token.{Token}
use Rattle.sql_words.specs.declared.token.TokenKind.{TokenKind}
use Rattle.sql_words.specs.Bytes.{inner_size}
use Rattle.sql_words.specs.Symbols.{Symbol, symbols_of}
use Rattle.sql_words.specs.Texts.{statement_texts}
use Rattle.sql_words.specs.Words.{tokens_of}
use Rattle.sql_words.specs.WellFormed.{Part, spelling, AreParts}
use Rattle.word_laws.specs.Scripts.{IsClosed}

-- a text between quotes
abbrev pub is_text : Part → Bool
is_text (Part.Space b) = false
is_text (Part.Comment line) = false
is_text (Part.Text says) = true
is_text (Part.Other b) = false

-- the last part is one
abbrev pub ends_in_text : List Part → Bool
ends_in_text [] = false
ends_in_text (part ∷ []) = is_text part
ends_in_text (part ∷ (next ∷ more)) = ends_in_text (next ∷ more)

-- a text that is put together of parts, the last of which isn't a text between quotes: a quote behind it begins one
pub record IsOpen (text : List ℕ) : Type 0 where
  pub parts : List Part
  pub are : AreParts parts
  pub spells : spelling parts ≡ text
  pub last : ends_in_text parts ≡ false

-- of bytes that stand behind the quote that begins a text: no quote ends it
abbrev pub IsUnfinished : List ℕ → Type 0
IsUnfinished inner = inner_size inner ≡ None

-- the last token is Bad, and ends at this place
abbrev pub EndsBad : ℕ → List Token → Type 0
EndsBad end tokens = (before : List Token) × (last : Token) × (tokens ≡ before ++ (last ∷ [])) × (last.kind ≡ TokenKind.Bad) × (last.end ≡ end)

-- a quote that isn't closed takes the rest of the script, with all its `;`: there is one statement text from there on
abbrev pub UnfinishedIsOne : Type 0
UnfinishedIsOne = (text inner : List ℕ) → IsOpen text → IsUnfinished inner → statement_texts (text ++ (39 ∷ inner)) ≡ (text ++ (39 ∷ inner)) ∷ []

-- also behind other statements
abbrev pub UnfinishedIsLast : Type 0
UnfinishedIsLast = (script text inner : List ℕ) → IsClosed script → IsOpen text → IsUnfinished inner → statement_texts (script ++ (59 ∷ (text ++ (39 ∷ inner)))) ≡ statement_texts script ++ ((text ++ (39 ∷ inner)) ∷ [])

-- its last token is Bad and goes on to its end
abbrev pub UnfinishedIsBad : Type 0
UnfinishedIsBad = (text inner : List ℕ) → IsOpen text → IsUnfinished inner → EndsBad (length (text ++ (39 ∷ inner))) (tokens_of (text ++ (39 ∷ inner)))

-- so the last that it says is no token, and it spells no statement
abbrev pub UnfinishedSaysNothing : Type 0
UnfinishedSaysNothing = (text inner : List ℕ) → IsOpen text → IsUnfinished inner → (before : List Symbol) × (symbols_of (text ++ (39 ∷ inner)) ≡ before ++ (Symbol.Unknown ∷ []))
