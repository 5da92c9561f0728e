-- Scripts that are in no text and in no comment at their end, and what may stand behind them.
use Rattle.std.specs.Prelude.{◌≡◌, ◌≢◌, ◌⊎◌, ℕ, false, List, [], ◌∷◌, ◌++◌, filter, All}
use Rattle.std.specs.List.{list_any}
use Rattle.sql_words.specs.Texts.{is_nonempty, statement_texts}
use Rattle.sql_words.specs.Words.{tokens_of}
use Rattle.sql_words.specs.WellFormed.{Part, spelling, AreParts, is_of_token, joined}

-- a text that is put together of parts: no `;` stands in it but in a text or a comment, and it is in neither at its end
pub record IsWhole (text : List ℕ) : Type 0 where
  pub parts : List Part
  pub are : AreParts parts
  pub spells : spelling parts ≡ text

-- a script that is put together of such texts, with `;` between them: it is in no text and in no comment at its end
pub record IsClosed (script : List ℕ) : Type 0 where
  pub texts : List (List ℕ)
  pub whole : All IsWhole texts
  pub joins : joined texts ≡ script

-- nothing but spaces, and comments that end with their line
pub record IsBlank (text : List ℕ) : Type 0 where
  pub parts : List Part
  pub are : AreParts parts
  pub spells : spelling parts ≡ text
  pub none : list_any is_of_token parts ≡ false

-- a closed script has those of its texts as statement texts that have a token
abbrev pub TextsWithTokensStay : Type 0
TextsWithTokensStay = (texts : List (List ℕ)) → All IsWhole texts → statement_texts (joined texts) ≡ filter (λ text. is_nonempty (tokens_of text)) texts

-- a `;` behind a closed script ends its last statement: behind it stand the statement texts of the rest, whatever the rest is
abbrev pub EndsCut : Type 0
EndsCut = (script rest : List ℕ) → IsClosed script → statement_texts (script ++ (59 ∷ rest)) ≡ statement_texts script ++ statement_texts rest

-- a `;` behind the last statement changes nothing
abbrev pub LastEndIsFree : Type 0
LastEndIsFree = (script : List ℕ) → IsClosed script → statement_texts (script ++ (59 ∷ [])) ≡ statement_texts script

-- spaces and comments between two `;` are no statement
abbrev pub BlanksBetweenAreNone : Type 0
BlanksBetweenAreNone = (script blank rest : List ℕ) → IsClosed script → IsBlank blank → statement_texts (script ++ (59 ∷ (blank ++ (59 ∷ rest)))) ≡ statement_texts (script ++ (59 ∷ rest))

-- nor are they before the first `;`
abbrev pub BlanksBeforeAreNone : Type 0
BlanksBeforeAreNone = (blank rest : List ℕ) → IsBlank blank → statement_texts (blank ++ (59 ∷ rest)) ≡ statement_texts rest

-- nor behind the last
abbrev pub BlanksBehindAreNone : Type 0
BlanksBehindAreNone = (script blank : List ℕ) → IsClosed script → IsBlank blank → statement_texts (script ++ (59 ∷ blank)) ≡ statement_texts script

-- a comment that ends with the script, behind the last `;` and maybe spaces and other comments, is no statement
abbrev pub LastCommentIsNone : Type 0
LastCommentIsNone = (script blank line : List ℕ) → IsClosed script → IsBlank blank → All (λ b. b ≢ 10) line → statement_texts (script ++ (59 ∷ (blank ++ (45 ∷ (45 ∷ line))))) ≡ statement_texts script

-- every script is closed, or is so with one quote behind it, which ends a text, or with one LF, which ends a comment
abbrev pub EveryScriptCloses : Type 0
EveryScriptCloses = (script : List ℕ) → IsClosed script ⊎ (IsClosed (script ++ (39 ∷ [])) ⊎ IsClosed (script ++ (10 ∷ [])))
