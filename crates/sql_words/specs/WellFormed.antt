-- Statement texts that are well-formed, put together of parts, and the law that a script of them splits into them.
use Rattle.std.specs.Prelude.{◌≡◌, ◌≢◌, ℕ, ◌==◌, if◌then◌else◌, Bool, true, false, List, [], ◌∷◌, ◌++◌, flat_map, slice_index, IsTrue, IsFalse, All}
use Rattle.std.specs.List.{list_any}
use Rattle.sql_words.specs.Bytes.{is_space}
use Rattle.sql_words.specs.Texts.{statement_texts}

-- a part of a statement text
pub data Part : Type 0 where
  -- tab, LF, CR or the space
  Space : ℕ → Part
  -- a comment, by what stands between its dashes and the LF that ends it
  Comment : List ℕ → Part
  -- a text, by what it says
  Text : List ℕ → Part
  -- any other byte
  Other : ℕ → Part

-- a byte of a text: a quote stands twice
abbrev pub spelled_in_text : ℕ → List ℕ
spelled_in_text b = if b == 39 then 39 ∷ 39 ∷ [] else b ∷ []

abbrev pub spelled : Part → List ℕ
spelled (Part.Space b) = b ∷ []
spelled (Part.Comment line) = 45 ∷ (45 ∷ (line ++ 10 ∷ []))
spelled (Part.Text says) = 39 ∷ (flat_map spelled_in_text says ++ 39 ∷ [])
spelled (Part.Other b) = b ∷ []

abbrev pub spelling : List Part → List ℕ
spelling parts = flat_map spelled parts

-- the parts are what they are called, also behind one another: a comment has one line, no `;` and no quote stands alone,
-- two dashes in a row begin a comment, and a quote right behind a text would be one of its own
abbrev pub AreParts : List Part → Type 0
AreParts [] = Unit {0}
AreParts (Part.Space b ∷ more) = IsTrue (is_space b) × AreParts more
AreParts (Part.Comment line ∷ more) = All (λ b. b ≢ 10) line × AreParts more
AreParts (Part.Text says ∷ more) = (slice_index (spelling more) 0 ≢ 39) × AreParts more
AreParts (Part.Other b ∷ more) = IsFalse (is_space b) × (b ≢ 39) × (b ≢ 59) × (b ≡ 45 → slice_index (spelling more) 0 ≢ 45) × AreParts more

-- a text or any other byte: what makes a text a statement text
abbrev pub is_of_token : Part → Bool
is_of_token (Part.Space b) = false
is_of_token (Part.Comment line) = false
is_of_token (Part.Text says) = true
is_of_token (Part.Other b) = true

-- the text is put together of parts, which are not only spaces and comments
pub record IsWellFormed (text : List ℕ) : Type 0 where
  pub parts : List Part
  pub are : AreParts parts
  pub spells : spelling parts ≡ text
  pub says : list_any is_of_token parts ≡ true

-- texts with `;` between them
abbrev pub joined : List (List ℕ) → List ℕ
joined [] = []
joined (text ∷ []) = text
joined (text ∷ (next ∷ more)) = text ++ (59 ∷ joined (next ∷ more))

-- a script that is put together of well-formed statement texts, with `;` between them, has exactly these statement texts
abbrev pub SplitsBack : Type 0
SplitsBack = (texts : List (List ℕ)) → All IsWellFormed texts → statement_texts (joined texts) ≡ texts
