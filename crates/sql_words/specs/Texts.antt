-- The statement texts of a script.
use Rattle.std.specs.Prelude.{ℕ, zero, suc, pred, ◌+◌, ◌-◌, ◌==◌, ◌≤◌, if◌then◌else◌, Bool, true, false, List, [], ◌∷◌, map, filter, length, take, drop, slice_index, Option, Some, None}
use Rattle.sql_words.specs.Bytes.{begins_comment, line_size, inner_size}
use Rattle.sql_words.specs.Words.{tokens_of}

-- the bytes of a span: from its start up to below its end
abbrev pub cut : List ℕ → (ℕ × ℕ) → List ℕ
cut text span = take (span.1 - span.0) (drop span.0 text)

-- how many bytes a text takes that begins at the front, with its quotes; all where it is unfinished
abbrev pub text_size : List ℕ → Option ℕ → ℕ
text_size text None = length text
text_size text (Some n) = n + 2

-- how many bytes at the front belong together: a comment, a text, or one byte
unfoldable pub part_size : List ℕ → ℕ
part_size text =
    if begins_comment text then line_size text
    else (if slice_index text 0 == 39 then text_size text (inner_size (drop 1 text)) else 1)

-- the places at which the texts of a script end: at each `;` outside of texts and comments, and at the end
abbrev pub ends_behind : ℕ → ℕ → List ℕ → List ℕ
ends_behind skip at [] = at ∷ []
ends_behind zero at (b ∷ rest) = if b == 59 then at ∷ ends_behind 0 (at + 1) rest else ends_behind (pred (part_size (b ∷ rest))) (at + 1) rest
ends_behind (suc skip) at (b ∷ rest) = ends_behind skip (at + 1) rest

-- the spans that end there: each but the first begins behind the `;` of the one before
abbrev pub spans_to : ℕ → List ℕ → List (ℕ × ℕ)
spans_to start [] = []
spans_to start (end ∷ more) = (start, end) ∷ spans_to (end + 1) more

abbrev pub is_nonempty : {X : Type 0} → List X → Bool
is_nonempty [] = false
is_nonempty (x ∷ xs) = true

-- the text of a span has a token
abbrev pub has_token : List ℕ → (ℕ × ℕ) → Bool
has_token script span = is_nonempty (tokens_of (cut script span))

-- the spans of a script's statement texts, without the `;`; a text without a token is none
abbrev pub statement_spans : List ℕ → List (ℕ × ℕ)
statement_spans script = filter (has_token script) (spans_to 0 (ends_behind 0 0 script))

-- the statement texts of a script
abbrev pub statement_texts : List ℕ → List (List ℕ)
statement_texts script = map (cut script) (statement_spans script)

-- a span that lies within the first n bytes
abbrev pub LiesWithin : ℕ → (ℕ × ℕ) → Type 0
LiesWithin n span = (span.0 ≤ span.1) × (span.1 ≤ n)
