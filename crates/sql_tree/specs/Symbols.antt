-- What one symbol spells, and the words of the grammar over symbols.
use Rattle.std.specs.Prelude.{ℕ, ◌^◌, ◌-◌, ◌==◌, ◌&&◌, nat_lt, nat_le, if◌then◌else◌, Bool, List, [], ◌∷◌, length, Option, Some, None, bytes_eq, codes}
use Rattle.col_value.specs.Days.{SaysDay}
use Rattle.sql_words.specs.declared.token.Key.{Key}
use Rattle.sql_words.specs.declared.token.Sign.{Sign}
use Rattle.sql_words.specs.declared.token.Back.{Back}
use Rattle.sql_words.specs.declared.token.Token.{Token}
use Rattle.sql_words.specs.Symbols.{Symbol, symbol_of}
use Rattle.sql_words.specs.Words.{tokens_of}
use Rattle.sql_tree.specs.declared.statement.Function.{Function}
use Rattle.sql_tree.specs.declared.tree.Cmp.{Cmp}
use Rattle.sql_tree.specs.Phrases.{Phrase, Mark, Nothing, Then, Chain}

-- a phrase over symbols
abbrev pub Spelling : Type 0 → Type 1
Spelling V = Phrase Symbol V

-- a keyword, then A
abbrev pub Word : {V : Type 0} → Key → Spelling V → Spelling V
Word k A = Mark (Symbol.Keyword k) A

-- a sign, then A
abbrev pub Glyph : {V : Type 0} → Sign → Spelling V → Spelling V
Glyph s A = Mark (Symbol.Mark s) A

-- a command, then A
abbrev pub Command : {V : Type 0} → Back → Spelling V → Spelling V
Command b A = Mark (Symbol.Command b) A

-- ( A )
abbrev pub Inside : {V : Type 0} → Spelling V → Spelling V
Inside A = Glyph Sign.Open (Then A (λ x. Glyph Sign.Close (Nothing x)))

-- A {, A}
abbrev pub Listed : {V : Type 0} → Spelling V → Spelling (List V)
Listed A = Chain (Symbol.Mark Sign.Comma) A (λ x xs. x ∷ xs)

abbrev pub name_of : Symbol → Option (List ℕ)
name_of (Symbol.Keyword k) = None
name_of (Symbol.Name n) = Some n
name_of (Symbol.Number n) = None
name_of (Symbol.Text t) = None
name_of (Symbol.Mark s) = None
name_of (Symbol.Command b) = None
name_of Symbol.Unknown = None

abbrev pub text_of : Symbol → Option (List ℕ)
text_of (Symbol.Keyword k) = None
text_of (Symbol.Name n) = None
text_of (Symbol.Number n) = None
text_of (Symbol.Text t) = Some t
text_of (Symbol.Mark s) = None
text_of (Symbol.Command b) = None
text_of Symbol.Unknown = None

-- a text that says the day
abbrev pub IsDate : Symbol → ℕ → Type 0
IsDate (Symbol.Keyword k) n = ⊥
IsDate (Symbol.Name m) n = ⊥
IsDate (Symbol.Number m) n = ⊥
IsDate (Symbol.Text t) n = SaysDay t n
IsDate (Symbol.Mark s) n = ⊥
IsDate (Symbol.Command b) n = ⊥
IsDate Symbol.Unknown n = ⊥

abbrev pub number_of : Symbol → Option ℕ
number_of (Symbol.Keyword k) = None
number_of (Symbol.Name n) = None
number_of (Symbol.Number n) = Some n
number_of (Symbol.Text t) = None
number_of (Symbol.Mark s) = None
number_of (Symbol.Command b) = None
number_of Symbol.Unknown = None

-- a number that p holds of
abbrev pub kept : (ℕ → Bool) → Option ℕ → Option ℕ
kept p None = None
kept p (Some n) = if p n then Some n else None

-- the number of a VARCHAR: below 2^32
abbrev pub width_of : Symbol → Option ℕ
width_of t = kept (λ n. nat_lt n (2 ^ 32)) (number_of t)

-- the number of a session: 1 to 8
abbrev pub session_of : Symbol → Option ℕ
session_of t = kept (λ n. nat_le 1 n && nat_le n 8) (number_of t)

-- the task that a text names, in lower case
unfoldable pub task_named : List ℕ → Option Function
task_named text = if bytes_eq text (codes "moveout") then Some Function.Moveout else (if bytes_eq text (codes "mergeout") then Some Function.Mergeout else None)

-- the text of DO_TM_TASK
abbrev pub task_of : Symbol → Option Function
task_of (Symbol.Keyword k) = None
task_of (Symbol.Name n) = None
task_of (Symbol.Number n) = None
task_of (Symbol.Text t) = task_named t
task_of (Symbol.Mark s) = None
task_of (Symbol.Command b) = None
task_of Symbol.Unknown = None

-- the name that a text's one token is, which stands on all bytes of the text
abbrev pub whole_name : List ℕ → List Token → Option (List ℕ)
whole_name text [] = None
whole_name text (token ∷ []) = if token.end - token.start == length text then name_of (symbol_of text token) else None
whole_name text (token ∷ (next ∷ more)) = None

-- the name that a text spells, in lower case: a word that isn't reserved, and nothing before or behind it
unfoldable pub table_named : List ℕ → Option (List ℕ)
table_named text = whole_name text (tokens_of text)

-- the text of PURGE_TABLE and REFRESH
abbrev pub table_of : Symbol → Option (List ℕ)
table_of (Symbol.Keyword k) = None
table_of (Symbol.Name n) = None
table_of (Symbol.Number n) = None
table_of (Symbol.Text t) = table_named t
table_of (Symbol.Mark s) = None
table_of (Symbol.Command b) = None
table_of Symbol.Unknown = None

-- how a sign compares
abbrev pub compares : Sign → Option Cmp
compares Sign.Open = None
compares Sign.Close = None
compares Sign.Comma = None
compares Sign.Dot = None
compares Sign.Star = None
compares Sign.Plus = None
compares Sign.Minus = None
compares Sign.Equal = Some Cmp.Eq
compares Sign.NotEqual = Some Cmp.Ne
compares Sign.Less = Some Cmp.Lt
compares Sign.AtMost = Some Cmp.Le
compares Sign.Greater = Some Cmp.Gt
compares Sign.AtLeast = Some Cmp.Ge

-- "=" | "<>" | "!=" | "<" | "<=" | ">" | ">="
abbrev pub cmp_of : Symbol → Option Cmp
cmp_of (Symbol.Keyword k) = None
cmp_of (Symbol.Name n) = None
cmp_of (Symbol.Number n) = None
cmp_of (Symbol.Text t) = None
cmp_of (Symbol.Mark s) = compares s
cmp_of (Symbol.Command b) = None
cmp_of Symbol.Unknown = None
