-- The day that a text says, as a function of the text.
use Rattle.std.specs.Prelude.{ℕ, zero, suc, if◌then◌else◌, List, Option, Some, None, bytes_eq}
use Rattle.col_value.specs.Days.{date_of, ten}
use Rattle.sql_words.specs.Symbols.{Symbol}

-- the greatest day up to a number whose text it is; none where there is none
unfoldable pub day_up_to : ℕ → List ℕ → Option ℕ
day_up_to zero text = None
day_up_to (suc n) text = if bytes_eq text (ten (date_of (suc n))) then Some (suc n) else day_up_to n text

-- the day whose text it is
unfoldable pub day_named : List ℕ → Option ℕ
day_named text = day_up_to 3652059 text

-- the text behind DATE
abbrev pub day_in : Symbol → Option ℕ
day_in (Symbol.Keyword k) = None
day_in (Symbol.Name n) = None
day_in (Symbol.Number n) = None
day_in (Symbol.Text t) = day_named t
day_in (Symbol.Mark s) = None
day_in (Symbol.Command b) = None
day_in Symbol.Unknown = None
