-- What a reader of tokens answers, in terms of the reading of symbols.
use Rattle.std.specs.Prelude.{◌≡◌, ℕ, List, map, Result, Ok, Err}
use Rattle.sql_words.specs.declared.token.Token.{Token}
use Rattle.sql_words.specs.Symbols.{Symbol, symbol_of}
use Rattle.sql_phrases.specs.Readings.{Read}
use Rattle.sql_phrases.specs.declared.stop.Stop.{Stop}

-- what tokens of a text say
abbrev pub seen : List ℕ → List Token → List Symbol
seen text tokens = map (symbol_of text) tokens

-- Ok: the value was taken, and `left` is left. Stopped: the reading stops at `left`.
abbrev pub Gives : {V : Type 0} → Result V Stop → List Symbol → Read Symbol V → Type 0
Gives (Ok value) left read = read ≡ Read.Took value left
Gives (Err Stop.Here) left read = read ≡ Read.Stopped left
Gives (Err Stop.Memory) left read = Unit {0}
