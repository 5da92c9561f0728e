-- What a refusal to read tells.
use Rattle.std.specs.Prelude.{List}
use Rattle.sql_words.specs.Symbols.{Symbol}
use Rattle.sql_tree.specs.Phrases.{IsPlace}
use Rattle.sql_tree.specs.Spells.{Spells}
use Rattle.sql_reader.specs.declared.reader.ReadFault.{ReadFault}

-- the symbols spell no statement, and the place is exact; want of memory tells nothing
abbrev pub Refuses : List Symbol → ReadFault → Type 0
Refuses ts (ReadFault.Syntax place) = IsPlace Spells ts place
Refuses ts ReadFault.Memory = Unit {0}
