-- The printed lines of a catch-up.
use Rattle.std.specs.Prelude.{ℕ, ◌++◌, List, [], codes}
use Rattle.std.specs.Fmt.{decimal}
use Rattle.col_value.specs.declared.row.Stamped.{Stamped}
use Rattle.col_value.specs.Prints.{row_text}
use Rattle.catch_model.specs.declared.fault.LinkFault.{LinkFault}
use Rattle.catch_model.specs.declared.fault.LinkFault.TheVariants.{SchemaDiffers, NotBehind, HistoryGone, Differs, Gap, TooMany, NumbersSpent, BehindDisk, AheadDisk, Damaged, Memory}
use Rattle.verdict_text.specs.Lines.{numbers_text, stamped_row}

-- `CAUGHT UP e f last`
abbrev pub caught_text : ℕ → ℕ → ℕ → List ℕ
caught_text e f last = codes "CAUGHT UP " ++ (decimal e ++ (codes " " ++ numbers_text f last))

-- `SCHEMA name`
abbrev pub schema_text : List ℕ → List ℕ
schema_text name = codes "SCHEMA " ++ (name ++ codes "\n")

-- `NOT BEHIND behind ahead`
abbrev pub not_behind_text : ℕ → ℕ → List ℕ
not_behind_text behind ahead = codes "NOT BEHIND " ++ numbers_text behind ahead

-- `GONE at ahm`
abbrev pub gone_text : ℕ → ℕ → List ℕ
gone_text at ahm = codes "GONE " ++ numbers_text at ahm

-- `DIFFERS table`, and the line of the row
abbrev pub differs_text : List ℕ → Stamped → List ℕ
differs_text table row = codes "DIFFERS " ++ (table ++ (codes "\n" ++ row_text (stamped_row row)))

-- `GAP n`
abbrev pub gap_text : ℕ → List ℕ
gap_text n = codes "GAP " ++ (decimal n ++ codes "\n")

-- `MANY n`
abbrev pub many_text : ℕ → List ℕ
many_text n = codes "MANY " ++ (decimal n ++ codes "\n")

-- what is printed where a catch-up is refused; a disk's fault, a damaged file and want of memory print nothing
abbrev pub refusal_text : LinkFault → List ℕ
refusal_text (SchemaDiffers name) = schema_text name
refusal_text (NotBehind behind ahead) = not_behind_text behind ahead
refusal_text (HistoryGone at ahm) = gone_text at ahm
refusal_text (Differs table row) = differs_text table row
refusal_text (Gap n) = gap_text n
refusal_text (TooMany n) = many_text n
refusal_text NumbersSpent = codes "NUMBERS\n"
refusal_text BehindDisk = []
refusal_text AheadDisk = []
refusal_text (Damaged name) = []
refusal_text Memory = []
