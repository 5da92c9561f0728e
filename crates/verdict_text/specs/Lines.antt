-- The printed text of a verdict.
use Rattle.std.specs.Prelude.{ℕ, pos, ◌++◌, List, [], ◌∷◌, Option, Some, None, codes}
use Rattle.std.specs.Fmt.{decimal}
use Rattle.col_value.specs.declared.row.Stamped.{Stamped}
use Rattle.col_value.specs.declared.wide.Wide.{Wide}
use Rattle.col_value.specs.declared.wide.Wide.TheVariants as wide
use Rattle.col_value.specs.Order.{widened_row}
use Rattle.col_value.specs.Prints.{row_text}
use Rattle.audit_model.specs.declared.verdict.Verdict.{Verdict}
use Rattle.audit_model.specs.declared.verdict.Verdict.TheVariants.{Yes, File, BadRow, Differ}

-- two names, and two numbers at the end of a line
abbrev pub names_text : List ℕ → List ℕ → List ℕ
names_text first second = first ++ (codes " " ++ second)

abbrev pub numbers_text : ℕ → ℕ → List ℕ
numbers_text first second = decimal first ++ (codes " " ++ (decimal second ++ codes "\n"))

-- an epoch, or NULL where there is none
abbrev pub epoch_value : Option ℕ → Wide
epoch_value None = wide.Null
epoch_value (Some epoch) = wide.Int (pos epoch)

-- the values of a stored row, then the epoch that inserted it and the one that deleted it
abbrev pub stamped_row : Stamped → List Wide
stamped_row s = widened_row s.row ++ wide.Int (pos s.ins) ∷ epoch_value s.del ∷ []

-- `AUDIT YES last ahm`
abbrev pub yes_text : ℕ → ℕ → List ℕ
yes_text last ahm = codes "AUDIT YES " ++ numbers_text last ahm

-- `AUDIT NO FILE name`
abbrev pub file_text : ℕ → List ℕ
file_text name = codes "AUDIT NO FILE " ++ (decimal name ++ codes "\n")

-- `AUDIT NO ROW table projection base position`
abbrev pub bad_row_text : List ℕ → List ℕ → ℕ → ℕ → List ℕ
bad_row_text table projection base place = codes "AUDIT NO ROW " ++ (names_text table projection ++ (codes " " ++ numbers_text base place))

-- `AUDIT NO PAIR table first second first_count second_count`, and the line of the row
abbrev pub differ_text : List ℕ → List ℕ → List ℕ → ℕ → ℕ → Stamped → List ℕ
differ_text table first second first_count second_count row =
    codes "AUDIT NO PAIR " ++ (table ++ (codes " " ++ (names_text first second ++ (codes " " ++ (numbers_text first_count second_count ++ row_text (stamped_row row))))))

abbrev pub verdict_text : Verdict → List ℕ
verdict_text (Yes last ahm) = yes_text last ahm
verdict_text (File name) = file_text name
verdict_text (BadRow table projection base place) = bad_row_text table projection base place
verdict_text (Differ table first second first_count second_count row) = differ_text table first second first_count second_count row
