-- The order of the reasons for which an INSERT is refused.
use Rattle.std.specs.Prelude.{Bool, true, false, if◌then◌else◌, List, Option, None}
use Rattle.std.specs.Option.{option_map_or}
use Rattle.col_value.specs.declared.column.Column.{Column}
use Rattle.sql_tree.specs.declared.refusal.Refusal.{Refusal}
use Rattle.sql_tree.specs.declared.statement.Insert.{Insert}
use Rattle.sql_binding.specs.Firsts.{first_of}
use Rattle.sql_binding.specs.Inserts.{insert_refusal, stored_refusal}

-- a refusal of what the rows of an INSERT hold
abbrev pub is_late : Refusal → Bool
is_late (Refusal.IntegerOutOfRange name) = true
is_late (Refusal.TextTooLong name) = true
is_late (Refusal.NullRefused name) = true
is_late r = false

abbrev pub in_order : Refusal → Option Refusal → Refusal
in_order r other = if is_late r then option_map_or (λ o. o) other r else r

-- why rows can't be inserted into a table with these columns, where there may be another reason before what they hold
abbrev pub inserted_refusal : Option (List Column) → Option Refusal → Insert → Option Refusal
inserted_refusal columns other i = first_of (insert_refusal columns i) (first_of other (option_map_or (λ cs. stored_refusal cs i) columns None))
