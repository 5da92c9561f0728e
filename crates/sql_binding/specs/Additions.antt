-- The column that an ALTER TABLE adds, and why it is refused.
use Rattle.std.specs.Prelude.{ℕ, not, Bool, List, [], ◌∷◌, Option, Some, None, option_map, bytes_eq}
use Rattle.std.specs.List.{list_any}
use Rattle.std.specs.Option.{option_map_or}
use Rattle.col_value.specs.declared.value.Value.{Value}
use Rattle.col_value.specs.declared.wide.Wide.{Wide}
use Rattle.col_value.specs.declared.column.Column.{Column}
use Rattle.sql_tree.specs.declared.refusal.Refusal.{Refusal}
use Rattle.sql_tree.specs.declared.statement.AddColumn.{AddColumn}
use Rattle.sql_binding.specs.Firsts.{first_of, refused_where}
use Rattle.sql_binding.specs.Inserts.{is_of_column, is_out_of_range, is_too_long, is_refused_null, first_such, narrowed}

-- the table has a column of this name
abbrev pub has_column : List Column → List ℕ → Bool
has_column columns name = list_any (λ c. bytes_eq c.name name) columns

-- the added column with its default, as the text has it
abbrev pub added_pair : AddColumn → Column × Wide
added_pair a = (a.column, a.default)

-- Why an ALTER TABLE is refused, whose table has these columns, whatever its default holds; None where there is no such table.
abbrev pub addition_refusal : Option (List Column) → AddColumn → Option Refusal
addition_refusal None a = Some (Refusal.UnknownTable a.table)
addition_refusal (Some columns) a =
    first_of (refused_where (has_column columns a.column.name) (Refusal.Exists a.column.name)) (refused_where (not (is_of_column (added_pair a))) Refusal.TypeMismatch)

-- Why the default can't be stored in the column: a number out of range, a text too long, a NULL that is refused.
abbrev pub default_refusal : AddColumn → Option Refusal
default_refusal a =
    first_of (option_map Refusal.IntegerOutOfRange (first_such is_out_of_range (added_pair a ∷ [])))
    (first_of (option_map Refusal.TextTooLong (first_such is_too_long (added_pair a ∷ []))) (option_map Refusal.NullRefused (first_such is_refused_null (added_pair a ∷ []))))

-- what each row has in the column
abbrev pub default_value : AddColumn → Value
default_value a = narrowed a.default
