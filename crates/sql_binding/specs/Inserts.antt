-- The rows of an INSERT, and why it is refused.
use Rattle.std.specs.Prelude.{ℕ, min, ℤ, pos, negsuc, ◌==◌, ◌&&◌, not, nat_le, nat_lt, if◌then◌else◌, Bool, false, List, length, map, zip, find, Option, Some, None, option_map}
use Rattle.std.specs.List.{list_all, flat_map}
use Rattle.std.specs.Option.{option_map_or}
use Rattle.col_value.specs.declared.value.Value.{Value}
use Rattle.col_value.specs.declared.value.Value.TheVariants as value
use Rattle.col_value.specs.declared.wide.Wide.{Wide}
use Rattle.col_value.specs.declared.wide.Wide.TheVariants as wide
use Rattle.col_value.specs.declared.kinds.ColType.{ColType}
use Rattle.sql_tree.specs.declared.refusal.Refusal.{Refusal}
use Rattle.sql_tree.specs.declared.statement.Insert.{Insert}
use Rattle.col_value.specs.declared.column.Column.{Column}
use Rattle.sql_bound.specs.Kinds.{kind_of_column, kind_of_value, serves}
use Rattle.sql_binding.specs.Firsts.{first_of, first_given, refused_where}

-- each literal with its column, in the order of the text
abbrev pub pairs : List Column → List (List Wide) → List (Column × Wide)
pairs columns rows = flat_map (zip columns) rows

-- a row of another number of values than the table has columns
abbrev pub wrong_count : List Column → List Wide → Option (ℕ × ℕ)
wrong_count columns row = if length row == length columns then None else Some (length row, length columns)

-- a literal of the column's kind; NULL fits every kind
abbrev pub is_of_column : Column × Wide → Bool
is_of_column p = serves (kind_of_value p.1) (kind_of_column p.0.kind)

-- why the literals can't stand in these columns
abbrev pub literal_refusal : List Column → Insert → Option Refusal
literal_refusal columns i =
    first_of (option_map (λ c. Refusal.Arity c.0 c.1) (first_given (wrong_count columns) i.rows))
    (refused_where (not (list_all is_of_column (pairs columns i.rows))) Refusal.TypeMismatch)

-- Why an INSERT is refused, whose table has these columns, whatever its rows hold; None where there is no such table.
abbrev pub insert_refusal : Option (List Column) → Insert → Option Refusal
insert_refusal None i = Some (Refusal.UnknownTable i.table)
insert_refusal (Some columns) i = literal_refusal columns i

-- a number that no column holds: they lie from -2^63 + 1 to 2^63 - 1
abbrev pub is_stored_number : ℤ → Bool
is_stored_number (pos n) = nat_lt n 9223372036854775808
is_stored_number (negsuc n) = nat_lt n 9223372036854775807

-- the days of a column: from 1 for 0001-01-01 to 3652059 for 9999-12-31
abbrev pub is_stored_day : ℕ → Bool
is_stored_day d = nat_le 1 d && nat_le d 3652059

abbrev pub is_out_of_range : Column × Wide → Bool
is_out_of_range (c, wide.Null) = false
is_out_of_range (c, wide.Bool b) = false
is_out_of_range (c, wide.Int n) = not (is_stored_number n)
is_out_of_range (c, wide.Date d) = not (is_stored_day d)
is_out_of_range (c, wide.Text t) = false

-- how many octets a column of texts takes; no text of a table has more than 65,000
abbrev pub width_of : ColType → ℕ
width_of ColType.Integer = 0
width_of (ColType.Varchar n) = min n 65000
width_of ColType.Boolean = 0
width_of ColType.Date = 0

abbrev pub is_too_long : Column × Wide → Bool
is_too_long (c, wide.Null) = false
is_too_long (c, wide.Bool b) = false
is_too_long (c, wide.Int n) = false
is_too_long (c, wide.Date d) = false
is_too_long (c, wide.Text t) = nat_lt (width_of c.kind) (length t)

abbrev pub is_refused_null : Column × Wide → Bool
is_refused_null (c, wide.Null) = c.not_null
is_refused_null (c, wide.Bool b) = false
is_refused_null (c, wide.Int n) = false
is_refused_null (c, wide.Date d) = false
is_refused_null (c, wide.Text t) = false

-- the column of the first literal that is so
abbrev pub first_such : (Column × Wide → Bool) → List (Column × Wide) → Option (List ℕ)
first_such p ps = option_map (λ x. x.0.name) (find p ps)

-- Why literals that fit the columns' kinds can't be stored: a number out of range, a text too long, a NULL that is refused. Each is
-- looked for in the whole statement before the next.
abbrev pub stored_refusal : List Column → Insert → Option Refusal
stored_refusal columns i =
    first_of (option_map Refusal.IntegerOutOfRange (first_such is_out_of_range (pairs columns i.rows)))
    (first_of (option_map Refusal.TextTooLong (first_such is_too_long (pairs columns i.rows)))
    (option_map Refusal.NullRefused (first_such is_refused_null (pairs columns i.rows))))

-- what a column holds of a literal
abbrev pub narrowed : Wide → Value
narrowed wide.Null = value.Null
narrowed (wide.Bool b) = value.Bool b
narrowed (wide.Int n) = value.Int n
narrowed (wide.Date d) = value.Date d
narrowed (wide.Text t) = value.Text t

abbrev pub inserted_rows : Insert → List (List Value)
inserted_rows i = map (map narrowed) i.rows

-- why an INSERT is refused, what its rows hold looked at last
abbrev pub whole_refusal : Option (List Column) → Insert → Option Refusal
whole_refusal found i = first_of (insert_refusal found i) (option_map_or (λ columns. stored_refusal columns i) found None)
