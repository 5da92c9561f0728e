-- The flaws of a literal that fits its column's kind, as the code tells them apart.
use Rattle.std.specs.Prelude.{Bool, List, Option, option_map}
use Rattle.std.specs.List.{All}
use Rattle.col_value.specs.Order.{IsValue}
use Rattle.col_value.specs.declared.wide.Wide.{Wide}
use Rattle.sql_tree.specs.declared.refusal.Refusal.{Refusal}
use Rattle.col_value.specs.declared.column.Column.{Column}
use Rattle.change_binder.specs.declared.flaw.Flaw.{Flaw}
use Rattle.name_binder.specs.Refusing.{refusal_named}
use Rattle.name_binder.specs.declared.naming.Naming.{Naming}
use Rattle.sql_binding.specs.Inserts.{is_out_of_range, is_too_long, is_refused_null, first_such, narrowed}

abbrev pub has_flaw : Flaw → Column × Wide → Bool
has_flaw Flaw.Range = is_out_of_range
has_flaw Flaw.Length = is_too_long
has_flaw Flaw.Null = is_refused_null

abbrev pub naming_of : Flaw → Naming
naming_of Flaw.Range = Naming.IntegerOutOfRange
naming_of Flaw.Length = Naming.TextTooLong
naming_of Flaw.Null = Naming.NullRefused

-- how some literals are refused that have a flaw
abbrev pub flaw_refusal : Flaw → List (Column × Wide) → Option Refusal
flaw_refusal f ps = option_map (refusal_named (naming_of f)) (first_such (has_flaw f) ps)

-- the values of some literals are values of a table
abbrev pub AreStored : List Wide → Type 0
AreStored row = All (λ w. IsValue (narrowed w)) row
