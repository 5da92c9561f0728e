-- The flaws of a value that is of its column's kind, as the code tells them apart.
use Rattle.std.specs.Prelude.{Bool, List, Option, option_map}
use Rattle.col_value.specs.declared.wide.Wide.{Wide}
use Rattle.col_value.specs.declared.column.Column.{Column}
use Rattle.sql_tree.specs.declared.refusal.Refusal.{Refusal}
use Rattle.name_binder.specs.Refusing.{refusal_named}
use Rattle.name_binder.specs.declared.naming.Naming.{Naming}
use Rattle.sql_binding.specs.Inserts.{is_out_of_range, is_too_long, is_refused_null, first_such}
use Rattle.row_setting.specs.declared.flaw.Flaw.{Flaw}

abbrev pub has_flaw : Flaw → Column × Wide → Bool
has_flaw Flaw.Range = is_out_of_range
has_flaw Flaw.Length = is_too_long
has_flaw Flaw.Null = is_refused_null

abbrev pub naming_of : Flaw → Naming
naming_of Flaw.Range = Naming.IntegerOutOfRange
naming_of Flaw.Length = Naming.TextTooLong
naming_of Flaw.Null = Naming.NullRefused

-- how values are refused of which one has the flaw
abbrev pub flaw_refusal : Flaw → List (Column × Wide) → Option Refusal
flaw_refusal f ps = option_map (refusal_named (naming_of f)) (first_such (has_flaw f) ps)
