-- When the rows of an INSERT can stand in a table.
use Rattle.std.specs.Prelude.{◌≡◌, List, None}
use Rattle.col_value.specs.declared.column.Column.{Column}
use Rattle.sql_tree.specs.declared.statement.Insert.{Insert}
use Rattle.sql_binding.specs.Inserts.{literal_refusal, stored_refusal}

-- the literals have the columns' kinds, and can be stored in them
abbrev pub AreStored : List Column → Insert → Type 0
AreStored columns i = (literal_refusal columns i ≡ None) × (stored_refusal columns i ≡ None)
