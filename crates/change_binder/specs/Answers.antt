-- What the binder answers for a change.
use Rattle.std.specs.Prelude.{◌≡◌, ℕ, List, [], map, Option, Some, None, option_map}
use Rattle.std.specs.List.{All}
use Rattle.col_value.specs.declared.value.Value.{Value}
use Rattle.col_value.specs.declared.column.Column.{Column}
use Rattle.col_value.specs.Order.{IsRow, IsValue}
use Rattle.sql_tree.specs.declared.statement.AddColumn.{AddColumn}
use Rattle.sql_tree.specs.declared.statement.Delete.{Delete}
use Rattle.sql_tree.specs.declared.statement.Insert.{Insert}
use Rattle.sql_tree.specs.declared.statement.Update.{Update}
use Rattle.sql_tree.specs.declared.statement.NewProjection.{NewProjection}
use Rattle.sql_bound.specs.declared.query.Assigned.{Assigned}
use Rattle.sql_bound.specs.declared.query.BoundQuery.{BoundQuery}
use Rattle.sql_tree.specs.declared.refusal.Refusal.{Refusal}
use Rattle.sql_binding.specs.Changes.{delete_refusal, bound_delete, update_refusal, bound_update, bound_setting, set_twice_behind}
use Rattle.sql_binding.specs.Firsts.{first_of}
use Rattle.sql_tree.specs.declared.query.Query.{Query}
use Rattle.sql_binding.specs.Queries.{ambiguous_name, bound_in, unknown_column}
use Rattle.sql_binding.specs.Sight.{Seen}
use Rattle.sql_binding.specs.Inserts.{whole_refusal, inserted_rows}
use Rattle.sql_binding.specs.Additions.{default_refusal, default_value}
use Rattle.sql_binding.specs.Projections.{projection_refusal, bound_projection}
use Rattle.change_binder.specs.declared.updates.BoundUpdate.{BoundUpdate}
use Rattle.change_binder.specs.declared.projections.ProjectionShape.{ProjectionShape}

-- the columns of the table, where it was found
abbrev pub columns_in : Option (ℕ × List Column) → Option (List Column)
columns_in found = option_map (λ t. t.1) found

-- the DELETE isn't refused, and this is its bound tree
pub record IsBoundDelete (found : Option (ℕ × List Column)) (d : Delete) (b : BoundQuery) : Type 0 where
  pub accepted : delete_refusal (columns_in found) d ≡ None
  pub bound : option_map (λ t. bound_delete t.0 t.1 d) found ≡ Some b

-- what an UPDATE sets, over these columns
abbrev pub assigned_in : List Seen → Update → Assigned
assigned_in seen u = record { columns = map (bound_setting (record { seen = seen; last = 1; keys = [] })) u.settings }

-- the bound tree of an UPDATE
abbrev pub parts_of_update : BoundUpdate → BoundQuery × Assigned
parts_of_update b = (b.rows, b.assigned)

-- why an UPDATE over these columns is refused for a name behind its table's; the query names what it names
abbrev pub settings_refusal : List Seen → Query → Update → Option Refusal
settings_refusal seen q u =
    first_of (option_map Refusal.UnknownColumn (unknown_column seen q))
    (option_map Refusal.Ambiguous (first_of (ambiguous_name seen q) (set_twice_behind [] u.settings)))

-- what an UPDATE changes, over these tables and columns
abbrev pub changes_in : List (ℕ × List Column) → List Seen → Query → Update → BoundQuery × Assigned
changes_in tables seen q u = (bound_in tables seen q, assigned_in seen u)

-- the UPDATE isn't refused, and this is its bound tree
pub record IsBoundUpdate (found : Option (ℕ × List Column)) (u : Update) (b : BoundUpdate) : Type 0 where
  pub accepted : update_refusal (columns_in found) u ≡ None
  pub bound : option_map (λ t. bound_update t.0 t.1 u) found ≡ Some (parts_of_update b)

-- the INSERT isn't refused, and these are its rows: each holds values of a table
pub record IsBoundInsert (found : Option (List Column)) (i : Insert) (rows : List (List Value)) : Type 0 where
  pub accepted : whole_refusal found i ≡ None
  pub rows_are : rows ≡ inserted_rows i
  pub values : All IsRow rows

-- the CREATE PROJECTION isn't refused, and these are its columns and what it is sorted by
pub record IsBoundProjection (found : Option (List Column)) (p : NewProjection) (s : ProjectionShape) : Type 0 where
  pub accepted : projection_refusal found p ≡ None
  pub shape : option_map (λ columns. bound_projection columns p) found ≡ Some (s.columns, s.sort)

-- the default of an added column can be stored there, and this is what each row has: a value of a table
pub record IsBoundDefault (a : AddColumn) (v : Value) : Type 0 where
  pub accepted : default_refusal a ≡ None
  pub value : v ≡ default_value a
  pub fits : IsValue v
