-- Where the tables and projections stand that a statement names.
use Rattle.std.specs.Prelude.{◌≡◌, ◌==◌, ◌&&◌, not, ℕ, Bool, true, List, [], find, Option, Some, option_map, option_and_then, bytes_eq}
use Rattle.std.specs.List.{All, list_any, enumerate_from}
use Rattle.sql_tree.specs.declared.statement.Delete.{Delete}
use Rattle.sql_tree.specs.declared.statement.NewProjection.{NewProjection}
use Rattle.sql_tree.specs.declared.statement.Update.{Update}
use Rattle.col_value.specs.declared.column.Column.{Column}
use Rattle.col_value.specs.declared.kinds.Encoding.{Encoding}
use Rattle.sql_bound.specs.declared.query.Assigned.{Assigned}
use Rattle.sql_bound.specs.declared.query.BoundQuery.{BoundQuery}
use Rattle.sql_bound.specs.Bounds.{is_narrow}
use Rattle.sql_binding.specs.Changes.{bound_delete, bound_update}
use Rattle.sql_binding.specs.Projections.{bound_projection}
use Rattle.change_binder.specs.Answers.{parts_of_update}
use Rattle.change_binder.specs.declared.projections.ProjectionShape.{ProjectionShape}
use Rattle.change_binder.specs.declared.updates.BoundUpdate.{BoundUpdate}
use Rattle.query_laws.specs.Bounded.{IsBoundedQuery}
use Rattle.db_model.specs.Database.{Shape, Table, is_super}
use Rattle.db_model.specs.State.{State}
use Rattle.db_model.specs.Views.{table_found}

-- the place of the table of a name
abbrev pub table_place : List ℕ → List Table → Option ℕ
table_place name tables = option_map (λ e. e.0) (table_found name tables)

-- the columns of the table of a name, with its place
abbrev pub columns_at : List ℕ → List Table → Option (ℕ × List Column)
columns_at name tables = option_map (λ e. (e.0, e.1.columns)) (table_found name tables)

-- a projection of the table is called so
unfoldable pub has_projection : List ℕ → Table → Bool
has_projection name t = list_any (λ s. bytes_eq s.name name) t.shapes

-- the table that has the projection of a name, with its place among all
abbrev pub owner_found : List ℕ → List Table → Option (ℕ × Table)
owner_found name tables = find (λ e. has_projection name e.1) (enumerate_from 0 tables)

-- the projection of a name in its table, with its place
abbrev pub shape_found : List ℕ → Table → Option (ℕ × Shape)
shape_found name t = find (λ e. bytes_eq e.1.name name) (enumerate_from 0 t.shapes)

-- the place of the table that has the projection of a name, and the projection's place in it
abbrev pub places_in : List ℕ → ℕ × Table → Option (ℕ × ℕ)
places_in name e = option_map (λ s. (e.0, s.0)) (shape_found name e.1)

abbrev pub projection_places : List ℕ → List Table → Option (ℕ × ℕ)
projection_places name tables = option_and_then (places_in name) (owner_found name tables)

-- a projection has the table's column of this place
abbrev pub has_ordinal : Shape → ℕ → Bool
has_ordinal s ordinal = list_any (λ c. c.0 == ordinal) s.columns

-- an up-to-date super projection of a table that isn't called so
unfoldable pub other_super : List ℕ → Table → Shape → Bool
other_super name t s = is_super t s && not (bytes_eq s.name name)

-- what a change is bound to over a table, with the table's place
abbrev pub placed_projection : NewProjection → ℕ × Table → ℕ × (List (ℕ × Encoding) × List ℕ)
placed_projection p e = (e.0, bound_projection e.1.columns p)

abbrev pub placed_delete : Delete → ℕ × Table → ℕ × BoundQuery
placed_delete d e = (e.0, bound_delete e.0 e.1.columns d)

abbrev pub placed_update : Update → ℕ × Table → ℕ × (BoundQuery × Assigned)
placed_update u e = (e.0, bound_update e.0 e.1.columns u)

-- the table of a new projection is at this place, and this is the projection's shape
abbrev pub IsProjectionOf : State → NewProjection → ℕ → ProjectionShape → Type 0
IsProjectionOf state p place s = option_map (placed_projection p) (table_found p.table state.database.tables) ≡ Some (place, (s.columns, s.sort))

-- the table of a DELETE is at this place, and this is its bound tree, whose expressions have static bounds
pub record IsDeleteOf (state : State) (d : Delete) (place : ℕ) (b : BoundQuery) : Type 0 where
  pub tree : option_map (placed_delete d) (table_found d.table state.database.tables) ≡ Some (place, b)
  pub bounded : IsBoundedQuery b

-- the table of an UPDATE is at this place, and these are its bound trees, whose expressions have static bounds
pub record IsUpdateOf (state : State) (u : Update) (place : ℕ) (b : BoundUpdate) : Type 0 where
  pub trees : option_map (placed_update u) (table_found u.table state.database.tables) ≡ Some (place, parts_of_update b)
  pub rows : IsBoundedQuery b.rows
  pub settings : All (λ s. is_narrow [] s.1 ≡ true) b.assigned.columns
