-- The lines of EXPLAIN, over the projections of all tables.
use Rattle.std.specs.Prelude.{ℕ, ◌≡◌, ◌++◌, List, [], map, codes}
use Rattle.std.specs.List.{slice_get}
use Rattle.std.specs.Option.{option_map_or}
use Rattle.catalog_types.specs.declared.catalogue.Table as kept
use Rattle.sql_tree.specs.declared.query.Source.{Source}
use Rattle.sql_bound.specs.declared.query.FromItem.{FromItem}
use Rattle.sql_bound.specs.declared.query.BoundQuery.{BoundQuery}
use Rattle.sql_binding.specs.Sight.{item_name}
use Rattle.db_model.specs.Database.{Shape, Table}
use Rattle.db_model.specs.Choice.{chosen_for}
use Rattle.folder_model.specs.Projections.{shape_of}

-- the projections of a catalogue's table
abbrev pub shapes_of : kept.Table → List Shape
shapes_of t = map shape_of t.projections

-- tables have the projections of those of a catalogue
abbrev pub HaveShapes : List kept.Table → List Table → Type 0
HaveShapes kept tables = map (λ u. u.shapes) tables ≡ map shapes_of kept

-- the name of the projection that is chosen for a FROM item among those of its table
abbrev pub name_among : BoundQuery → FromItem → List Shape → List ℕ
name_among q f shapes = option_map_or (λ s. s.name) (chosen_for q f shapes) []

abbrev pub chosen_name : BoundQuery → List (List Shape) → FromItem → List ℕ
chosen_name q all f = option_map_or (name_among q f) (slice_get all f.table) []

-- its line
abbrev pub scan_over : BoundQuery → List (List Shape) → Source × FromItem → List ℕ
scan_over q all i = codes "SCAN " ++ (item_name i.0 ++ (codes " " ++ (chosen_name q all i.1 ++ codes "\n")))
