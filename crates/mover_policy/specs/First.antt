-- The projections of a catalogue that are behind, and the first of them.
use Rattle.std.specs.Prelude.{ℕ, not, Bool, true, List, map, filter, find, Option, option_map, option_and_then}
use Rattle.std.specs.List.{list_all, flat_map, slice_get}
use Rattle.std.specs.Option.{option_map_or}
use Rattle.catalog_types.specs.declared.catalogue.Projection.{Projection}
use Rattle.catalog_types.specs.declared.catalogue.Table as kept
use Rattle.db_model.specs.Database.{Shape, is_behind}
use Rattle.db_model.specs.Mover.{moves_first}
use Rattle.folder_model.specs.Projections.{shape_of}
use Rattle.mover_policy.specs.declared.first.Place.{Place}

-- the projections of all tables
abbrev pub all_projections : List kept.Table → List Projection
all_projections tables = flat_map (λ t. t.projections) tables

-- of some projections those that are up to date and whose data isn't all on disk
abbrev pub behind_in : ℕ → List Projection → List Shape
behind_in last ps = filter (is_behind last) (map shape_of ps)

-- of some projections the one that a moveout takes first
abbrev pub first_in : List Shape → Option Shape
first_in shapes = find (λ s. list_all (λ other. not (moves_first other s)) shapes) shapes

-- the projection at a place
abbrev pub projection_at : List kept.Table → Place → Option Projection
projection_at tables at = option_and_then (λ t. slice_get t.projections at.place) (slice_get tables at.table)

abbrev pub shape_at : List kept.Table → Option Place → Option Shape
shape_at tables best = option_map shape_of (option_and_then (projection_at tables) best)

-- a projection is moved out before another one, or there is no other
abbrev pub is_first : Projection → Option Projection → Bool
is_first p other = option_map_or (λ o. moves_first (shape_of p) (shape_of o)) other true
