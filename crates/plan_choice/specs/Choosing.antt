-- The best of some projections, one after the other.
use Rattle.std.specs.Prelude.{◌&&◌, ◌||◌, not, Bool, true, false, if◌then◌else◌, List, [], ◌∷◌, Option, Some}
use Rattle.std.specs.List.{list_any}
use Rattle.std.specs.Option.{option_map_or}
use Rattle.catalog_types.specs.declared.catalogue.Projection.{Projection}
use Rattle.sql_bound.specs.declared.query.FromItem.{FromItem}
use Rattle.sql_bound.specs.declared.query.BoundQuery.{BoundQuery}
use Rattle.db_model.specs.Choice.{first_sorted, is_narrower}
use Rattle.folder_model.specs.Projections.{shape_of}
use Rattle.plan_choice.specs.Covering.{covers_query}
use Rattle.plan_choice.specs.Bounding.{bounds_column}

abbrev pub serves : BoundQuery → FromItem → Projection → Bool
serves q f p = p.fresh && covers_query f p.columns q

abbrev pub is_sorted_well : BoundQuery → FromItem → Projection → Bool
is_sorted_well q f p = option_map_or (λ c. list_any (bounds_column f c) q.keep) (first_sorted (shape_of p)) false

abbrev pub is_candidate : BoundQuery → FromItem → Bool → Projection → Bool
is_candidate q f well p = serves q f p && (not well || is_sorted_well q f p)

-- a projection is taken where there is none so far, or a wider one
abbrev pub is_better : Option Projection → Projection → Bool
is_better best p = option_map_or (λ b. is_narrower (shape_of p) (shape_of b)) best true

abbrev pub best_from : (Projection → Bool) → Option Projection → List Projection → Option Projection
best_from test best [] = best
best_from test best (p ∷ ps) = best_from test (if test p && is_better best p then Some p else best) ps
