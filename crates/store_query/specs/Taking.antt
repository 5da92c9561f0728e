-- Which projection is read for a FROM item.
use Rattle.std.specs.Prelude.{◌≡◌, ℕ, List, map, Option, Some, option_and_then}
use Rattle.std.specs.List.{slice_get}
use Rattle.catalog_types.specs.declared.catalogue.Table.{Table}
use Rattle.sql_bound.specs.declared.query.FromItem.{FromItem}
use Rattle.sql_bound.specs.declared.query.BoundQuery.{BoundQuery}
use Rattle.db_model.specs.Choice.{chosen_for}
use Rattle.db_model.specs.Database.{Shape}
use Rattle.stored_rows.specs.Stored.{Projected}
use Rattle.folder_model.specs.Projections.{shape_of}
use Rattle.store_commit.specs.Seen.{Seen}

-- of the projections of a FROM item's table it is the one at the place of the entry that the choice says
pub record IsTaken (s : Seen) (q : BoundQuery) (f : FromItem) (p : Projected) : Type 0 where
  pub table : Table
  pub stores : List Projected
  pub place : ℕ
  pub there : slice_get s.catalogue.tables f.table ≡ Some table
  pub beside : slice_get s.stores f.table ≡ Some stores
  pub stored : slice_get stores place ≡ Some p
  pub chosen : slice_get (map shape_of table.projections) place ≡ chosen_for q f (map shape_of table.projections)

-- the shape of the projection that the choice says for a FROM item
abbrev pub shape_for : Seen → BoundQuery → FromItem → Option Shape
shape_for s q f = option_and_then (λ t. chosen_for q f (map shape_of t.projections)) (slice_get s.catalogue.tables f.table)
