-- The columns that a container stores.
use Rattle.std.specs.Prelude.{[], take}
use Rattle.catalog_types.specs.declared.catalogue.Container.{Container}
use Rattle.catalog_types.specs.declared.catalogue.Projection.{Projection}

-- a projection of the columns that a container stores, which has no containers
abbrev pub front_of : Container → Projection → Projection
front_of k p = record p { columns = take k.stored p.columns; containers = [] }
