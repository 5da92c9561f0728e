-- Which file is to blame where a mergeout or a purge isn't done.
use Rattle.std.specs.Prelude.{◌⊎◌, Option}
use Rattle.common_laws.specs.Maps.{Contents}
use Rattle.col_disk.specs.declared.disk.StoreFault.{StoreFault}
use Rattle.catalog_types.specs.declared.catalogue.Projection.{Projection}
use Rattle.container_cut.specs.Blamed.{BlamesProjection}
use Rattle.proj_store.specs.Reading.{BlamesRows}

-- a Damaged names a file of a container of the projection that held no rows; or, where what was made is read again, the delete vector of one that
-- stays, which is bad
abbrev pub BlamesMerge : Option Contents → StoreFault → Projection → Type 0
BlamesMerge found fault p = BlamesRows p found fault ⊎ BlamesProjection p found fault

-- a Damaged names a bad file of a container of the projection, or its bad delete vector
abbrev pub BlamesPurge : Option Contents → StoreFault → Projection → Type 0
BlamesPurge found fault p = BlamesProjection p found fault
