-- Which file of which table is to blame where a cut finds no rows.
use Rattle.std.specs.Prelude.{ℕ, List, Option}
use Rattle.std.specs.List.{Any}
use Rattle.common_laws.specs.Maps.{Contents}
use Rattle.col_disk.specs.declared.disk.StoreFault.{StoreFault}
use Rattle.catalog_types.specs.declared.catalogue.Projection.{Projection}
use Rattle.catalog_types.specs.declared.catalogue.Table.{Table}
use Rattle.container_cut.specs.Blamed.{IsDamageIn, Blames}

abbrev pub IsDamageInTable : Contents → ℕ → Table → Type 0
IsDamageInTable m q t = Any (IsDamageIn m q) t.projections

abbrev pub BlamesProjections : List Projection → Option Contents → StoreFault → Type 0
BlamesProjections ps holds fault = Blames (λ m q. Any (IsDamageIn m q) ps) holds fault

abbrev pub BlamesInTables : List Table → Option Contents → StoreFault → Type 0
BlamesInTables ts holds fault = Blames (λ m q. Any (IsDamageInTable m q) ts) holds fault
