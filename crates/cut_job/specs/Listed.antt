-- Tables whose numbers were drawn before a number, and that can be loaded.
use Rattle.std.specs.Prelude.{ℕ, sum_by}
use Rattle.std.specs.List.{All}
use Rattle.catalog_types.specs.Numbers.{number_count}
use Rattle.catalog_types.specs.declared.catalogue.Table.{Table}
use Rattle.container_cut.specs.Listed.{IsListedBelow}
use Rattle.proj_store.specs.Sound.{IsLoadable}

-- all numbers that the projections of a table list are below this one
abbrev pub IsTableBelow : ℕ → Table → Type 0
IsTableBelow next t = All (IsListedBelow next) t.projections

-- each projection of a table can be loaded
abbrev pub HasLoadable : Table → Type 0
HasLoadable t = All IsLoadable t.projections

-- how many numbers the files of a table have
abbrev pub table_count : Table → ℕ
table_count t = sum_by number_count t.projections
