-- The containers that can be read.
use Rattle.std.specs.Prelude.{◌≤◌, ◌<◌, ◌+◌, ◌*◌, ◌^◌, List, length, drop, IsSomeAnd}
use Rattle.std.specs.List.{All}
use Rattle.catalog_types.specs.declared.catalogue.Container.{Container}
use Rattle.catalog_types.specs.declared.catalogue.ProjColumn.{ProjColumn}
use Rattle.col_value.specs.Order.{IsValue}

-- the default of a column is a value of a table
abbrev pub HasDefaultValue : ProjColumn → Type 0
HasDefaultValue c = IsSomeAnd c.default IsValue

-- A container of a projection with these columns: it has a row and stores the first of the columns, and the others have a default.
pub record IsOfColumns (columns : List ProjColumn) (k : Container) : Type 0 where
  pub rows : 1 ≤ k.rows
  pub most : k.stored ≤ length columns
  pub defaults : All HasDefaultValue (drop k.stored columns)

-- and its files have names
pub record IsReadable (columns : List ProjColumn) (k : Container) : Type 0 where
  pub of_columns : IsOfColumns columns k
  pub numbers : k.base + 2 * k.stored + 1 < 2 ^ 62
