-- A projection that gets a column, with its default in each row.
use Rattle.std.specs.Prelude.{ℕ, ◌++◌, List, [], ◌∷◌, map, Some}
use Rattle.catalog_types.specs.declared.catalogue.ProjColumn.{ProjColumn}
use Rattle.catalog_types.specs.declared.catalogue.Projection.{Projection}
use Rattle.col_value.specs.declared.kinds.Encoding.TheVariants.{Auto}
use Rattle.col_value.specs.declared.row.Stamped.{Stamped}
use Rattle.col_value.specs.declared.value.Value.{Value}
use Rattle.stored_rows.specs.Stored.{Projected}
use Rattle.write_store.specs.Memory.{with_value}
use Rattle.proj_store.specs.Loaded.{Loaded}
use Rattle.proj_store.specs.Sound.{IsSound}

-- a column of the table that comes when there are rows, each block in its shortest encoding
abbrev pub new_column : ℕ → Value → ProjColumn
new_column ordinal v = record { ordinal = ordinal; encoding = Auto; default = Some v }

abbrev pub with_columns : List ProjColumn → Projection → Projection
with_columns columns p = record p { columns = columns }

-- The projection with the column behind the others. Rows in memory have its default; of rows in containers, which don't store it, the entry
-- tells it.
abbrev pub with_column : ℕ → Value → Projected → Projected
with_column ordinal v p = record p { entry = with_columns (p.entry.columns ++ new_column ordinal v ∷ []) p.entry; unsaved = map (with_value v) p.unsaved }

-- the columns of a wider projection, and its rows in memory
pub record Wider : Type 0 where
  pub columns : List ProjColumn
  pub rows : List Stamped

abbrev pub widened : Wider → Projected → Projected
widened w p = record p { entry = with_columns w.columns p.entry; unsaved = w.rows }

-- with these columns the projection is as it has to be
abbrev pub CanWiden : Wider → Loaded → Type 0
CanWiden w p = IsSound (with_columns w.columns p.stored.entry) p.stored.beside
