-- A table that gets a column.
use Rattle.std.specs.Prelude.{ℕ, ◌≡◌, ◌+◌, ◌++◌, if◌then◌else◌, Bool, List, [], ◌∷◌, length, map, Option, Some, None}
use Rattle.std.specs.List.{enumerate_from}
use Rattle.catalog_types.specs.declared.catalogue.Projection.{Projection}
use Rattle.catalog_types.specs.declared.catalogue.Table as kept
use Rattle.catalog_types.specs.declared.catalogue.Catalogue.{Catalogue}
use Rattle.col_value.specs.declared.column.Column.{Column}
use Rattle.col_value.specs.declared.value.Value.{Value}
use Rattle.stored_rows.specs.Stored.{Projected}
use Rattle.proj_store.specs.Loaded.{Loaded}
use Rattle.proj_store.specs.Widening.{Wider, CanWiden, new_column, with_column, with_columns}
use Rattle.proj_store.specs.Widening as store
use Rattle.db_model.specs.Database.{Database, has_columns}
use Rattle.db_model.specs.Events.{widened}
use Rattle.folder_model.specs.Projections.{shape_of}
use Rattle.sound_laws.specs.Moves.{change_at}

-- a projection has all of these columns of its table
abbrev pub has_all : List Column → Projection → Bool
has_all columns p = has_columns (shape_of p) (map (λ e. e.0) (enumerate_from 0 columns))

-- a projection that has all columns of its table gets the next one, too
abbrev pub wide_entry : List Column → Value → Projection → Projection
wide_entry columns v p = if has_all columns p then with_columns (p.columns ++ new_column (length columns) v ∷ []) p else p

abbrev pub wide_part : List Column → Value → Projected → Projected
wide_part columns v p = if has_all columns p.entry then with_column (length columns) v p else p

abbrev pub wide_parts : List Column → Value → List Projected → List Projected
wide_parts columns v ps = map (wide_part columns v) ps

-- a table with one column more
abbrev pub wide_table : Column → Value → kept.Table → kept.Table
wide_table c v t = record t { columns = t.columns ++ c ∷ []; projections = map (wide_entry t.columns v) t.projections }

-- the catalogue where the table at a place has one column more, whose version is the next number
abbrev pub with_column_at : ℕ → ℕ → Column → Value → Catalogue → Catalogue
with_column_at last i c v root = record { last = last; ahm = root.ahm; next = root.next + 1; tables = change_at i (wide_table c v) root.tables }

-- a database where the table at a place has one column more
abbrev pub widened_at : ℕ → Column → Value → Database → Database
widened_at i c v d = record d { tables = change_at i (widened c v) d.tables }

-- what is ready for a projection, done to it; nothing is done to one that doesn't get the column
abbrev pub widened_by : Option Wider → Projected → Projected
widened_by None p = p
widened_by (Some w) p = store.widened w p

abbrev pub CanTake : Option Wider → Loaded → Type 0
CanTake None p = Unit {0}
CanTake (Some w) p = CanWiden w p

-- it is ready for a column of this default behind these of the table
abbrev pub IsWidening : List Column → Value → Projected → Option Wider → Type 0
IsWidening columns v p o = widened_by o p ≡ wide_part columns v p
