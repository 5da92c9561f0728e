-- A projection that comes, and one that goes.
use Rattle.std.specs.Prelude.{ℕ, ◌≡◌, ◌+◌, if◌then◌else◌, [], IsSomeAnd}
use Rattle.std.specs.List.{insert, remove, slice_get}
use Rattle.catalog_types.specs.declared.catalogue.Projection.{Projection}
use Rattle.catalog_types.specs.declared.catalogue.Table as kept
use Rattle.catalog_types.specs.declared.catalogue.Catalogue.{Catalogue}
use Rattle.row_history.specs.History.{retained}
use Rattle.db_model.specs.Database.{Database, Shape, Table}
use Rattle.db_model.specs.Events.{put_shape}
use Rattle.folder_model.specs.Projections.{shape_of}
use Rattle.sound_laws.specs.Moves.{change_at}
use Rattle.table_store.specs.declared.shaping.NewProjection.{NewProjection}

-- a projection without containers, which has all rows up to an epoch, or is stale
abbrev pub new_entry : NewProjection → ℕ → Projection
new_entry p last = record { name = p.name; columns = p.columns; sort = p.sort; fresh = p.fresh; lge = if p.fresh then last else 0; born = 0; containers = [] }

-- a table with one projection more
abbrev pub with_projection : ℕ → Projection → kept.Table → kept.Table
with_projection place p t = record t { projections = insert t.projections place p }

-- the catalogue where the table at a place has one projection more, whose version is the next number
abbrev pub with_projection_at : ℕ → ℕ → ℕ → Projection → Catalogue → Catalogue
with_projection_at last i place p c = record { last = last; ahm = c.ahm; next = c.next + 1; tables = change_at i (with_projection place p) c.tables }

-- a table with one shape more, and a database where the table at a place has it
abbrev pub shaped_in : Shape → Table → Table
shaped_in s t = record t { shapes = put_shape s t.shapes }

abbrev pub shaped_at : ℕ → Shape → Database → Database
shaped_at i s d = record d { tables = change_at i (shaped_in s) d.tables }

-- the shape of a new projection
abbrev pub new_shape : NewProjection → ℕ → Shape
new_shape p last = shape_of (new_entry p last)

-- the table at a place retains no row from the ancient history mark on
abbrev pub RetainsNone : ℕ → Database → Type 0
RetainsNone i d = IsSomeAnd (slice_get d.tables i) (λ t. retained d.ahm t.rows ≡ [])

-- a table with one projection less
abbrev pub without_projection : ℕ → kept.Table → kept.Table
without_projection place t = record t { projections = remove t.projections place }

-- the catalogue where the table at a place has one projection less, whose version is the next number
abbrev pub without_projection_at : ℕ → ℕ → ℕ → Catalogue → Catalogue
without_projection_at last i place c = record { last = last; ahm = c.ahm; next = c.next + 1; tables = change_at i (without_projection place) c.tables }

-- a table with one shape less, and a database where the table at a place lacks it
abbrev pub unshaped_in : ℕ → Table → Table
unshaped_in place t = record t { shapes = remove t.shapes place }

abbrev pub unshaped_at : ℕ → ℕ → Database → Database
unshaped_at i place d = record d { tables = change_at i (unshaped_in place) d.tables }
