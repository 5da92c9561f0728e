-- A table that comes, and where it stands; one that goes; and a later ancient history mark.
use Rattle.std.specs.Prelude.{ℕ, ◌+◌, if◌then◌else◌, true, List, [], ◌∷◌, map, filter, None}
use Rattle.std.specs.List.{enumerate_from, insert, remove}
use Rattle.std.specs.Ordering.{is_lt, nat_cmp}
use Rattle.std.specs.Cmp.Lexicographic.{slice_cmp}
use Rattle.col_value.specs.declared.column.Column.{Column}
use Rattle.col_value.specs.declared.kinds.Encoding.{Encoding}
use Rattle.catalog_types.specs.declared.catalogue.ProjColumn.{ProjColumn}
use Rattle.catalog_types.specs.declared.catalogue.Projection.{Projection}
use Rattle.catalog_types.specs.declared.catalogue.Table as kept
use Rattle.catalog_types.specs.declared.catalogue.Catalogue.{Catalogue}
use Rattle.stored_rows.specs.Stored.{Projected}
use Rattle.db_model.specs.Database.{Database, super_name, put_table}
use Rattle.db_model.specs.Events.{empty_table, is_not_named}

-- the projection of all columns, sorted by all, each block in its shortest encoding
abbrev pub whole_column : ℕ × Column → ProjColumn
whole_column e = record { ordinal = e.0; encoding = Encoding.Auto; default = None }

abbrev pub first_entry : List ℕ → List Column → ℕ → Projection
first_entry name columns last = record {
  name = name;
  columns = map whole_column (enumerate_from 0 columns);
  sort = map (λ e. e.0) (enumerate_from 0 columns);
  fresh = true;
  lge = last;
  born = 0;
  containers = [];
}

abbrev pub first_table : List ℕ → List Column → ℕ → kept.Table
first_table name columns last = record { name = name; columns = columns; projections = first_entry (super_name name) columns last ∷ [] }

-- a projection without containers, of which nothing is in memory
abbrev pub bare : Projection → Projected
bare entry = record { entry = entry; beside = []; unsaved = [] }

-- how many names stand before the first greater one
abbrev pub place_of : List ℕ → List (List ℕ) → ℕ
place_of name [] = 0
place_of name (n ∷ ns) = if is_lt (slice_cmp nat_cmp name n) then 0 else place_of name ns + 1

-- the catalogue with one table more, whose version is the next number
abbrev pub with_table : ℕ → ℕ → kept.Table → Catalogue → Catalogue
with_table last place t c = record { last = last; ahm = c.ahm; next = c.next + 1; tables = insert c.tables place t }

-- a database with one table more
abbrev pub created : List ℕ → List Column → Database → Database
created name columns d = record d { tables = put_table (empty_table name columns d.last) d.tables }

-- the catalogue without the table at a place, whose version is the next number
abbrev pub without_table : ℕ → ℕ → Catalogue → Catalogue
without_table last place c = record { last = last; ahm = c.ahm; next = c.next + 1; tables = remove c.tables place }

-- the catalogue with another ancient history mark, whose version is the next number
abbrev pub with_mark : ℕ → ℕ → Catalogue → Catalogue
with_mark last mark c = record { last = last; ahm = mark; next = c.next + 1; tables = c.tables }

-- a database without the table of a name
abbrev pub dropped : List ℕ → Database → Database
dropped name d = record d { tables = filter (λ t. is_not_named name t.name) d.tables }
