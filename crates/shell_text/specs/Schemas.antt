-- The SQL that makes a table and its projections.
use Rattle.std.specs.Prelude.{ℕ, if◌then◌else◌, Bool, true, false, List, [], ◌∷◌, ◌++◌, map, codes, bytes_eq}
use Rattle.std.specs.List.{flat_map, list_any, slice_get}
use Rattle.std.specs.Option.{option_map_or}
use Rattle.std.specs.Fmt.{decimal}
use Rattle.col_value.specs.declared.kinds.ColType.{ColType}
use Rattle.col_value.specs.declared.kinds.Encoding.{Encoding}
use Rattle.col_value.specs.declared.column.Column.{Column}
use Rattle.catalog_types.specs.declared.catalogue.ProjColumn.{ProjColumn}
use Rattle.catalog_types.specs.declared.catalogue.Projection.{Projection}
use Rattle.catalog_types.specs.declared.catalogue.Table.{Table}

-- texts with another one between two of them
abbrev pub behind : List ℕ → List ℕ → List ℕ
behind between text = between ++ text

abbrev pub joined : List ℕ → List (List ℕ) → List ℕ
joined between [] = []
joined between (text ∷ more) = text ++ flat_map (behind between) more

-- the type of a column
abbrev pub type_text : ColType → List ℕ
type_text ColType.Integer = codes "INTEGER"
type_text (ColType.Varchar most) = codes "VARCHAR(" ++ (decimal most ++ codes ")")
type_text ColType.Boolean = codes "BOOLEAN"
type_text ColType.Date = codes "DATE"

abbrev pub null_text : Bool → List ℕ
null_text true = codes " NOT NULL"
null_text false = []

-- a column of CREATE TABLE
abbrev pub column_text : Column → List ℕ
column_text column = column.name ++ (codes " " ++ (type_text column.kind ++ null_text column.not_null))

abbrev pub encoding_text : Encoding → List ℕ
encoding_text Encoding.Auto = []
encoding_text Encoding.Rle = codes " ENCODING RLE"
encoding_text Encoding.DeltaVal = codes " ENCODING DELTAVAL"
encoding_text Encoding.BlockDict = codes " ENCODING BLOCK_DICT"
encoding_text Encoding.Plain = codes " ENCODING PLAIN"

-- the name of a table's column at an index
abbrev pub name_at : List Column → ℕ → List ℕ
name_at columns index = option_map_or (λ column. column.name) (slice_get columns index) []

-- a column of CREATE PROJECTION
abbrev pub part_text : List Column → ProjColumn → List ℕ
part_text columns part = name_at columns part.ordinal ++ encoding_text part.encoding

-- the same in its SELECT
abbrev pub part_name : List Column → ProjColumn → List ℕ
part_name columns part = name_at columns part.ordinal

-- a column that the projection is sorted by, which stands at an index of its columns
abbrev pub sort_name : List Column → List ProjColumn → ℕ → List ℕ
sort_name columns parts index = option_map_or (part_name columns) (slice_get parts index) []

abbrev pub comma : List ℕ
comma = codes ", "

abbrev pub order_text : List (List ℕ) → List ℕ
order_text [] = []
order_text (name ∷ more) = codes " ORDER BY " ++ joined comma (name ∷ more)

abbrev pub end_text : Bool → List ℕ
end_text true = codes ";\n"
end_text false = codes "; -- not up to date\n"

-- CREATE PROJECTION up to its columns
abbrev pub parts_text : Table → Projection → List ℕ
parts_text table projection =
    codes "CREATE PROJECTION " ++ (projection.name ++ (codes " (" ++ (joined comma (map (part_text table.columns) projection.columns) ++ codes ") AS SELECT ")))

-- its SELECT
abbrev pub selected_text : Table → Projection → List ℕ
selected_text table projection = joined comma (map (part_name table.columns) projection.columns) ++ (codes " FROM " ++ table.name)

-- its order and its end
abbrev pub sorted_text : Table → Projection → List ℕ
sorted_text table projection = order_text (map (sort_name table.columns projection.columns) projection.sort) ++ end_text projection.fresh

-- CREATE PROJECTION
abbrev pub projection_text : Table → Projection → List ℕ
projection_text table projection = parts_text table projection ++ (selected_text table projection ++ sorted_text table projection)

-- the projection that comes with a table
abbrev pub is_own : Table → Projection → Bool
is_own table projection = bytes_eq projection.name (table.name ++ codes "_super")

-- a projection of a table; the one that comes with it stands in a comment
abbrev pub shape_text : Table → Projection → List ℕ
shape_text table projection = (if is_own table projection then codes "-- " else []) ++ projection_text table projection

-- CREATE TABLE
abbrev pub columns_text : Table → List ℕ
columns_text table = codes "CREATE TABLE " ++ (table.name ++ (codes " (\n    " ++ (joined (codes ",\n    ") (map column_text table.columns) ++ codes "\n);\n")))

-- that the projection which comes with a table is dropped
abbrev pub drop_line : Table → List ℕ
drop_line table = codes "DROP PROJECTION " ++ (table.name ++ codes "_super;\n")

-- the same, where it was
abbrev pub dropped_text : Table → List ℕ
dropped_text table = if list_any (is_own table) table.projections then [] else drop_line table

-- a table with its projections
abbrev pub table_text : Table → List ℕ
table_text table = columns_text table ++ (flat_map (shape_text table) table.projections ++ dropped_text table)
