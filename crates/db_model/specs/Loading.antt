-- What the outside gives to statements: load files.
use Rattle.std.specs.Prelude.{ℕ, List, Option, map}
use Rattle.col_value.specs.declared.value.Value.{Value}
use Rattle.col_value.specs.declared.column.Column.{Column}
use Rattle.load_reader.specs.declared.fields.LoadColumn.{LoadColumn}
use Rattle.load_reader.specs.Load.{FileLoad, LoadsFile}

-- the bytes of each load file, by its name
abbrev pub Files : Type 0
Files = List ℕ → Option (List ℕ)

-- what a load file is read as: rows, or the number of the first wrong record and of its first wrong field, each from 1
pub data Load : Type 0 where
  Rows : List (List Value) → Load
  Wrong : ℕ → ℕ → Load

-- a column as the reader of load files sees it
abbrev pub load_column : Column → LoadColumn
load_column c = record { kind = c.kind; not_null = c.not_null }

-- How the bytes of a load file are read into columns: its records in their order, each field in its column.
abbrev pub Loads : List Column → List ℕ → Load → Type 0
Loads columns bytes (Load.Rows rows) = LoadsFile (map load_column columns) bytes (FileLoad.Rows rows)
Loads columns bytes (Load.Wrong line field) = LoadsFile (map load_column columns) bytes (FileLoad.BadRecord line field)
