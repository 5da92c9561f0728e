-- What reading a block of a container gives.
use Rattle.std.specs.Prelude.{ℕ, ◌≡◌, ◌<◌, nat_le, Bool, true, false, List, map, Option, Some, None, slice_index_or}
use Rattle.std.specs.List.{range_with_len, slice_get}
use Rattle.std.specs.Option.{IfSome}
use Rattle.catalog_types.specs.declared.catalogue.Container.{Container}
use Rattle.common_laws.specs.Maps.{Contents}
use Rattle.col_value.specs.declared.row.Asked.{Asked}
use Rattle.col_value.specs.declared.value.Value.{Value}
use Rattle.col_value.specs.declared.value.Value.TheVariants as value
use Rattle.ros_container.specs.Encodings.{Written}
use Rattle.ros_container.specs.Held.{HoldsContainer}
use Rattle.stored_rows.specs.Held.{stamped_from}
use Rattle.container_blocks.specs.Blocks.{rows_in}
use Rattle.row_bounds.specs.Bounds.{lies_in, within}
use Rattle.row_bounds.specs.declared.bound.Bound.{Bound}
use Rattle.query_cover.specs.Seen.{placed}
use Rattle.exec_scan.specs.Batches.{row_of, Shown}
use Rattle.exec_scan.specs.Scanning.{Shows, start}

-- where a disk tells its contents, and the container holds rows, P holds of the rows of block b
abbrev pub OfBlock : (List Asked → Type 0) → Option Contents → List Written → Container → ℕ → Type 0
OfBlock P holds written k b = (m : Contents) → holds ≡ Some m → (rows : List Asked) → HoldsContainer m written k rows → P (rows_in b rows)

-- by these epochs the same rows were inserted up to an epoch
abbrev pub AreInserted : ℕ → List ℕ → List Asked → Type 0
AreInserted epoch inserted rows = (i : ℕ) → nat_le (slice_index_or inserted i 0) epoch ≡ nat_le (slice_index_or (map (λ a. a.ins) rows) i 0) epoch

-- where they are told, these are the epochs that inserted the rows
abbrev pub AreTold : Bool → List ℕ → List Asked → Type 0
AreTold stamps inserted rows = stamps ≡ true → inserted ≡ map (λ a. a.ins) rows

-- the values of rows at a place
abbrev pub values_at : ℕ → List Asked → List Value
values_at place rows = map (λ a. slice_index_or a.row place value.Null) rows

-- those of a column, where it is needed
abbrev pub column_of : Option ℕ → List Asked → Option (List Value)
column_of None rows = None
column_of (Some place) rows = Some (values_at place rows)

abbrev pub IsColumn : Option ℕ → Option (List Value) → List Asked → Type 0
IsColumn place column rows = column ≡ column_of place rows

-- what was read of the table's columns are the values of the rows
abbrev pub AreColumns : List (Option ℕ) → List (Option (List Value)) → List Asked → Type 0
AreColumns places columns rows = (c : ℕ) → IfSome (slice_index_or columns c None) (λ vs. column_of (slice_index_or places c None) rows ≡ Some vs)

-- the column at a place was read, where it is needed, and the others are as they were
pub record Fills (column : ℕ) (places : List (Option ℕ)) (old new : List (Option (List Value))) (rows : List Asked) : Type 0 where
  pub here : AreColumns places old rows → IsColumn (slice_index_or places column None) (slice_index_or new column None) rows
  pub others : (c : ℕ) → (c ≡ column → ⊥) → slice_index_or new c None ≡ slice_index_or old c None

-- what was read of the columns before the place `upto` are all that are needed of them
pub record AreFilled (places : List (Option ℕ)) (upto : ℕ) (columns : List (Option (List Value))) (rows : List Asked) : Type 0 where
  pub read : AreColumns places columns rows
  pub whole : (c : ℕ) → c < upto → IsColumn (slice_index_or places c None) (slice_index_or columns c None) rows

-- the first rows
abbrev pub rows_of : List (Option (List Value)) → ℕ → List (List Value)
rows_of columns count = map (row_of columns) (range_with_len 0 count)

-- the rows that are alive have these values in the table's columns
abbrev pub HaveRows : List (Option ℕ) → List Bool → List (Option (List Value)) → List Asked → Type 0
HaveRows places alive columns rows = (i : ℕ) → slice_index_or alive i false ≡ true → IfSome (slice_get rows i) (λ a. row_of columns i ≡ placed places a.row)

-- a row stays alive, or its value lies out of a bound; no other row comes
pub record Stays (bound : Bound) (v : Value) (old new : Bool) : Type 0 where
  pub only : new ≡ true → old ≡ true
  pub gone : old ≡ true → new ≡ false → lies_in bound v ≡ false

-- the same of rows with these values in the bound's column, where it was read
abbrev pub RulesOut : Bound → Option (List Value) → List Bool → List Bool → Type 0
RulesOut bound None old new = new ≡ old
RulesOut bound (Some vs) old new = (i : ℕ) → Stays bound (slice_index_or vs i value.Null) (slice_index_or old i false) (slice_index_or new i false)

-- a row stays alive, or it lies out of the bounds, made for the table's columns; no other row comes
pub record Narrows (bounds : List Bound) (places : List (Option ℕ)) (old new : List Bool) (rows : List Asked) : Type 0 where
  pub only : (i : ℕ) → slice_index_or new i false ≡ true → slice_index_or old i false ≡ true
  pub gone : (i : ℕ) → slice_index_or old i false ≡ true → slice_index_or new i false ≡ false → IfSome (slice_get rows i) (λ a. within bounds (placed places a.row) ≡ false)

-- rows are narrowed, by columns that were read of them
pub record Narrowed (bounds : List Bound) (places : List (Option ℕ)) (columns : List (Option (List Value))) (old new : List Bool) (rows : List Asked) : Type 0 where
  pub read : AreColumns places columns rows
  pub narrows : Narrows bounds places old new rows

-- so they are where some columns were read before
abbrev pub NarrowsBy : List Bound → List (Option ℕ) → List (Option (List Value)) → List (Option (List Value)) → List Bool → List Bool → List Asked → Type 0
NarrowsBy bounds places read columns old new rows = AreColumns places read rows → Narrowed bounds places columns old new rows

-- and the columns before the place `upto` are read in addition
abbrev pub FillsUpto : List (Option ℕ) → ℕ → List (Option (List Value)) → List (Option (List Value)) → List Asked → Type 0
FillsUpto places upto read columns rows = AreColumns places read rows → AreFilled places upto columns rows

-- the rows that are alive have their values in columns
abbrev pub FillsRows : List (Option ℕ) → List Bool → List (Option (List Value)) → List (Option (List Value)) → List Asked → Type 0
FillsRows places alive read columns rows = AreColumns places read rows → HaveRows places alive columns rows

-- rows are narrowed, and those that are alive have their values in columns
pub record ReadsAlive (bounds : List Bound) (places : List (Option ℕ)) (old new : List Bool) (columns : List (Option (List Value))) (rows : List Asked) : Type 0 where
  pub narrows : Narrows bounds places old new rows
  pub alive : HaveRows places new columns rows

-- A batch shows the rows of a block, the first of which stands at a place: the visible ones, made for the table's columns, as far as they
-- aren't passed over.
abbrev pub ShowsRows : ℕ → List (Option ℕ) → List Bound → Bool → (ℕ → Option ℕ) → ℕ → Shown → List Asked → Type 0
ShowsRows epoch places bounds stamps mark first shown rows = Shows (start epoch places bounds stamps) (stamped_from first mark rows) shown
