-- What is found of rows and of places that aren't good.
use Rattle.std.specs.Prelude.{ℕ, ◌≡◌, ◌+◌, ◌*◌, List, length, Option, Some, None}
use Rattle.std.specs.List.{All, flat_map}
use Rattle.common_laws.specs.Maps.{Contents}
use Rattle.catalog_types.specs.declared.catalogue.Container.{Container}
use Rattle.catalog_types.specs.declared.catalogue.Projection.{Projection}
use Rattle.catalog_types.specs.declared.catalogue.Table.{Table}
use Rattle.col_value.specs.declared.row.Asked.{Asked}
use Rattle.col_value.specs.declared.row.Stamped.{Stamped}
use Rattle.container_blocks.specs.Blocks.{rows_in}
use Rattle.ros_container.specs.Encodings.{written_of}
use Rattle.ros_container.specs.Held.{HoldsContainer}
use Rattle.ros_container.specs.Readable.{IsReadable}
use Rattle.stored_rows.specs.Held.{stamped_from}
use Rattle.audit_model.specs.First.{IsFirst}
use Rattle.audit_model.specs.Listed.{Place, files_in, IsSpelled}
use Rattle.audit_model.specs.Rows.{HoldsHere, IsGoodIn, IsGoodPlaceIn}
use Rattle.audit_model.specs.declared.verdict.Verdict.{Verdict}
use Rattle.audit_model.specs.declared.verdict.Verdict.TheVariants.{Yes, File as Damaged, BadRow, Differ}

-- the first of a list that lacks a property has this number, where the list's first has that one
pub record IsFirstAt {X : Type 0} (P : X → Type 0) (xs : List X) (from pos : ℕ) : Type 0 where
  pub item : X
  pub is : IsFirst P xs item
  pub pos_is : pos ≡ from + length is.before

-- the number of the first that lacks a property, or None where each has it
abbrev pub FindsAt : {X : Type 0} → (X → Type 0) → List X → ℕ → Option ℕ → Type 0
FindsAt P xs from None = All P xs
FindsAt P xs from (Some pos) = IsFirstAt P xs from pos

-- where the container holds rows, the position of the first of block b that isn't good
abbrev pub FindsBlock : Option Contents → ℕ → ℕ → Table → Projection → Container → (ℕ → Option ℕ) → ℕ → Option ℕ → Type 0
FindsBlock holds epoch mark t p k deleted b found =
    (m : Contents) → holds ≡ Some m → (rows : List Asked) → HoldsContainer m (written_of p) k rows → FindsAt (IsGoodIn epoch mark t p) (stamped_from (1024 * b) deleted (rows_in b rows)) (1024 * b) found

-- and of all rows
abbrev pub FindsRows : Option Contents → ℕ → ℕ → Table → Projection → Container → (ℕ → Option ℕ) → Option ℕ → Type 0
FindsRows holds epoch mark t p k deleted found =
    (m : Contents) → holds ≡ Some m → (rows : List Asked) → HoldsContainer m (written_of p) k rows → FindsAt (IsGoodIn epoch mark t p) (stamped_from 0 deleted rows) 0 found

-- and so with the container's delete vector
abbrev pub FindsRow : Option Contents → ℕ → ℕ → Table → Projection → Container → Option ℕ → Type 0
FindsRow holds epoch mark t p k found = (m : Contents) → holds ≡ Some m → (rows : List Stamped) → HoldsHere m p k rows → FindsAt (IsGoodIn epoch mark t p) rows 0 found

-- each file of these places is its spelling
abbrev pub AreSpelled : Contents → List Place → Type 0
AreSpelled m xs = All (IsSpelled m) (flat_map files_in xs)

-- the first row that isn't good, of the first of these places that has one
pub record IsFirstBad (m : Contents) (epoch mark : ℕ) (xs : List Place) (table projection : List ℕ) (base pos : ℕ) : Type 0 where
  pub at : Place
  pub first : IsFirst (IsGoodPlaceIn m epoch mark) xs at
  pub rows : List Stamped
  pub held : HoldsHere m at.projection at.container rows
  pub row : Stamped
  pub bad : IsFirst (IsGoodIn epoch mark at.table at.projection) rows row
  pub table_is : table ≡ at.table.name
  pub projection_is : projection ≡ at.projection.name
  pub base_is : base ≡ at.container.base
  pub pos_is : pos ≡ length bad.before

abbrev pub IsBadOf : Contents → ℕ → ℕ → List Place → Verdict → Type 0
IsBadOf m epoch mark xs (Yes last ahm) = ⊥
IsBadOf m epoch mark xs (Damaged name) = ⊥
IsBadOf m epoch mark xs (BadRow table projection base pos) = IsFirstBad m epoch mark xs table projection base pos
IsBadOf m epoch mark xs (Differ table first second first_count second_count row) = ⊥

-- what is found among some places, where each of their files is its spelling
abbrev pub Finds : Option Contents → ℕ → ℕ → List Place → Option Verdict → Type 0
Finds holds epoch mark xs None = (m : Contents) → holds ≡ Some m → AreSpelled m xs → All (IsGoodPlaceIn m epoch mark) xs
Finds holds epoch mark xs (Some verdict) = (m : Contents) → holds ≡ Some m → AreSpelled m xs → IsBadOf m epoch mark xs verdict

-- the containers of a projection can be read
abbrev pub AreReadable : Projection → Type 0
AreReadable p = All (IsReadable p.columns) p.containers

-- what is found among the places that are left is what is found among all
abbrev pub Ahead : Option Contents → ℕ → ℕ → List Place → List Place → Type 0
Ahead holds epoch mark rest all = (r : Option Verdict) → Finds holds epoch mark rest r → Finds holds epoch mark all r
