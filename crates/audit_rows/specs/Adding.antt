-- What is collected of the rows of a container, in some of its columns.
use Rattle.std.specs.Prelude.{ℕ, ◌≡◌, ◌++◌, ◌*◌, List, map, Option, Some}
use Rattle.common_laws.specs.Maps.{Contents}
use Rattle.catalog_types.specs.declared.catalogue.Container.{Container}
use Rattle.catalog_types.specs.declared.catalogue.Projection.{Projection}
use Rattle.col_value.specs.declared.row.Asked.{Asked}
use Rattle.col_value.specs.declared.row.Stamped.{Stamped}
use Rattle.container_blocks.specs.Blocks.{rows_in}
use Rattle.ros_container.specs.Encodings.{written_of}
use Rattle.ros_container.specs.Held.{HoldsContainer}
use Rattle.row_history.specs.History.{on_columns}
use Rattle.stored_rows.specs.Held.{stamped_from}
use Rattle.audit_model.specs.Rows.{judged_in, HoldsHere}

-- what is judged of rows from a position on, in some columns
abbrev pub judged_on : List ℕ → ℕ → ℕ → ℕ → (ℕ → Option ℕ) → List Asked → List Stamped
judged_on columns epoch mark first deleted rows = map (on_columns columns) (judged_in epoch mark (stamped_from first deleted rows))

-- where the container holds rows, those of block b that are judged joined the old ones
abbrev pub AddsBlock : Option Contents → Projection → Container → List ℕ → ℕ → (ℕ → Option ℕ) → ℕ → ℕ → List Stamped → List Stamped → Type 0
AddsBlock holds p k columns b deleted epoch mark old new =
    (m : Contents) → holds ≡ Some m → (rows : List Asked) → HoldsContainer m (written_of p) k rows → new ≡ old ++ judged_on columns epoch mark (1024 * b) deleted (rows_in b rows)

-- all rows that are judged did
abbrev pub AddsRows : Option Contents → Projection → Container → List ℕ → (ℕ → Option ℕ) → ℕ → ℕ → List Stamped → List Stamped → Type 0
AddsRows holds p k columns deleted epoch mark old new =
    (m : Contents) → holds ≡ Some m → (rows : List Asked) → HoldsContainer m (written_of p) k rows → new ≡ old ++ judged_on columns epoch mark 0 deleted rows

-- and so with the container's delete vector
abbrev pub Adds : Option Contents → Projection → Container → List ℕ → ℕ → ℕ → List Stamped → List Stamped → Type 0
Adds holds p k columns epoch mark old new =
    (m : Contents) → holds ≡ Some m → (rows : List Stamped) → HoldsHere m p k rows → new ≡ old ++ map (on_columns columns) (judged_in epoch mark rows)
