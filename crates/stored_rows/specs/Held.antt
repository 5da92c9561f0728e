-- The rows that the files of a projection hold.
use Rattle.std.specs.Prelude.{ℕ, ◌≡◌, ◌<◌, ◌+◌, ◌++◌, max, fold, List, [], ◌∷◌, map, Option, Some, None}
use Rattle.std.specs.List.{All}
use Rattle.std.specs.FinMap.{get}
use Rattle.common_laws.specs.Maps.{Contents}
use Rattle.col_value.specs.declared.row.Asked.{Asked}
use Rattle.col_value.specs.declared.row.Stamped.{Stamped}
use Rattle.row_history.specs.History.{stamped}
use Rattle.catalog_types.specs.declared.catalogue.Container.{Container}
use Rattle.catalog_types.specs.declared.catalogue.Projection.{Projection}
use Rattle.ros_container.specs.Encodings.{Written, written_of}
use Rattle.ros_container.specs.Held.{HoldsContainer}
use Rattle.del_vector.specs.declared.mark.Mark.{Mark}
use Rattle.del_vector.specs.Marks.{epoch_at}
use Rattle.del_vector.specs.Spelling.{spelling, IsSpelled}
use Rattle.stored_rows.specs.Listed.{vector_file}

-- the greatest epoch of some marks, or 0
abbrev pub greatest_epoch : List Mark → ℕ
greatest_epoch marks = fold max 0 (map (λ e. e.epoch) marks)

-- Marks that the delete vector of a container may have: they have a spelling, each is of a row of the container, and the greatest
-- epoch is that of the entry.
pub record IsVectorOf (k : Container) (marks : List Mark) : Type 0 where
  pub spelled : IsSpelled marks
  pub within : All (λ e. e.position < k.rows) marks
  pub greatest : greatest_epoch marks ≡ k.greatest_mark

-- the file of this number is the spelling of these marks; where none is listed, no position is marked
abbrev pub HoldsVectorAt : Contents → Container → Option ℕ → List Mark → Type 0
HoldsVectorAt m k None marks = marks ≡ []
HoldsVectorAt m k (Some n) marks = IsVectorOf k marks × (get m (vector_file n) ≡ Some (spelling marks))

-- the delete vector that is listed for a container has these marks
abbrev pub HoldsVector : Contents → Container → List Mark → Type 0
HoldsVector m k marks = HoldsVectorAt m k k.marks marks

-- rows from a position on, each with the epoch of its mark
abbrev pub stamped_from : ℕ → (ℕ → Option ℕ) → List Asked → List Stamped
stamped_from i mark [] = []
stamped_from i mark (a ∷ rows) = stamped (mark i) a ∷ stamped_from (i + 1) mark rows

-- the files of a container hold these rows, deleted by these marks
abbrev pub HoldsMarked : Contents → List Written → Container → (ℕ → Option ℕ) → List Stamped → Type 0
HoldsMarked m written k mark rows = (asked : List Asked) × HoldsContainer m written k asked × (rows ≡ stamped_from 0 mark asked)

-- the rows of listed containers with their delete vectors, the oldest container first
abbrev pub HoldsRows : Contents → List Written → List Container → List Stamped → Type 0
HoldsRows m written [] rows = rows ≡ []
HoldsRows m written (k ∷ ks) rows =
    (marks : List Mark) × (here : List Stamped) × (more : List Stamped)
    × HoldsVector m k marks × HoldsMarked m written k (epoch_at marks) here × HoldsRows m written ks more × (rows ≡ here ++ more)

-- the rows that the files of a catalogue's projection hold
abbrev pub Holds : Contents → Projection → List Stamped → Type 0
Holds m p rows = HoldsRows m (written_of p) p.containers rows
