-- Containers that are cut between two moments of a disk.
use Rattle.std.specs.Prelude.{ℕ, ◌≡◌, List, Option, Some}
use Rattle.common_laws.specs.Bags.{SameBag}
use Rattle.common_laws.specs.Maps.{Contents}
use Rattle.col_value.specs.declared.row.Stamped.{Stamped}
use Rattle.row_history.specs.History.{cut_rows}
use Rattle.catalog_types.specs.declared.catalogue.Container.{Container}
use Rattle.stored_rows.specs.Held.{HoldsRows}
use Rattle.ros_container.specs.Encodings.{Written}

-- the rows that the old files of some containers hold, cut at an epoch, are in the new files of others
abbrev pub CutsContainers : List Written → ℕ → List Container → List Container → Contents → Contents → Type 0
CutsContainers written epoch ks js m n =
    (old : List Stamped) → HoldsRows m written ks old → (new : List Stamped) × HoldsRows n written js new × SameBag new (cut_rows epoch old)

-- what holds of the contents that a disk held and those that it holds
abbrev pub Between : (Contents → Contents → Type 0) → Option Contents → Option Contents → Type 0
Between P found left = (m n : Contents) → found ≡ Some m → left ≡ Some n → P m n
