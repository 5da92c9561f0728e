-- A projection without the rows that were deleted at or before a mark.
use Rattle.std.specs.Prelude.{ℕ, ◌≡◌, ◌≤◌, ◌<◌, ◌+◌, ◌++◌, true, List, length, Option, Some, IfSome, get_or, None}
use Rattle.std.specs.List.{All}
use Rattle.common_laws.specs.Bags.{SameBag}
use Rattle.common_laws.specs.Maps.{Contents}
use Rattle.col_value.specs.declared.row.Asked.{Asked}
use Rattle.col_value.specs.declared.row.Stamped.{Stamped}
use Rattle.row_history.specs.History.{is_retained, retained}
use Rattle.catalog_types.specs.declared.catalogue.Container.{Container}
use Rattle.catalog_types.specs.declared.catalogue.ProjColumn.{ProjColumn}
use Rattle.catalog_types.specs.declared.catalogue.Projection.{Projection}
use Rattle.ros_container.specs.Encodings.{Written}
use Rattle.ros_container.specs.Readable.{IsReadable}
use Rattle.proj_store.specs.Sound.{HasVectorNumber}
use Rattle.stored_rows.specs.Held.{HoldsVector, HoldsMarked, HoldsRows, Holds, stamped_from}
use Rattle.stored_rows.specs.Stored.{Beside, Projected, mark_in, StoresRows, Stores}
use Rattle.container_writer.specs.Writing.{listed, AreNumbered}
use Rattle.merge_rows.specs.Rewritten.{rewritten_to, reached_by}
use Rattle.moveout_job.specs.OnDisk.{IsBelow}

-- rows with these deletes at their places
abbrev pub stamped_with : List (Option ℕ) → List Asked → List Stamped
stamped_with dels rows = stamped_from 0 (λ i. get_or dels i None) rows

-- a container of a projection with these columns that can be read, with its delete vector
pub record CanLoad (columns : List ProjColumn) (k : Container) : Type 0 where
  pub files : IsReadable columns k
  pub vector : HasVectorNumber k

-- some containers hold the rows that are retained from a mark on, in some order, with numbers below this one
pub record HoldRetained (n : Contents) (mark : ℕ) (written : List Written) (after : ℕ) (js : List Container) (rows : List Stamped) : Type 0 where
  pub held : List Stamped
  pub are : HoldsRows n written js held
  pub bag : SameBag held (retained mark rows)
  pub below : All (IsBelow after) js

-- the rows of a container that are retained from a mark on
abbrev pub HoldsKept : Contents → List Written → ℕ → Container → Beside → List Stamped → Type 0
HoldsKept m written mark k b kept = (rows : List Stamped) × HoldsMarked m written k (mark_in b) rows × (kept ≡ retained mark rows)

-- what of a container's rows is retained, the containers in its place hold
abbrev pub PurgesOne : ℕ → List Written → ℕ → ℕ → Container → Beside → List Container → Option Contents → Option Contents → Type 0
PurgesOne mark written next after k b js found left =
    (m : Contents) (rows : List Stamped) → found ≡ Some m → IsBelow next k → HoldsVector m k b.held → HoldsMarked m written k (mark_in b) rows
    → (n : Contents) × (left ≡ Some n) × HoldRetained n mark written after js rows

-- the same of some containers
abbrev pub PurgesEach : ℕ → List Written → ℕ → ℕ → List Container → List Beside → List Container → Option Contents → Option Contents → Type 0
PurgesEach mark written next after ks bs js found left =
    (m : Contents) (rows : List Stamped) → found ≡ Some m → All (IsBelow next) ks → StoresRows m written ks bs rows
    → (n : Contents) × (left ≡ Some n) × HoldRetained n mark written after js rows

-- an entry holds the rows of a projection that are retained, in some order
abbrev pub Purges : ℕ → Contents → Contents → Projected → Projection → Type 0
Purges mark m n p entry = (stored : List Stamped) → Stores m p stored → (held : List Stamped) × Holds n entry held × SameBag held (retained mark stored)

-- the entry with these containers and one more behind them, if one was made: it has all rows up to the greatest epoch that it holds
abbrev pub purged_to : List Container → Option Container → Projection → Projection
purged_to containers memory old = rewritten_to (reached_by old.lge (containers ++ listed memory)) (old.born + length (listed memory)) (containers ++ listed memory) old

-- all marks that are kept of a container are later than a mark
abbrev pub AreLate : ℕ → Beside → Type 0
AreLate mark b = All (λ e. mark < e.epoch) b.held × All (λ e. mark < e.epoch) b.fresh

-- a projection with no mark, and no delete of a row in memory, at or before a mark: nothing of it is to be purged
pub record IsKeptWhole (mark : ℕ) (p : Projected) : Type 0 where
  pub marks : All (AreLate mark) p.beside
  pub rows : All (λ s. is_retained mark s ≡ true) p.unsaved

-- The entry after a purge: the containers in the places of the old ones, and behind them what was made of the rows in memory, with
-- numbers from `mid` up to `after`.
pub record IsPurged (next after : ℕ) (old new : Projection) : Type 0 where
  pub containers : List Container
  pub memory : Option Container
  pub mid : ℕ
  pub later : next ≤ mid
  pub fewer : length containers ≤ length old.containers
  pub numbers : AreNumbered (length old.columns) mid after memory
  pub level : IfSome memory (λ k. k.level ≡ 0)
  pub is : new ≡ purged_to containers memory old
