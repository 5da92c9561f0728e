-- A scan of a projection: which rows are left, and what its next batch gives.
use Rattle.std.specs.Prelude.{ℕ, ◌≡◌, ◌≤◌, ◌<◌, ◌+◌, ◌-◌, ◌*◌, ◌++◌, min, sum_by, Bool, true, false, List, [], length, map, filter, drop, Option, Some, None}
use Rattle.std.specs.List.{All, slice_get}
use Rattle.std.specs.Option.{IfSome, IsSomeAnd, option_map_or}
use Rattle.common_laws.specs.Bags.{SameBag}
use Rattle.common_laws.specs.Maps.{Contents}
use Rattle.col_disk.specs.declared.disk.StoreFault.{StoreFault}
use Rattle.catalog_types.specs.declared.catalogue.Projection.{Projection}
use Rattle.col_value.specs.declared.row.Stamped.{Stamped}
use Rattle.pos_index.specs.Index.{blocks}
use Rattle.ros_container.specs.Encodings.{written_of}
use Rattle.ros_container.specs.Held.{BlamesContainer}
use Rattle.row_history.specs.History.{is_visible, visible}
use Rattle.stored_rows.specs.Stored.{Projected, StoresRows}
use Rattle.row_bounds.specs.Bounds.{within}
use Rattle.row_bounds.specs.declared.bound.Bound.{Bound}
use Rattle.query_cover.specs.Seen.{placed}
use Rattle.exec_scan.specs.Batches.{Shown}
use Rattle.exec_scan.specs.Opened.{Opening, IsOpening, HasOpened}

-- At which epoch which columns are read, which bounds the rows have to lie in, and whether insert epochs are told; the container at hand and
-- how many of its blocks are done; and how many rows in memory.
pub record Place : Type 0 where
  pub epoch : ℕ
  pub places : List (Option ℕ)
  pub bounds : List Bound
  pub stamps : Bool
  pub container : ℕ
  pub block : ℕ
  pub opened : Option Opening
  pub taken : ℕ

abbrev pub start : ℕ → List (Option ℕ) → List Bound → Bool → Place
start epoch places bounds stamps = record { epoch = epoch; places = places; bounds = bounds; stamps = stamps; container = 0; block = 0; opened = None; taken = 0 }

-- a needed column is one of the projection's
abbrev pub AreOwn : Projection → List (Option ℕ) → Type 0
AreOwn p places = All (λ o. IfSome o (λ i. i < length p.columns)) places

-- a scan of a projection of this entry
pub record IsScanOf (p : Projection) (s : Place) : Type 0 where
  pub own : AreOwn p s.places
  pub opening : IfSome s.opened (λ o. IsSomeAnd (slice_get p.containers s.container) (λ k. IsOpening k.rows s.places o × (s.block ≤ blocks k.rows)))
  pub closed : s.opened ≡ None → s.block ≡ 0

-- how many steps of a scan are left
abbrev pub steps_left : Projection → ℕ → Place → ℕ
steps_left p unsaved s = (sum_by (λ k. blocks k.rows + 1) (drop s.container p.containers) - s.block) + (unsaved - s.taken)

-- the container at this place is read as its files are
abbrev pub HasOpenedAt : Projected → ℕ → List (Option ℕ) → Option Contents → Opening → Type 0
HasOpenedAt p i places holds o =
    IsSomeAnd (slice_get p.entry.containers i) (λ k. IsSomeAnd (slice_get p.beside i) (λ b. HasOpened (written_of p.entry) k (length p.entry.columns) b places holds o))

abbrev pub IsAtHand : Option Contents → Projected → Place → Type 0
IsAtHand holds p s = IfSome s.opened (HasOpenedAt p s.container s.places holds)

-- the files of the container at this place are to blame
abbrev pub BlamesContainerAt : Projection → ℕ → Option Contents → StoreFault → Type 0
BlamesContainerAt p i holds fault = IsSomeAnd (slice_get p.containers i) (λ k. BlamesContainer (written_of p) k holds fault)

-- how many rows of the container at hand were handed over
abbrev pub rows_passed : Projection → Place → ℕ
rows_passed p s = option_map_or (λ k. min (1024 * s.block) k.rows) (slice_get p.containers s.container) 0

-- these rows are left of what the projection stores: of its containers, and then those in memory
pub record AreLeft (m : Contents) (p : Projected) (s : Place) (rows : List Stamped) : Type 0 where
  pub saved : List Stamped
  pub stored : StoresRows m (written_of p.entry) (drop s.container p.entry.containers) (drop s.container p.beside) saved
  pub at_hand : IsAtHand (Some m) p s
  pub left : rows ≡ drop (rows_passed p.entry s) saved ++ drop s.taken p.unsaved

-- Of the next rows some were passed over, each of which lies out of the bounds; the batch has the visible ones of the others, made for the
-- table's columns, and their insert epochs where they are told. Without bounds none is passed over.
pub record Shows (s : Place) (next : List Stamped) (b : Shown) : Type 0 where
  pub came : List Stamped
  pub passed : List Stamped
  pub parts : SameBag next (came ++ passed)
  pub out : All (λ a. within s.bounds (placed s.places a.row) ≡ false) passed
  pub rows : b.rows ≡ map (placed s.places) (visible s.epoch came)
  pub inserted : s.stamps ≡ true → b.inserted ≡ map (λ a. a.ins) (filter (is_visible s.epoch) came)
  pub whole : s.bounds ≡ [] → came ≡ next

-- A batch shows the next rows, and the others are left. Where there is none, no row is left.
abbrev pub Gives : Contents → Projected → Place → Place → List Stamped → Option Shown → Type 0
Gives m p old new left None = left ≡ []
Gives m p old new left (Some b) = (next : List Stamped) × (rest : List Stamped) × (left ≡ next ++ rest) × Shows old next b × AreLeft m p new rest

-- what a scan asks for stays
pub record AsksSame (old new : Place) : Type 0 where
  pub epoch : new.epoch ≡ old.epoch
  pub places : new.places ≡ old.places
  pub bounds : new.bounds ≡ old.bounds
  pub stamps : new.stamps ≡ old.stamps
