-- How many blocks of files a scan reads.
use Rattle.std.specs.Prelude.{ℕ, ◌≡◌, ◌≤◌, ◌<◌, ◌+◌, ◌-◌, ◌*◌, not, sum_by, List, [], ◌∷◌, length, drop, Option, Some, None}
use Rattle.std.specs.List.{AllZip, count_by, range_with_len}
use Rattle.std.specs.Option.{option_map_or}
use Rattle.catalog_types.specs.declared.catalogue.Container.{Container}
use Rattle.catalog_types.specs.declared.catalogue.Projection.{Projection}
use Rattle.col_value.specs.declared.value.Value.{Value}
use Rattle.common_laws.specs.Maps.{Contents}
use Rattle.pos_index.specs.Index.{blocks}
use Rattle.pos_index.specs.declared.index.PosIndex.{PosIndex}
use Rattle.ros_container.specs.Encodings.{default_at, written_of}
use Rattle.row_bounds.specs.declared.bound.Bound.{Bound}
use Rattle.stored_rows.specs.Stored.{Projected}
use Rattle.container_blocks.specs.Blocks.{IsIndexOf, IsIndexOfOne}
use Rattle.container_blocks.specs.Counts.{blocks_read}
use Rattle.exec_scan.specs.Opened.{HoldsAll, IsNeeded}
use Rattle.exec_scan.specs.Passing.{is_passed}
use Rattle.exec_scan.specs.Scanning.{IsAtHand, Place}

-- for a column that is needed in a block: one, where the container stores it
abbrev pub column_cost : ℕ → Container → Option ℕ → ℕ
column_cost columns k place = option_map_or (blocks_read columns k) place 0

-- for a block of a container: those of the needed columns, and that of its epochs
abbrev pub block_cost : ℕ → Container → List (Option ℕ) → ℕ
block_cost columns k places = sum_by (column_cost columns k) places + 1

-- those of the needed columns that weren't read
abbrev pub cost_unread : ℕ → Container → List (Option ℕ) → List (Option (List Value)) → ℕ
cost_unread columns k [] read = 0
cost_unread columns k (p ∷ ps) [] = column_cost columns k p + cost_unread columns k ps []
cost_unread columns k (p ∷ ps) (None ∷ read) = column_cost columns k p + cost_unread columns k ps read
cost_unread columns k (p ∷ ps) (Some vs ∷ read) = cost_unread columns k ps read

-- how many of so many blocks from one on aren't passed over
abbrev pub needed_blocks : List Bound → List (Option PosIndex) → ℕ → ℕ → ℕ
needed_blocks bounds indexes first count = count_by (λ b. not (is_passed bounds indexes b)) (range_with_len first count)

-- the indexes of each container
abbrev pub Indexes : Type 0
Indexes = List (List (Option PosIndex))

-- for the blocks of containers, of the first one those from a block on: each container has these indexes of the needed columns
abbrev pub containers_cost : ℕ → List Bound → List (Option ℕ) → ℕ → List Container → Indexes → ℕ
containers_cost columns bounds places first [] indexes = 0
containers_cost columns bounds places first (k ∷ ks) [] = 0
containers_cost columns bounds places first (k ∷ ks) (x ∷ xs) = needed_blocks bounds x first (blocks k.rows - first) * block_cost columns k places + containers_cost columns bounds places 0 ks xs

-- for what is left of a scan
abbrev pub cost_left : Projection → Indexes → Place → ℕ
cost_left p indexes s = containers_cost (length p.columns) s.bounds s.places s.block (drop s.container p.containers) (drop s.container indexes)

-- for a whole scan
abbrev pub scan_cost : Projection → List Bound → List (Option ℕ) → Indexes → ℕ
scan_cost p bounds places indexes = containers_cost (length p.columns) bounds places 0 p.containers indexes

-- the files of a container hold these indexes of the needed columns
pub record HasIndexes (m : Contents) (p : Projection) (places : List (Option ℕ)) (k : Container) (indexes : List (Option PosIndex)) : Type 0 where
  pub needed : AllZip (IsNeeded k.rows) places indexes
  pub held : HoldsAll (written_of p) k (Some m) places indexes

abbrev pub HaveIndexes : Contents → Projection → List (Option ℕ) → Indexes → Type 0
HaveIndexes m p places indexes = AllZip (HasIndexes m p places) p.containers indexes

-- Where a disk tells its contents: a count goes up by no more than is left of the scan at first and isn't left in the end.
abbrev pub Spends : Option Contents → Projected → Place → Place → ℕ → ℕ → Type 0
Spends holds p old new before after =
    (m : Contents) → holds ≡ Some m → IsAtHand (Some m) p old → (indexes : Indexes) → HaveIndexes m p.entry old.places indexes → after + cost_left p.entry indexes new ≤ before + cost_left p.entry indexes old

-- and by no more than is left at first
abbrev pub SpendsUpto : Option Contents → Projected → Place → ℕ → ℕ → Type 0
SpendsUpto holds p old before after = (m : Contents) → holds ≡ Some m → IsAtHand (Some m) p old → (indexes : Indexes) → HaveIndexes m p.entry old.places indexes → after ≤ before + cost_left p.entry indexes old

-- each column that a container doesn't store has an index of its default
abbrev pub IndexesDefaults : Projection → Container → Type 0
IndexesDefaults p k = (i : ℕ) → k.stored ≤ i → i < length p.columns → (at : PosIndex) × IsIndexOf k.rows at × IsIndexOfOne (default_at (written_of p) i) at
