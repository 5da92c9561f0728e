-- How many blocks of files a query reads.
use Rattle.std.specs.Prelude.{ℕ, ◌≡◌, ◌≤◌, ◌+◌, ◌⊎◌, List, Option, Some, sum}
use Rattle.std.specs.List.{All, AllZip}
use Rattle.common_laws.specs.Maps.{Contents}
use Rattle.sql_bound.specs.declared.query.FromItem.{FromItem}
use Rattle.sql_bound.specs.declared.query.BoundQuery.{BoundQuery}
use Rattle.row_bounds.specs.Setting.{IsSet}
use Rattle.row_bounds.specs.declared.bound.Bound.{Bound}
use Rattle.stored_rows.specs.Stored.{Projected}
use Rattle.exec_scan.specs.Counting.{scan_cost, HaveIndexes, Indexes}
use Rattle.folder_model.specs.Projections.{ordinals}
use Rattle.store_commit.specs.Seen.{Seen}
use Rattle.store_query.specs.Placing.{ArePlacesOf}
use Rattle.store_query.specs.Taking.{IsTaken}

-- So many blocks, and no more, may be read for a FROM item: of the projection that the choice says those of the columns that the query uses, and of
-- the epochs, that are in none of the bounds missed which conditions set by a constant.
pub record IsReadUpto (m : Contents) (s : Seen) (q : BoundQuery) (f : FromItem) (n : ℕ) : Type 0 where
  pub read : Projected
  pub taken : IsTaken s q f read
  pub places : List (Option ℕ)
  pub used : ArePlacesOf q f.first f.columns (ordinals read.entry) places
  pub most : (bounds : List Bound) (indexes : Indexes) → All (IsSet q.keep f.first f.columns) bounds → HaveIndexes m read.entry places indexes → n ≤ scan_cost read.entry bounds places indexes

-- none, or so many
abbrev pub ReadsOf : Contents → Seen → BoundQuery → FromItem → ℕ → Type 0
ReadsOf m s q f n = (n ≡ 0) ⊎ IsReadUpto m s q f n

-- Where a disk tells its contents, a count goes up by no more than what is read for each of some FROM items.
pub record ReadsEach (m : Contents) (s : Seen) (q : BoundQuery) (items : List FromItem) (before after : ℕ) : Type 0 where
  pub reads : List ℕ
  pub each : AllZip (ReadsOf m s q) items reads
  pub most : after ≤ before + sum reads

abbrev pub Counts : Option Contents → Seen → BoundQuery → List FromItem → ℕ → ℕ → Type 0
Counts holds s q items before after = (m : Contents) → holds ≡ Some m → ReadsEach m s q items before after
