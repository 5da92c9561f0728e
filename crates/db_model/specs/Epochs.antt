-- The last good epoch, and a database as it was at an epoch.
use Rattle.std.specs.Prelude.{ℕ, Bool, nat_lt, min, fold, if◌then◌else◌, List, [], ◌∷◌, map, filter}
use Rattle.std.specs.List.{flat_map}
use Rattle.row_history.specs.History.{cut_rows}
use Rattle.db_model.specs.Database.{Shape, Table, Database}

-- the projections of all tables
abbrev pub all_shapes : List Table → List Shape
all_shapes tables = flat_map (λ t. t.shapes) tables

abbrev pub least_or : ℕ → List ℕ → ℕ
least_or other [] = other
least_or other (n ∷ ns) = fold min n ns

-- The last good epoch: the least of the epochs up to which an up-to-date projection has all its data on disk, or the newest closed epoch
-- where no projection is up to date.
abbrev pub last_good : Database → ℕ
last_good d = least_or d.last (map (λ s. s.lge) (filter (λ s. s.fresh) (all_shapes d.tables)))

-- the ancient history mark rises to a later epoch
abbrev pub rises : ℕ → Database → Bool
rises mark d = nat_lt d.ahm mark

-- a projection that is up to date has all its rows on disk up to the epoch
abbrev pub moved_shape : ℕ → Shape → Shape
moved_shape last s = if s.fresh then record s { lge = last } else s

abbrev pub cut_table : ℕ → Table → Table
cut_table epoch t = record t { rows = cut_rows epoch t.rows; shapes = map (moved_shape epoch) t.shapes }

-- A database cut at an epoch: later rows are gone and later deletes undone, and the epoch is the newest and all data on disk up to it.
abbrev pub cut : ℕ → Database → Database
cut epoch d = record d { tables = map (cut_table epoch) d.tables; last = epoch }
