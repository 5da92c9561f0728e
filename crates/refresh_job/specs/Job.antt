-- A refresh, as it is seen.
use Rattle.std.specs.Prelude.{ℕ, ◌≡◌, ◌+◌, ◌++◌, List, length, map, Option}
use Rattle.common_laws.specs.Bags.{SameBag}
use Rattle.common_laws.specs.Maps.{Contents}
use Rattle.col_value.specs.declared.row.Stamped.{Stamped}
use Rattle.row_history.specs.History.{retained, asked_on, on_columns}
use Rattle.catalog_types.specs.declared.catalogue.Projection.{Projection}
use Rattle.stored_rows.specs.Held.{Holds}
use Rattle.stored_rows.specs.Stored.{Projected, Stores, StoresRows}
use Rattle.ros_container.specs.Encodings.{written_of}
use Rattle.container_writer.specs.Writing.{listed, AreNumbered}
use Rattle.catalog_types.specs.declared.catalogue.Container.{Container}
use Rattle.merge_rows.specs.Places.{asked_of, rows_at, TakesPlaces}
use Rattle.merge_rows.specs.Rewritten.{rewritten_to}
use Rattle.container_draft.specs.Draft.{Drafted}
use Rattle.container_draft.specs.Finished.{AreFinished}

-- The rows that a refresh writes: those of its source's containers, but for rows deleted at or before its mark, with the columns of the
-- new projection, which stand at these places of the source's.
pub record Refreshing : Type 0 where
  pub mark : ℕ
  pub via : List ℕ
  pub draft : Drafted

abbrev pub seen : ℕ → List ℕ → Drafted → Refreshing
seen mark via draft = record { mark = mark; via = via; draft = draft }

-- Whatever rows the containers of the source have, these are written of them.
pub record IsRefreshing (m : Contents) (source : Projected) (r : Refreshing) : Type 0 where
  pub taken : (stored : List Stamped) → StoresRows m (written_of source.entry) source.entry.containers source.beside stored → TakesPlaces r.mark stored r.draft.places
  pub rows : (stored : List Stamped) → StoresRows m (written_of source.entry) source.entry.containers source.beside stored → r.draft.rows ≡ map (λ s. asked_on r.via (asked_of s)) (rows_at stored r.draft.places)

-- the entry of a stale projection holds, from a mark on, what its source stores, with its own columns
abbrev pub RefreshesFrom : ℕ → List ℕ → Contents → Contents → Projected → Projection → Type 0
RefreshesFrom a via m n source entry = (stored : List Stamped) → Stores m source stored → (held : List Stamped) × Holds n entry held × SameBag (retained a held) (map (on_columns via) (retained a stored))

-- The entry after a refresh: the rows of the source's containers, whose delete vector has the number `next`, and behind them those that
-- were in its memory, with numbers up to `after`; it is up to date up to an epoch.
pub record IsRefreshed (last next after : ℕ) (r : Refreshing) (old new : Projection) : Type 0 where
  pub first : Option Container
  pub later : Option Container
  pub mid : ℕ
  pub output : AreFinished (length old.columns) 0 next mid r.draft first
  pub numbers : AreNumbered (length old.columns) mid after later
  pub is : new ≡ rewritten_to last (old.born + length (listed first ++ listed later)) (listed first ++ listed later) old
