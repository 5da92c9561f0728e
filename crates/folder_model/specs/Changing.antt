-- A commit's changes of a projection.
use Rattle.std.specs.Prelude.{ℕ, ◌≡◌, if◌then◌else◌, List, map}
use Rattle.std.specs.List.{AllZip}
use Rattle.std.specs.Bool.{OnTrue, OnFalse}
use Rattle.common_laws.specs.Maps.{Contents}
use Rattle.col_value.specs.declared.value.Value.{Value}
use Rattle.col_value.specs.declared.row.Asked.{Asked}
use Rattle.col_value.specs.declared.row.Stamped.{Stamped}
use Rattle.col_value.specs.Order.{projected}
use Rattle.row_history.specs.History.{inserted_at, asked_on, Takes}
use Rattle.stored_rows.specs.Stored.{Projected, Stores, IsMemoryAbove, with_rows}
use Rattle.folder_model.specs.Projections.{ordinals}

-- rows of the table, with the projection's columns, inserted at an epoch
abbrev pub rows_for : ℕ → List (List Value) → Projected → List Stamped
rows_for epoch new p = map (inserted_at epoch) (map (λ row. projected row (ordinals p.entry)) new)

-- a projection after a commit that inserts rows: one that is up to date has them in memory
abbrev pub inserted_into : ℕ → List (List Value) → Projected → Projected
inserted_into epoch new p = if p.entry.fresh then with_rows (rows_for epoch new p) p else p

-- Of what a projection stores, these rows of the table are deleted at an epoch, with its columns, and no others; its entry is as it was.
pub record TakesRows (m : Contents) (epoch : ℕ) (asked : List Asked) (old new : Projected) : Type 0 where
  pub entry : new.entry ≡ old.entry
  pub rows : (stored : List Stamped) → Stores m old stored → (now : List Stamped) × Stores m new now × Takes epoch (map (asked_on (ordinals old.entry)) asked) stored now
  pub above : IsMemoryAbove old.entry.lge old → IsMemoryAbove old.entry.lge new

-- a projection after a commit that deletes rows of its table
pub record IsDeletedFrom (m : Contents) (epoch : ℕ) (asked : List Asked) (old new : Projected) : Type 0 where
  pub fresh : OnTrue old.entry.fresh (TakesRows m epoch asked old new)
  pub stale : OnFalse old.entry.fresh (new ≡ old)

abbrev pub AreDeletedFrom : Contents → ℕ → List Asked → List Projected → List Projected → Type 0
AreDeletedFrom m epoch asked old new = AllZip (IsDeletedFrom m epoch asked) old new
