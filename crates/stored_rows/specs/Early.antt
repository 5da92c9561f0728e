-- Rows, and the containers that hold them, of which nothing is later than an epoch.
use Rattle.std.specs.Prelude.{ℕ, ◌≡◌, ◌≤◌}
use Rattle.col_value.specs.declared.row.Stamped.{Stamped}
use Rattle.row_history.specs.History.{cut_delete}
use Rattle.catalog_types.specs.declared.catalogue.Container.{Container}

-- a row that was inserted, and deleted if it is, up to an epoch
abbrev pub IsUpTo : ℕ → Stamped → Type 0
IsUpTo epoch s = (s.ins ≤ epoch) × (cut_delete epoch s.del ≡ s.del)

-- a container that has no epoch after this one
abbrev pub EndsBy : ℕ → Container → Type 0
EndsBy epoch k = (k.greatest_epoch ≤ epoch) × (k.greatest_mark ≤ epoch)
