-- A projection in memory, as it is seen.
use Rattle.std.specs.Prelude.{ℕ, ◌-◌, List, map, vec_len, vec_capacity}
use Rattle.catalog_types.specs.declared.catalogue.Projection.{Projection}
use Rattle.stored_rows.specs.Stored.{Beside, Projected}
use Rattle.write_store.specs.Memory.{Memory}
use Rattle.proj_store.specs.declared.kept.Kept.{Kept}

-- what is kept of a container, and for how many marks more there is room
abbrev pub beside_of : Kept → Beside
beside_of k = record { held = k.held.marks; fresh = k.fresh.items }

abbrev pub room_of : Kept → ℕ
room_of k = vec_capacity k.fresh - vec_len k.fresh

-- a projection, for how many rows more there is room, and for how many marks more of each container
pub record Loaded : Type 0 where
  pub stored : Projected
  pub spare : ℕ
  pub rooms : List ℕ

abbrev pub projected : Projection → List Kept → Memory → Projected
projected entry kept unsaved = record { entry = entry; beside = map beside_of kept; unsaved = unsaved.rows }

abbrev pub seen : Projection → List Kept → Memory → Loaded
seen entry kept unsaved = record { stored = projected entry kept unsaved; spare = unsaved.spare; rooms = map room_of kept }
