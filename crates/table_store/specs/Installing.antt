-- A projection that gets another entry.
use Rattle.std.specs.Prelude.{ℕ, ◌≡◌, List, Option, Some, IsSomeAnd}
use Rattle.std.specs.List.{slice_get}
use Rattle.common_laws.specs.Maps.{Contents}
use Rattle.col_value.specs.declared.row.Stamped.{Stamped}
use Rattle.catalog_types.specs.declared.catalogue.Projection.{Projection}
use Rattle.db_model.specs.Database.{Database}
use Rattle.stored_rows.specs.Held.{Holds}
use Rattle.stored_rows.specs.Stored.{Projected, IsLoaded}
use Rattle.merge_rows.specs.Rewritten.{rewritten_to}
use Rattle.folder_model.specs.Projections.{IsHistoryOf}
use Rattle.sound_laws.specs.Moves.{change_at}

-- an entry is one of the same projection, and up to date
abbrev pub IsRenewal : Projection → Projection → Type 0
IsRenewal old new = new ≡ rewritten_to new.lge new.born new.containers old

abbrev pub IsRenewalAt : List (List Projected) → ℕ → ℕ → Projection → Type 0
IsRenewalAt stores i j entry = IsSomeAnd (slice_get stores i) (λ ps. IsSomeAnd (slice_get ps j) (λ p. IsRenewal p.entry entry))

-- the files of an entry hold, from the ancient history mark on, the rows of the table at a place with its columns
abbrev pub HoldsTable : Contents → ℕ → Projection → Database → Type 0
HoldsTable m i entry d = IsSomeAnd (slice_get d.tables i) (λ u. (held : List Stamped) × Holds m entry held × IsHistoryOf d.ahm entry held u.rows)

-- the projection at a place of the table at a place has this entry, as it is read over these files, and no other changed
pub record PutsEntry (i j : ℕ) (entry : Projection) (found : Option Contents) (old new : List (List Projected)) : Type 0 where
  pub store : Projected
  pub is : store.entry ≡ entry
  pub loaded : (m : Contents) → found ≡ Some m → IsLoaded m store
  pub stores : new ≡ change_at i (change_at j (λ p. store)) old
