-- What a purge leaves.
use Rattle.std.specs.Prelude.{ℕ, ◌≡◌, List, IfSome}
use Rattle.std.specs.List.{slice_get}
use Rattle.stored_rows.specs.Stored.{Projected}
use Rattle.purge_job.specs.Purging.{IsKeptWhole}
use Rattle.sound_laws.specs.Moves.{change_at}

-- no row of the projection at a place, if there is one, was deleted at or before a mark
abbrev pub IsKeptWholeIn : ℕ → ℕ → List Projected → Type 0
IsKeptWholeIn mark j ps = IfSome (slice_get ps j) (IsKeptWhole mark)

-- the same at a place of the table at a place
abbrev pub IsKeptWholeAt : ℕ → ℕ → ℕ → List (List Projected) → Type 0
IsKeptWholeAt mark i j stores = IfSome (slice_get stores i) (IsKeptWholeIn mark j)

-- no projection changed but the one at a place of the table at a place
abbrev pub OthersStay : ℕ → ℕ → List (List Projected) → List (List Projected) → Type 0
OthersStay i j old new = (p : Projected) × (new ≡ change_at i (change_at j (λ q. p)) old)
