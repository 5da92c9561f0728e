-- Whether rows are retained, by the epochs that delete them.
use Rattle.std.specs.Prelude.{ℕ, ◌≡◌, ◌+◌, ◌||◌, zero, suc, nat_lt, Bool, true, false, Option, IsSomeAnd}
use Rattle.std.specs.List.{slice_get}
use Rattle.std.specs.Option.{option_map_or}
use Rattle.stored_rows.specs.Stored.{Projected, mark_in}

-- a row with this delete epoch, if it has one, is retained from a mark on
abbrev pub is_kept : ℕ → Option ℕ → Bool
is_kept mark del = option_map_or (λ e. nat_lt mark e) del true

-- one of so many rows from a place on is
abbrev pub keeps_from : ℕ → (ℕ → Option ℕ) → ℕ → ℕ → Bool
keeps_from mark del first zero = false
keeps_from mark del first (suc count) = is_kept mark (del first) || keeps_from mark del (first + 1) count

-- so it is of the container at a place
abbrev pub KeepsAt : ℕ → Projected → ℕ → Bool → Type 0
KeepsAt mark p i keeps = IsSomeAnd (slice_get p.entry.containers i) (λ k. IsSomeAnd (slice_get p.beside i) (λ b. keeps ≡ keeps_from mark (mark_in b) 0 k.rows))
