-- Which rows are written, by their deletes.
use Rattle.std.specs.Prelude.{ℕ, nat_lt, if◌then◌else◌, Bool, true, List, [], ◌∷◌, map, filter, get_or, length, Option, None}
use Rattle.std.specs.Option.{option_map_or}
use Rattle.std.specs.List.{range_with_len}
use Rattle.del_vector.specs.declared.mark.Mark.{Mark}
use Rattle.stored_rows.specs.Stored.{Beside}

-- marks of a delete vector, and those that came since
abbrev pub beside_of : List Mark → List Mark → Beside
beside_of held fresh = record { held = held; fresh = fresh }

abbrev pub is_kept : ℕ → Option ℕ → Bool
is_kept mark del = option_map_or (λ e. nat_lt mark e) del true

-- the places of those that are retained from a mark on
abbrev pub kept_of : ℕ → List (Option ℕ) → List ℕ
kept_of mark dels = filter (λ i. is_kept mark (get_or dels i None)) (range_with_len 0 (length dels))

-- the deletes at some places
abbrev pub dels_at : List (Option ℕ) → List ℕ → List (Option ℕ)
dels_at dels places = map (λ i. get_or dels i None) places

-- a place, where it is kept
abbrev pub listed_if : Bool → ℕ → List ℕ
listed_if keep place = if keep then place ∷ [] else []
