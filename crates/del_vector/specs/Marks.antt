-- Marks: which positions are deleted, each with the epoch of the commit that deleted it.
use Rattle.std.specs.Prelude.{◌≡◌, ◌≤◌, ℕ, suc, ◌+◌, ◌==◌, ◌&&◌, not, nat_le, nat_lt, ◌⊎◌, if◌then◌else◌, Bool, true, List, [], ◌∷◌, filter, find, Option, Some, None, option_map}
use Rattle.std.specs.Option.{option_or}
use Rattle.del_vector.specs.declared.mark.Mark.{Mark}

-- Marks at or behind a position, in ascending order; no position stands twice, and epochs are at least 1.
abbrev pub are_marks : ℕ → List Mark → Bool
are_marks from [] = true
are_marks from (m ∷ ms) = not (nat_lt m.position from) && (nat_lt 0 m.epoch && are_marks (m.position + 1) ms)

abbrev pub AreMarks : List Mark → Type 0
AreMarks ms = are_marks 0 ms ≡ true

-- the epoch in which a position was deleted, if it was
abbrev pub epoch_at : List Mark → ℕ → Option ℕ
epoch_at ms position = option_map (λ m. m.epoch) (find (λ m. m.position == position) ms)

-- marks with one more, at its place
abbrev pub with_mark : Mark → List Mark → List Mark
with_mark n [] = n ∷ []
with_mark n (m ∷ ms) = if nat_lt m.position n.position then m ∷ with_mark n ms else n ∷ (m ∷ ms)

-- the marks up to an epoch
abbrev pub marks_upto : ℕ → List Mark → List Mark
marks_upto epoch ms = filter (λ m. nat_le m.epoch epoch) ms

-- no position is marked in both
abbrev pub AreApart : List Mark → List Mark → Type 0
AreApart ms ns = (position : ℕ) → (epoch_at ms position ≡ None) ⊎ (epoch_at ns position ≡ None)

-- marks that are those of two vectors
abbrev pub IsMerged : List Mark → List Mark → List Mark → Type 0
IsMerged ms ns both = (position : ℕ) → epoch_at both position ≡ option_or (epoch_at ms position) (epoch_at ns position)

-- a vector: its marks, and for how many more there is room
pub record Vector : Type 0 where
  pub marks : List Mark
  pub spare : ℕ

abbrev pub seen : List Mark → ℕ → Vector
seen marks spare = record { marks = marks; spare = spare }

-- an epoch, where it isn't later than this one
abbrev pub cut_epoch : ℕ → Option ℕ → Option ℕ
cut_epoch epoch None = None
cut_epoch epoch (Some e) = if nat_le e epoch then Some e else None

-- how many marks stand before a position
abbrev pub place_of : ℕ → List Mark → ℕ
place_of position [] = 0
place_of position (m ∷ ms) = if nat_lt m.position position then suc (place_of position ms) else 0

-- a mark that stands at or before the first of these
abbrev pub IsBefore : Mark → List Mark → Type 0
IsBefore m [] = Unit {0}
IsBefore m (n ∷ ns) = m.position ≤ n.position

-- a mark taken from the front of one of two lists, the one that stands first, and what is left of both
abbrev pub TakesFirst : List Mark → List Mark → Mark → List Mark → List Mark → Type 0
TakesFirst left right m l r = ((left ≡ m ∷ l) × (right ≡ r) × IsBefore m r) ⊎ ((right ≡ m ∷ r) × (left ≡ l) × IsBefore m l)
