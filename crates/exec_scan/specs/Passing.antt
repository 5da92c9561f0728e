-- Blocks that are passed over: by the index of a column none of their values lies in a bound.
use Rattle.std.specs.Prelude.{ℕ, ◌≡◌, Bool, true, false, List, Option, None, slice_index_or, IsSomeAnd}
use Rattle.std.specs.List.{All, list_any, slice_get}
use Rattle.std.specs.Option.{option_map_or}
use Rattle.col_file.specs.Read.{is_between}
use Rattle.col_value.specs.declared.row.Asked.{Asked}
use Rattle.col_value.specs.declared.value.Value.{Value}
use Rattle.pos_index.specs.declared.index.Entry.{Entry}
use Rattle.pos_index.specs.declared.index.PosIndex.{PosIndex}
use Rattle.row_bounds.specs.Bounds.{lies_in, misses, within}
use Rattle.row_bounds.specs.declared.bound.Bound.{Bound}
use Rattle.query_cover.specs.Seen.{placed}

-- no value from the least to the greatest of a block lies in the bound
abbrev pub MissesEntry : Bound → Entry → Type 0
MissesEntry b e = (v : Value) → is_between e v ≡ true → lies_in b v ≡ false

-- the column of the bound has an index, whose entry of this block says so
abbrev pub Misses : List (Option PosIndex) → ℕ → Bound → Type 0
Misses indexes block b = IsSomeAnd (slice_index_or indexes b.column None) (λ at. IsSomeAnd (slice_get at.entries block) (MissesEntry b))

-- so it is of one of the bounds
abbrev pub IsPassed : List Bound → List (Option PosIndex) → ℕ → Type 0
IsPassed bounds indexes block = (i : ℕ) × IsSomeAnd (slice_get bounds i) (Misses indexes block)

-- the column of the bound has an index, from whose entry of this block the bound stands apart
abbrev pub is_missed : List (Option PosIndex) → ℕ → Bound → Bool
is_missed indexes block b = option_map_or (λ at. option_map_or (λ e. misses b e.least e.greatest) (slice_get at.entries block) false) (slice_index_or indexes b.column None) false

-- so does one of the bounds: the block is passed over
abbrev pub is_passed : List Bound → List (Option PosIndex) → ℕ → Bool
is_passed bounds indexes block = list_any (is_missed indexes block) bounds

-- the rows, made for the table's columns, lie out of the bounds
abbrev pub AreOut : List Bound → List (Option ℕ) → List Asked → Type 0
AreOut bounds places rows = All (λ a. within bounds (placed places a.row) ≡ false) rows
