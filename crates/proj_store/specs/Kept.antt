-- An index that was read, and the bytes of its file.
use Rattle.std.specs.Prelude.{ℕ, ◌≡◌, List}
use Rattle.pos_index.specs.declared.index.PosIndex.{PosIndex}
use Rattle.pos_index.specs.Index.{index_spelling, Fits, IsIndex}

pub record KeptIndex : Type 0 where
  pub bytes : List ℕ
  pub index : PosIndex

abbrev pub kept : List ℕ → PosIndex → KeptIndex
kept bytes index = record { bytes = bytes; index = index }

-- the bytes are an index, which is this one
abbrev pub IsParsed : List ℕ → PosIndex → Type 0
IsParsed bytes x = IsIndex x × Fits x × (bytes ≡ index_spelling x)
