-- What reading a column answers.
use Rattle.std.specs.Prelude.{◌≡◌, ℕ, ◌-◌, min, Bool, true, ◌&&◌, List, length, take, drop, Option, Some, None, Vec, option_map}
use Rattle.std.specs.declared.alloc.Global.{Global}
use Rattle.std.specs.List.{list_all}
use Rattle.std.specs.FinMap.{get}
use Rattle.std.specs.Ordering.{is_le}
use Rattle.common_laws.specs.Maps.{Contents}
use Rattle.col_disk.specs.declared.disk.StoreFault.{StoreFault}
use Rattle.col_disk.specs.declared.disk.StoreFault.TheVariants.{Disk, Damaged, Memory}
use Rattle.col_value.specs.Order.{value_cmp}
use Rattle.col_value.specs.declared.kinds.Encoding.{Encoding}
use Rattle.col_value.specs.declared.value.Value.{Value}
use Rattle.block_codec.specs.Blocks.{IsOneBlock}
use Rattle.block_choice.specs.Choice.{SpellsAs}
use Rattle.pos_index.specs.declared.index.Entry.{Entry}
use Rattle.pos_index.specs.declared.index.PosIndex.{PosIndex}
use Rattle.pos_index.specs.Index.{index_spelling, IsIndex, Fits}

-- a Damaged names this file and has this reason; no other fault says anything
abbrev pub Blames : ℕ → Type 0 → StoreFault → Type 0
Blames name reason (Damaged n) = (n ≡ name) × reason
Blames name reason Disk = Unit {0}
Blames name reason Memory = Unit {0}

-- the bytes are an index of so many rows
abbrev pub SpellsIndex : ℕ → List ℕ → Type 0
SpellsIndex rows bytes = (x : PosIndex) × IsIndex x × Fits x × (x.rows ≡ rows) × (bytes ≡ index_spelling x)

-- a block ends where the next begins, the last at the end of the file
abbrev pub end_of : Option Entry → List ℕ → ℕ
end_of None bytes = length bytes
end_of (Some next) bytes = next.place

-- the bytes of a block, in those of the file
abbrev pub piece : Entry → Option Entry → List ℕ → List ℕ
piece e next bytes = take (end_of next bytes - e.place) (drop e.place bytes)

-- a value from the block's least to its greatest
abbrev pub is_between : Entry → Value → Bool
is_between e v = is_le (value_cmp e.least v) && is_le (value_cmp v e.greatest)

-- the values of the block with this entry, in a column of so many rows
pub record IsBlock (rows : ℕ) (e : Entry) (vs : List Value) : Type 0 where
  pub values : IsOneBlock vs
  pub long : length vs ≡ min 1024 (rows - e.first)
  pub between : list_all (is_between e) vs ≡ true

-- in a column of this encoding the bytes are a block of such values
abbrev pub SpellsBlock : Encoding → ℕ → Entry → List ℕ → Type 0
SpellsBlock encoding rows e bytes = (vs : List Value) × IsBlock rows e vs × SpellsAs encoding vs bytes

-- the file is there, and the bytes of the block in it are a block of these values
abbrev pub SpellsPiece : Encoding → Entry → Option Entry → List Value → Option (List ℕ) → Type 0
SpellsPiece encoding e next vs None = ⊥
SpellsPiece encoding e next vs (Some bytes) = SpellsAs encoding vs (piece e next bytes)

-- the values of the block that stands in the file
pub record AreValues (encoding : Encoding) (name rows : ℕ) (e : Entry) (next : Option Entry) (holds : Option Contents) (vs : List Value) : Type 0 where
  pub values : IsBlock rows e vs
  pub spelled : (m : Contents) → holds ≡ Some m → SpellsPiece encoding e next vs (get m name)

-- the answer is the block's bytes, and None where the file is absent
abbrev pub AnswersPiece : ℕ → Entry → Option Entry → Option Contents → Option (Vec ℕ Global) → Type 0
AnswersPiece name e next holds answer = (m : Contents) → holds ≡ Some m → option_map (λ v. v.items) answer ≡ option_map (piece e next) (get m name)

-- the file is absent, or the block's bytes are no block of this entry
abbrev pub IsNoPiece : Encoding → ℕ → ℕ → Entry → Option Entry → Option Contents → Type 0
IsNoPiece encoding name rows e next holds = (m : Contents) → holds ≡ Some m → (bytes : List ℕ) → get m name ≡ Some bytes → SpellsBlock encoding rows e (piece e next bytes) → ⊥
