-- The values that the two files of a column hold.
use Rattle.std.specs.Prelude.{◌≡◌, ◌⊎◌, ℕ, List, [], ◌∷◌, ◌++◌, Option, Some, None}
use Rattle.std.specs.FinMap.{get}
use Rattle.common_laws.specs.Maps.{Contents}
use Rattle.col_disk.specs.declared.disk.StoreFault.{StoreFault}
use Rattle.col_disk.specs.declared.disk.StoreFault.TheVariants.{Disk, Damaged, Memory}
use Rattle.col_value.specs.declared.kinds.Encoding.{Encoding}
use Rattle.col_value.specs.declared.value.Value.{Value}
use Rattle.block_choice.specs.Choice.{SpellsAs}
use Rattle.pos_index.specs.declared.index.Entry.{Entry}
use Rattle.pos_index.specs.declared.index.PosIndex.{PosIndex}
use Rattle.pos_index.specs.Index.{index_spelling, IsIndex, Fits}
use Rattle.col_file.specs.Column.{IsNoFile}
use Rattle.col_file.specs.Read.{SpellsIndex, IsBlock, piece, AreValues}

-- the entry that stands first, if there is one
abbrev pub first_of : List Entry → Option Entry
first_of [] = None
first_of (e ∷ es) = Some e

-- the values of a body's blocks, one block after the other, in a column of this encoding and so many rows
abbrev pub HasBlocks : Encoding → ℕ → List ℕ → List Entry → List Value → Type 0
HasBlocks encoding rows bytes [] vs = vs ≡ []
HasBlocks encoding rows bytes (e ∷ es) vs =
    (block : List Value) × (more : List Value) × IsBlock rows e block × SpellsAs encoding block (piece e (first_of es) bytes) × HasBlocks encoding rows bytes es more × (vs ≡ block ++ more)

-- where a disk tells its contents, the body has these values in the blocks of the index
abbrev pub HoldsBlocks : Encoding → ℕ → PosIndex → Option Contents → List Value → Type 0
HoldsBlocks encoding body at holds vs = (m : Contents) → holds ≡ Some m → (bytes : List ℕ) × (get m body ≡ Some bytes) × HasBlocks encoding at.rows bytes at.entries vs

-- where a disk tells its contents, the body is absent or has no values in the blocks of the index
abbrev pub HoldsNoBlocks : Encoding → ℕ → PosIndex → Option Contents → Type 0
HoldsNoBlocks encoding body at holds = IsNoFile body (λ bytes. (vs : List Value) × HasBlocks encoding at.rows bytes at.entries vs) holds

-- what was read goes on with the values of the block
abbrev pub GoesOn : Encoding → ℕ → ℕ → Entry → Option Entry → Option Contents → List Value → List Value → Type 0
GoesOn encoding body rows e next holds old new = (block : List Value) × AreValues encoding body rows e next holds block × (new ≡ old ++ block)

-- the two files hold a column of this encoding and these values
pub record HoldsColumn (encoding : Encoding) (body index rows : ℕ) (m : Contents) (vs : List Value) : Type 0 where
  pub at : PosIndex
  pub is_index : IsIndex at
  pub fits : Fits at
  pub of_rows : at.rows ≡ rows
  pub index_file : get m index ≡ Some (index_spelling at)
  pub bytes : List ℕ
  pub body_file : get m body ≡ Some bytes
  pub blocks : HasBlocks encoding rows bytes at.entries vs

-- the file is an index of so many rows
abbrev pub IsIndexFile : ℕ → ℕ → Contents → Type 0
IsIndexFile index rows m = (at : PosIndex) × IsIndex at × Fits at × (at.rows ≡ rows) × (get m index ≡ Some (index_spelling at))

-- A Damaged names the index where that is none of so many rows, or the body where the index is one and the two files hold no column; no other
-- fault says anything.
abbrev pub BlamesColumn : Encoding → ℕ → ℕ → ℕ → Option Contents → StoreFault → Type 0
BlamesColumn encoding body index rows holds (Damaged n) = ((n ≡ index) × IsNoFile index (SpellsIndex rows) holds) ⊎ ((n ≡ body) × ((m : Contents) → holds ≡ Some m → IsIndexFile index rows m × ((vs : List Value) → HoldsColumn encoding body index rows m vs → ⊥)))
BlamesColumn encoding body index rows holds Disk = Unit {0}
BlamesColumn encoding body index rows holds Memory = Unit {0}
