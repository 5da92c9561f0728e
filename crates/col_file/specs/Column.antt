-- The two files of a column.
use Rattle.std.specs.Prelude.{◌≡◌, ℕ, zero, suc, List, [], ◌∷◌, ◌++◌, length, Option, Some}
use Rattle.std.specs.FinMap.{get}
use Rattle.common_laws.specs.Maps.{Contents}
use Rattle.col_value.specs.declared.kinds.Encoding.{Encoding}
use Rattle.col_value.specs.declared.value.Value.{Value}
use Rattle.pos_index.specs.declared.index.PosIndex.{PosIndex}
use Rattle.pos_index.specs.Index.{index_spelling, blocks}
use Rattle.pos_index.specs.Built.{nth_block, built}
use Rattle.block_choice.specs.Choice.{block_of}

-- the bytes of the first k blocks
abbrev pub first_blocks : Encoding → ℕ → List Value → List ℕ
first_blocks encoding zero vs = []
first_blocks encoding (suc k) vs = first_blocks encoding k vs ++ block_of encoding (nth_block k vs)

abbrev pub body_spelling : Encoding → List Value → List ℕ
body_spelling encoding vs = first_blocks encoding (blocks (length vs)) vs

-- the places of the first k blocks: each block stands behind those before it
abbrev pub first_places : Encoding → ℕ → List Value → List ℕ
first_places encoding zero vs = []
first_places encoding (suc k) vs = first_places encoding k vs ++ length (first_blocks encoding k vs) ∷ []

abbrev pub column_index : Encoding → List Value → PosIndex
column_index encoding vs = built vs (first_places encoding (blocks (length vs)) vs)

-- where a disk tells its contents, the name holds these bytes
abbrev pub IsFile : ℕ → List ℕ → Option Contents → Type 0
IsFile name bytes holds = (m : Contents) → holds ≡ Some m → get m name ≡ Some bytes

-- where a disk tells its contents, the name is there with none of such bytes
abbrev pub IsNoFile : ℕ → (List ℕ → Type 0) → Option Contents → Type 0
IsNoFile name P holds = (m : Contents) → holds ≡ Some m → (bytes : List ℕ) → get m name ≡ Some bytes → P bytes → ⊥

-- the two files are those of the column
pub record IsColumn (encoding : Encoding) (body index : ℕ) (vs : List Value) (holds : Option Contents) : Type 0 where
  pub blocks_file : IsFile body (body_spelling encoding vs) holds
  pub index_file : IsFile index (index_spelling (column_index encoding vs)) holds
