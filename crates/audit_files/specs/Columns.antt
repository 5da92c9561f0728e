-- The columns that a container stores: those of its projection, and the epochs.
use Rattle.std.specs.Prelude.{ℕ, ◌≡◌, List, [], ◌∷◌, Option, Some}
use Rattle.std.specs.List.{All}
use Rattle.std.specs.FinMap.{get}
use Rattle.common_laws.specs.Maps.{Contents}
use Rattle.catalog_types.specs.declared.catalogue.Container.{Container}
use Rattle.catalog_types.specs.declared.catalogue.Projection.{Projection}
use Rattle.col_value.specs.declared.kinds.Encoding.{Encoding}
use Rattle.col_value.specs.declared.kinds.Encoding.TheVariants.{Auto}
use Rattle.col_value.specs.declared.value.Value.{Value}
use Rattle.block_choice.specs.Choice.{SpellsAs}
use Rattle.pos_index.specs.declared.index.Entry.{Entry}
use Rattle.pos_index.specs.declared.index.PosIndex.{PosIndex}
use Rattle.col_file.specs.Read.{IsBlock, AreValues, piece}
use Rattle.col_file.specs.Held.{HasBlocks, HoldsBlocks}
use Rattle.ros_container.specs.Encodings.{encoding_at, written_of}
use Rattle.ros_container.specs.Rows.{IsEpochOf}
use Rattle.audit_model.specs.Listed.{Part}
use Rattle.audit_files.specs.declared.stored.StoredColumn.{StoredColumn}
use Rattle.audit_files.specs.declared.stored.StoredColumn.TheVariants.{Column, Epochs}

-- the place of a column among those of its container
abbrev pub place_in : Container → StoredColumn → ℕ
place_in k (Column i) = i
place_in k Epochs = k.stored

-- how it is written
abbrev pub encoding_in : Projection → StoredColumn → Encoding
encoding_in p (Column i) = encoding_at (written_of p) i
encoding_in p Epochs = Auto

-- its files, the index before the body
abbrev pub index_part : StoredColumn → Part
index_part (Column i) = Part.Index i
index_part Epochs = Part.EpochIndex

abbrev pub body_part : StoredColumn → Part
body_part (Column i) = Part.Body i
body_part Epochs = Part.EpochBody

abbrev pub parts_in : StoredColumn → List Part
parts_in x = index_part x ∷ body_part x ∷ []

-- a value that may stand in it: of the epochs one of the container's, elsewhere any
abbrev pub MayStand : Container → StoredColumn → Value → Type 0
MayStand k (Column i) v = Unit {0}
MayStand k Epochs v = IsEpochOf k v

-- the body has values in the blocks of the index, and each may stand there
abbrev pub HoldsSuch : (Value → Type 0) → Encoding → ℕ → PosIndex → Option Contents → Type 0
HoldsSuch P encoding body at holds = (vs : List Value) × HoldsBlocks encoding body at holds vs × All P vs

-- where a disk tells its contents, the body is absent or has no such values
abbrev pub HoldsNoSuch : (Value → Type 0) → Encoding → ℕ → PosIndex → Option Contents → Type 0
HoldsNoSuch P encoding body at holds =
    (m : Contents) → holds ≡ Some m → (bytes : List ℕ) → get m body ≡ Some bytes → (vs : List Value) → HasBlocks encoding at.rows bytes at.entries vs → All P vs → ⊥

-- the block with this entry stands in the file, and each of its values may stand there
abbrev pub HasSuchBlock : (Value → Type 0) → Encoding → ℕ → ℕ → Entry → Option Entry → Option Contents → Type 0
HasSuchBlock P encoding body rows e next holds = (vs : List Value) × AreValues encoding body rows e next holds vs × All P vs

-- where a disk tells its contents, the file is absent or has no such block
abbrev pub HasNoSuchBlock : (Value → Type 0) → Encoding → ℕ → ℕ → Entry → Option Entry → Option Contents → Type 0
HasNoSuchBlock P encoding body rows e next holds =
    (m : Contents) → holds ≡ Some m → (bytes : List ℕ) → get m body ≡ Some bytes → (vs : List Value) → IsBlock rows e vs → SpellsAs encoding vs (piece e next bytes) → All P vs → ⊥
