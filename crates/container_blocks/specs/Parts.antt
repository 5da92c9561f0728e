-- What reading one block of a column gives, and what is made where none is read.
use Rattle.std.specs.Prelude.{◌≡◌, ◌*◌, ℕ, zero, suc, List, [], ◌∷◌, Option, Some}
use Rattle.catalog_types.specs.declared.catalogue.Container.{Container}
use Rattle.common_laws.specs.Maps.{Contents}
use Rattle.col_disk.specs.declared.disk.StoreFault.{StoreFault}
use Rattle.col_file.specs.Column.{IsFile}
use Rattle.col_file.specs.Held.{HoldsColumn, BlamesColumn}
use Rattle.col_value.specs.declared.kinds.Encoding.{Encoding}
use Rattle.col_value.specs.declared.value.Value.{Value}
use Rattle.pos_index.specs.declared.index.Entry.{Entry}
use Rattle.pos_index.specs.declared.index.PosIndex.{PosIndex}
use Rattle.pos_index.specs.Built.{nth_block}
use Rattle.pos_index.specs.Index.{index_spelling}
use Rattle.ros_container.specs.Files.{body_of, index_of}

-- where a disk tells its contents, and the files in a place hold values in this encoding, these are the values of block b
abbrev pub ArePart : Option Contents → Encoding → Container → ℕ → ℕ → List Value → Type 0
ArePart holds encoding k place b part = (m : Contents) → holds ≡ Some m → (vs : List Value) → HoldsColumn encoding (body_of k.base place) (index_of k.base place) k.rows m vs → part ≡ nth_block b vs

-- the index file in a place holds this index
abbrev pub IsIndexAt : Container → ℕ → PosIndex → Option Contents → Type 0
IsIndexAt k place at holds = IsFile (index_of k.base place) (index_spelling at) holds

-- one of the two files in a place is to blame
abbrev pub BlamesPart : Option Contents → Encoding → Container → ℕ → StoreFault → Type 0
BlamesPart holds encoding k place fault = BlamesColumn encoding (body_of k.base place) (index_of k.base place) k.rows holds fault

-- the entry of block b, which goes from this value to this value; where a block stands in no file its number is its place
abbrev pub entry_of_one : Value → ℕ → Entry
entry_of_one v b = record { first = 1024 * b; place = b; least = v; greatest = v }

-- so many such entries, from block b on
abbrev pub entries_of_one : Value → ℕ → ℕ → List Entry
entries_of_one v b zero = []
entries_of_one v b (suc n) = entry_of_one v b ∷ entries_of_one v (suc b) n
