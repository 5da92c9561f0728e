-- That files hold the rows of a container, and which file is to blame where they don't.
use Rattle.std.specs.Prelude.{◌≡◌, ◌<◌, ◌≤◌, ◌⊎◌, ℕ, List, length, replicate, Option, Some}
use Rattle.std.specs.List.{All}
use Rattle.catalog_types.specs.declared.catalogue.Container.{Container}
use Rattle.common_laws.specs.Maps.{Contents}
use Rattle.col_disk.specs.declared.disk.StoreFault.{StoreFault}
use Rattle.col_disk.specs.declared.disk.StoreFault.TheVariants.{Disk, Damaged, Memory}
use Rattle.col_file.specs.Held.{HoldsColumn, BlamesColumn, IsIndexFile}
use Rattle.col_value.specs.declared.kinds.Encoding.TheVariants.{Auto}
use Rattle.col_value.specs.declared.row.Asked.{Asked}
use Rattle.col_value.specs.declared.value.Value.{Value}
use Rattle.ros_container.specs.Encodings.{Written, encoding_at, default_at}
use Rattle.ros_container.specs.Files.{body_of, index_of}
use Rattle.ros_container.specs.Rows.{column_values, epoch_values, AreWide, AreWithin, IsEpochOf}

-- the files of a container hold these rows: each column that it stores, as it is written, and behind them the epochs, which are AUTO; the others
-- have their default in each row
pub record HoldsContainer (m : Contents) (written : List Written) (k : Container) (rows : List Asked) : Type 0 where
  pub each : (i : ℕ) → i < k.stored → HoldsColumn (encoding_at written i) (body_of k.base i) (index_of k.base i) k.rows m (column_values i rows)
  pub defaults : (i : ℕ) → k.stored ≤ i → i < length written → column_values i rows ≡ replicate k.rows (default_at written i)
  pub epochs : HoldsColumn Auto (body_of k.base k.stored) (index_of k.base k.stored) k.rows m (epoch_values rows)
  pub wide : AreWide (length written) rows
  pub within : AreWithin k rows

-- the name is the body of the epochs, whose index is one, and they are no numbers from the least to the greatest epoch
abbrev pub IsNoEpochs : Container → Option Contents → ℕ → Type 0
IsNoEpochs k holds q =
    (q ≡ body_of k.base k.stored)
    × ((m : Contents) → holds ≡ Some m → IsIndexFile (index_of k.base k.stored) k.rows m
    × ((vs : List Value) → HoldsColumn Auto (body_of k.base k.stored) (index_of k.base k.stored) k.rows m vs → All (IsEpochOf k) vs → ⊥))

-- a Damaged names the file of a column that is stored, or of the epochs, and that is absent or not what it has to be, the index before the body,
-- or the body of the epochs; no other fault says anything
abbrev pub BlamesContainer : List Written → Container → Option Contents → StoreFault → Type 0
BlamesContainer written k holds (Damaged q) =
    ((i : ℕ) × (i < k.stored) × BlamesColumn (encoding_at written i) (body_of k.base i) (index_of k.base i) k.rows holds (Damaged q))
    ⊎ (BlamesColumn Auto (body_of k.base k.stored) (index_of k.base k.stored) k.rows holds (Damaged q) ⊎ IsNoEpochs k holds q)
BlamesContainer written k holds Disk = Unit {0}
BlamesContainer written k holds Memory = Unit {0}

-- where a file is damaged, the container holds no rows at all
abbrev pub HoldsNoRows : List Written → Container → Option Contents → StoreFault → Type 0
HoldsNoRows written k holds (Damaged q) = (m : Contents) → holds ≡ Some m → (rows : List Asked) → HoldsContainer m written k rows → ⊥
HoldsNoRows written k holds Disk = Unit {0}
HoldsNoRows written k holds Memory = Unit {0}
