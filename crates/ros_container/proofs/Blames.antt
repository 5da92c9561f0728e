-- Which file is to blame, and that the container then holds no rows.
use Rattle.std.proofs.Common.{◌≡◌, ℕ, ◌+◌, ◌<◌, ◌≤◌, List, length, refl, sym, subst, inl, inr, arith}
use Rattle.std.specs.Prelude.{◌⊎◌, Option, Some, pos, Result, Ok, Err, IfErr, Vec}
use Rattle.std.specs.declared.alloc.Global.{Global}
use Rattle.std.specs.List.{All}
use Rattle.std.proofs.lemmas.List.Elements.{All-map, All-weaker}
use Rattle.catalog_types.specs.declared.catalogue.Container.{Container}
use Rattle.common_laws.specs.Maps.{Contents}
use Rattle.col_disk.specs.declared.disk.StoreFault.{StoreFault}
use Rattle.col_disk.specs.declared.disk.StoreFault.TheVariants.{Disk, Damaged, Memory}
use Rattle.col_file.specs.Held.{HoldsColumn, BlamesColumn, IsIndexFile}
use Rattle.pos_index.specs.Index.{index_spelling}
use Rattle.col_value.specs.declared.kinds.Encoding.{Encoding}
use Rattle.col_value.specs.declared.kinds.Encoding.TheVariants.{Auto}
use Rattle.col_value.specs.declared.row.Asked.{Asked}
use Rattle.col_value.specs.declared.value.Value.{Value}
use Rattle.col_value.specs.declared.value.Value.TheVariants as value
use Rattle.ros_container.specs.Encodings.{Written, encoding_at}
use Rattle.ros_container.specs.Files.{body_of, index_of}
use Rattle.ros_container.specs.Held.{HoldsContainer, BlamesContainer, HoldsNoRows}
use Rattle.ros_container.specs.Rows.{column_values, epoch_values, AreWithin, IsWithin, IsEpochOf}

-- the file of a column that is stored is to blame
pub blames_stored : (written : List Written) (i : ℕ) (k : Container) (holds : Option Contents) (fault : StoreFault) → i < k.stored
    → BlamesColumn (encoding_at written i) (body_of k.base i) (index_of k.base i) k.rows holds fault → BlamesContainer written k holds fault
blames_stored written i k holds (Damaged q) lt blamed = inl (i, lt, blamed)
blames_stored written i k holds Disk lt blamed = tt
blames_stored written i k holds Memory lt blamed = tt

-- the file of the epochs is
pub blames_last : (written : List Written) (k : Container) (holds : Option Contents) (fault : StoreFault) → BlamesColumn Auto (body_of k.base k.stored) (index_of k.base k.stored) k.rows holds fault → BlamesContainer written k holds fault
blames_last written k holds (Damaged q) blamed = inr (inl blamed)
blames_last written k holds Disk blamed = tt
blames_last written k holds Memory blamed = tt

-- what was read of files that are the column's
at_files : (e d : Encoding) (body there index other rows : ℕ) (holds : Option Contents) (fault : StoreFault) → e ≡ d → body ≡ there → index ≡ other → BlamesColumn e body index rows holds fault → BlamesColumn d there other rows holds fault
at_files e d body there index other rows holds fault is_e is_body is_index blamed = rw (← is_e, ← is_body, ← is_index) blamed

pub blames_read : (written : List Written) (i : ℕ) (k : Container) (holds : Option Contents) (e : Encoding) (body index : ℕ) (result : Result (Vec Value Global) StoreFault) → i < k.stored → e ≡ encoding_at written i → body ≡ body_of k.base i → index ≡ index_of k.base i
    → IfErr result (BlamesColumn e body index k.rows holds) → IfErr result (BlamesContainer written k holds)
blames_read written i k holds e body index (Ok vs) lt is_e is_body is_index blamed = tt
blames_read written i k holds e body index (Err fault) lt is_e is_body is_index blamed =
    blames_stored written i k holds fault lt (at_files e (encoding_at written i) body (body_of k.base i) index (index_of k.base i) k.rows holds fault is_e is_body is_index blamed)

pub blames_read_last : (written : List Written) (k : Container) (holds : Option Contents) (body index : ℕ) (result : Result (Vec Value Global) StoreFault) → body ≡ body_of k.base k.stored → index ≡ index_of k.base k.stored
    → IfErr result (BlamesColumn Auto body index k.rows holds) → IfErr result (BlamesContainer written k holds)
blames_read_last written k holds body index (Ok vs) is_body is_index blamed = tt
blames_read_last written k holds body index (Err fault) is_body is_index blamed =
    blames_last written k holds fault (at_files Auto Auto body (body_of k.base k.stored) index (index_of k.base k.stored) k.rows holds fault refl is_body is_index blamed)

-- the index of a column that is held is one
index_file : {encoding : Encoding} {body index rows : ℕ} {m : Contents} {vs : List Value} → HoldsColumn encoding body index rows m vs → IsIndexFile index rows m
index_file held = (held.at, held.is_index, held.fits, held.of_rows, held.index_file)

-- where one list of values is held, and it is not of epochs, the body of the epochs is to blame
pub blames_epochs : (written : List Written) (k : Container) (holds : Option Contents) (vs : List Value)
    → ((m : Contents) (us ws : List Value) → HoldsColumn Auto (body_of k.base k.stored) (index_of k.base k.stored) k.rows m us → HoldsColumn Auto (body_of k.base k.stored) (index_of k.base k.stored) k.rows m ws → us ≡ ws)
    → ((m : Contents) → holds ≡ Some m → HoldsColumn Auto (body_of k.base k.stored) (index_of k.base k.stored) k.rows m vs) → (All (IsEpochOf k) vs → ⊥) → (q : ℕ) → q ≡ body_of k.base k.stored → BlamesContainer written k holds (Damaged q)
blames_epochs written k holds vs one found other q is = inr (inr (is, λ m told. (index_file (found m told), λ ws held all. other (subst (All (IsEpochOf k)) (one m ws vs held (found m told)) all))))

-- the two files of a column that hold values are not to blame
not_blamed : (e : Encoding) (body index rows : ℕ) (holds : Option Contents) (q : ℕ) → BlamesColumn e body index rows holds (Damaged q) → (m : Contents) → holds ≡ Some m → (vs : List Value) → HoldsColumn e body index rows m vs → ⊥
not_blamed e body index rows holds q (inl (is, missing)) m told vs held = missing m told (index_spelling held.at) held.index_file (held.at, held.is_index, held.fits, held.of_rows, refl)
not_blamed e body index rows holds q (inr (is, missing)) m told vs held = (missing m told).1 vs held

-- the epochs of a container are numbers between its bounds
are_epochs : (k : Container) (rows : List Asked) → AreWithin k rows → All (IsEpochOf k) (epoch_values rows)
are_epochs k rows within =
    All-map (IsEpochOf k) (λ (a : Asked). value.Int (pos a.ins)) rows
    (All-weaker (λ (a : Asked). IsWithin k a.ins) (λ (a : Asked). IsEpochOf k (value.Int (pos a.ins))) (λ a is. (a.ins, refl, is)) rows within)

pub blamed_holds_none : (written : List Written) (k : Container) (holds : Option Contents) (fault : StoreFault) → BlamesContainer written k holds fault → HoldsNoRows written k holds fault
blamed_holds_none written k holds Disk blamed = tt
blamed_holds_none written k holds Memory blamed = tt
blamed_holds_none written k holds (Damaged q) (inl (i, lt, blamed)) =
    λ m told rows held. not_blamed (encoding_at written i) (body_of k.base i) (index_of k.base i) k.rows holds q blamed m told (column_values i rows) (held.each i lt)
blamed_holds_none written k holds (Damaged q) (inr (inl blamed)) =
    λ m told rows held. not_blamed Auto (body_of k.base k.stored) (index_of k.base k.stored) k.rows holds q blamed m told (epoch_values rows) held.epochs
blamed_holds_none written k holds (Damaged q) (inr (inr (is, missing))) = λ m told rows held. (missing m told).1 (epoch_values rows) held.epochs (are_epochs k rows held.within)
