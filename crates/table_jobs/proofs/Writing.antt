-- The columns of a job, written one after the other.
use Rattle.std.proofs.Common.{◌≡◌, ℕ, ◌+◌, ◌*◌, ◌≤◌, inl, inr, List, arith}
use Rattle.std.specs.Prelude.{Some}
use Rattle.std.proofs.lemmas.List.Elements.{All-weaker}
use Rattle.common_laws.specs.Maps.{Contents}
use Rattle.col_disk.specs.Moved.{Either, Moved, Named, NoName}
use Rattle.col_disk.specs.declared.disk.Disk.{Ghosts}
use Rattle.col_disk.proofs.Moving.{moved_told, moved_wider}
use Rattle.ros_container.specs.Encodings.{Written}
use Rattle.ros_container.specs.Files.{body_of, index_of}
use Rattle.container_writer.specs.Writing.{DataFrom}
use Rattle.container_draft.specs.Draft.{Drafted, IsDraft}
use Rattle.catalog_types.specs.declared.catalogue.Projection.{Projection}
use Rattle.moveout_job.specs.OnDisk.{IsBelow, IsListedBelow}
use Rattle.moveout_job.proofs.Renewed.{later_data, wider_below}

-- the files of a column are data files of later numbers
of_column : (base i : ℕ) (q : ℕ) → Either (Named (body_of base i)) (Named (index_of base i)) q → DataFrom base q
of_column base i q (inl is) = (base + 2 * i, omega arith, is)
of_column base i q (inr is) = (base + 2 * i + 1, omega arith, is)

pub column_moved : {D : Type 0} (disk : Ghosts D) {old new : D} (base i : ℕ) → Moved disk (Either (Named (body_of base i)) (Named (index_of base i))) NoName old new → Moved disk (DataFrom base) NoName old new
column_moved disk base i moved = moved_wider disk (of_column base i) (λ q none. none) moved

-- a draft over what a disk holds, where it was one before
abbrev pub DraftsOn : {D : Type 0} → Ghosts D → List Written → Drafted → D → Drafted → D → Type 0
DraftsOn disk written was old is now = (m : Contents) → disk.holds old ≡ Some m → IsDraft m written was → (n : Contents) × (disk.holds now ≡ Some n) × IsDraft n written is

pub drafts_more : {D : Type 0} (disk : Ghosts D) {old now new : D} (written : List Written) (was is after : Drafted) {W : ℕ → Type 0} → Moved disk W NoName now new
    → ((m n : Contents) → disk.holds now ≡ Some m → disk.holds new ≡ Some n → IsDraft m written is → IsDraft n written after) → DraftsOn disk written was old is now → DraftsOn disk written was old after new
drafts_more disk written was is after {W} moved goes_on on = λ m told draft.
    let (k, there, mid) = on m told draft in
    let (n, left, changed) = moved_told disk {W = W} {R = NoName} k there moved in
    (n, left, goes_on k n there left mid)

-- work on numbers behind is work from here on
pub later_moved : {D : Type 0} (disk : Ghosts D) {old new : D} (base : ℕ) {next : ℕ} → base ≤ next → Moved disk (DataFrom next) NoName old new → Moved disk (DataFrom base) NoName old new
later_moved disk base {next} le moved = later_data disk base next le moved

pub listed_below : (next : ℕ) {after : ℕ} (p : Projection) → next ≤ after → IsListedBelow next p → IsListedBelow after p
listed_below next {after} p le below = All-weaker (IsBelow next) (IsBelow after) (λ k is. wider_below next after k le is) p.containers below
