-- Files of numbers below one, while files of later numbers are written.
use Rattle.std.proofs.Common.{◌≡◌, ℕ, ◌+◌, ◌*◌, ◌<◌, ◌≤◌, List, length, Option, Some, None, sym, subst, inl, inr, arith}
use Rattle.std.specs.Prelude.{◌^◌, IfSome}
use Rattle.std.specs.List.{All}
use Rattle.std.specs.FinMap.{get}
use Rattle.std.proofs.lemmas.List.Elements.{All-weaker}
use Rattle.common_laws.specs.Maps.{Contents}
use Rattle.col_disk.specs.Calls.{Stepped}
use Rattle.col_disk.specs.Moved.{Changed, Moved, NoName}
use Rattle.col_disk.specs.declared.disk.Disk.{Ghosts}
use Rattle.col_disk.proofs.Moving.{changed_kept, moved_wider}
use Rattle.catalog_types.specs.declared.catalogue.Container.{Container}
use Rattle.catalog_types.specs.declared.catalogue.ProjColumn.{ProjColumn}
use Rattle.catalog_types.specs.declared.catalogue.Projection.{Projection}
use Rattle.stored_rows.specs.Listed.{IsVectorFile, SameFiles, SameEntry}
use Rattle.container_writer.specs.Writing.{DataFrom}
use Rattle.container_cut.specs.Listed.{IsBelow, IsListedBelow}

-- the data files of numbers below one are as they were
abbrev pub SameBelow : ℕ → Contents → Contents → Type 0
SameBelow next m n = (j : ℕ) → j < next → get n (4 * j) ≡ get m (4 * j)

pub below_data : (m n : Contents) (base : ℕ) → Changed (DataFrom base) NoName m n → SameBelow base m n
below_data m n base changed j lt = changed_kept (DataFrom base) NoName m n (4 * j) (λ f. let is = f.2 in let from = f.1 in omega (arith, lt, is, from)) (λ is. is) changed

vector_same : (m n : Contents) (next : ℕ) (o : Option ℕ) → SameBelow next m n → IfSome o (λ v. v < next) → (q : ℕ) → IsVectorFile o q → get n q ≡ get m q
vector_same m n next None same below q is = absurd is
vector_same m n next (Some v) same below q is = subst (λ (x : ℕ). get n x ≡ get m x) (sym is) (same v below)

pub container_same : (m n : Contents) (next : ℕ) (columns : List ProjColumn) (k : Container) → SameBelow next m n → IsBelow next columns k → SameFiles m n k
container_same m n next columns k same below q (inl (j, small, is)) =
    let end = below.files in subst (λ (x : ℕ). get n x ≡ get m x) (sym is) (same (k.base + j) (omega (arith, small, end)))
container_same m n next columns k same below q (inr is) = vector_same m n next k.marks same below.vector q is

pub entry_same : (m n : Contents) (next : ℕ) (p : Projection) → SameBelow next m n → IsListedBelow next p → SameEntry m n p
entry_same m n next p same below =
    All-weaker (IsBelow next p.columns) (SameFiles m n) (λ k h. container_same m n next p.columns k same h) p.containers below

-- later numbers
vector_later : (next after : ℕ) (o : Option ℕ) → next ≤ after → IfSome o (λ v. v < next) → IfSome o (λ v. v < after)
vector_later next after None le is = tt
vector_later next after (Some v) le is = omega (arith, le, is)

pub container_later : (next after : ℕ) (columns : List ProjColumn) (k : Container) → next ≤ after → IsBelow next columns k → IsBelow after columns k
container_later next after columns k le below = record { of_columns = below.of_columns; files = let end = below.files in omega (arith, le, end); vector = vector_later next after k.marks le below.vector }

pub containers_later : (next after : ℕ) (columns : List ProjColumn) (ks : List Container) → next ≤ after → All (IsBelow next columns) ks → All (IsBelow after columns) ks
containers_later next after columns ks le below = All-weaker (IsBelow next columns) (IsBelow after columns) (λ k h. container_later next after columns k le h) ks below

pub entry_later : (next after : ℕ) (p : Projection) → next ≤ after → IsListedBelow next p → IsListedBelow after p
entry_later next after p le below = containers_later next after p.columns p.containers le below

pub entries_later : (next after : ℕ) (ps : List Projection) → next ≤ after → All (IsListedBelow next) ps → All (IsListedBelow after) ps
entries_later next after ps le below = All-weaker (IsListedBelow next) (IsListedBelow after) (λ p h. entry_later next after p le h) ps below

-- data files from a number on are among those from an earlier one on
pub later_data : {D : Type 0} (disk : Ghosts D) {old new : D} (base next : ℕ) → base ≤ next → Moved disk (DataFrom next) NoName old new → Moved disk (DataFrom base) NoName old new
later_data disk base next le moved = moved_wider disk (λ q f. let from = f.1 in (f.0, omega (arith, le, from), f.2)) (λ q is. is) moved

-- what a disk tells before and after
pub moved_between : {D : Type 0} (disk : Ghosts D) {W R : ℕ → Type 0} {old new : D} (m n : Contents) → disk.holds old ≡ Some m → disk.holds new ≡ Some n → Moved disk W R old new → Changed W R m n
moved_between disk {W} {R} {old} {new} m n before after moved =
    subst (λ (o : Option Contents). Stepped (Changed W R) (Some m) o) after
    (subst (λ (o : Option Contents). Stepped (Changed W R) o (disk.holds new)) before moved.contents)

-- the number of a listed delete vector has a file
pub number_low : (next : ℕ) (o : Option ℕ) → next ≤ 2 ^ 62 → IfSome o (λ n. n < next) → IfSome o (λ n. n < 2 ^ 62)
number_low next None le is = tt
number_low next (Some n) le is = omega (arith, le, is)
