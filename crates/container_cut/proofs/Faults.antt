-- Which file is to blame, seen from an earlier moment.
use Rattle.std.proofs.Common.{◌≡◌, ℕ, ◌+◌, ◌*◌, ◌<◌, ◌≤◌, List, [], ◌∷◌, length, map, take, get_or, Option, Some, None, sym, subst, inl, inr, arith}
use Rattle.std.specs.Prelude.{Result, Ok, Err, IfOk, IfErr}
use Rattle.std.specs.List.{All, Any}
use Rattle.std.proofs.lemmas.List.Elements.{All-contains, All-cons, All-nil}
use Rattle.common_laws.specs.Maps.{Contents}
use Rattle.col_disk.specs.Moved.{Moved, NoName}
use Rattle.col_disk.specs.declared.disk.Disk.{Ghosts}
use Rattle.col_disk.specs.declared.disk.StoreFault.{StoreFault}
use Rattle.col_disk.specs.declared.disk.StoreFault.TheVariants.{Disk, Damaged, Memory}
use Rattle.col_disk.proofs.Moving.{moved_told}
use Rattle.col_file.specs.Held.{BlamesColumn}
use Rattle.col_value.specs.declared.kinds.Encoding.{Encoding}
use Rattle.col_value.specs.declared.kinds.Encoding.TheVariants.{Auto}
use Rattle.col_value.specs.declared.row.Stamped.{Stamped}
use Rattle.catalog_types.specs.declared.catalogue.Container.{Container}
use Rattle.catalog_types.specs.declared.catalogue.Projection.{Projection}
use Rattle.ros_container.specs.Encodings.{Written, written_of, encoding_at}
use Rattle.ros_container.specs.Files.{body_of, index_of, IsFileOf}
use Rattle.ros_container.specs.Held.{HoldsContainer, BlamesContainer, HoldsNoRows}
use Rattle.del_vector.specs.declared.mark.Mark.{Mark}
use Rattle.stored_rows.specs.Listed.{IsVectorFile, SameFiles}
use Rattle.stored_rows.specs.Held.{HoldsVectorAt, HoldsRows}
use Rattle.stored_rows.proofs.KeptRows.{entry_kept}
use Rattle.vector_files.specs.Blamed.{IsNoVectorAt, BlamesVector}
use Rattle.container_writer.specs.Writing.{DataFrom}
use Rattle.container_cut.specs.Listed.{IsBelow, IsListedBelow}
use Rattle.container_cut.specs.Blamed.{IsDamageOf, IsDamageIn, Blames, BlamesOne}
use Rattle.container_cut.proofs.Bad.{bad_back, front_bad}
use Rattle.container_cut.proofs.Below.{SameBelow, below_data, container_same}
use Rattle.container_cut.proofs.Fronts.{front as narrowed, narrow}

-- ---- what the calls that read blame

vector_listed : (k : Container) (holds : Option Contents) (q : ℕ) (o : Option ℕ) → IsNoVectorAt k holds q o → IsVectorFile o q
vector_listed k holds q None is = absurd is
vector_listed k holds q (Some v) is = is.0

no_vector : (k : Container) (holds : Option Contents) (q : ℕ) (o : Option ℕ) → IsNoVectorAt k holds q o → (m : Contents) → holds ≡ Some m → (marks : List Mark) → HoldsVectorAt m k o marks → ⊥
no_vector k holds q None is m told marks held = is
no_vector k holds q (Some v) is m told marks held = is.1 m told marks held

pub vector_blamed : (p : Projection) (k : Container) (holds : Option Contents) (fault : StoreFault) → BlamesVector k holds fault → BlamesOne p k holds fault
vector_blamed p k holds (Damaged q) is = λ m told. record {
  listed = inr (vector_listed k holds q k.marks is);
  bad = inr (subst (λ (h : Option Contents). BlamesVector k h (Damaged q)) told is);
  none = λ rows held. no_vector k holds q k.marks is m told held.0 held.3;
}
vector_blamed p k holds Disk is = tt
vector_blamed p k holds Memory is = tt

column_named : (e : Encoding) (base stored i q rows : ℕ) (holds : Option Contents) → i < stored + 1 → BlamesColumn e (body_of base i) (index_of base i) rows holds (Damaged q) → IsFileOf base stored q
column_named e base stored i q rows holds lt (inl (is, none)) = (2 * i + 1, omega (arith, lt), omega (arith, is))
column_named e base stored i q rows holds lt (inr (is, none)) = (2 * i, omega (arith, lt), omega (arith, is))

file_named : (es : List Written) (k : Container) (holds : Option Contents) (q : ℕ) → BlamesContainer es k holds (Damaged q) → IsFileOf k.base k.stored q
file_named es k holds q (inl (i, lt, is)) = column_named (encoding_at es i) k.base k.stored i q k.rows holds (omega (arith, lt)) is
file_named es k holds q (inr (inl is)) = column_named Auto k.base k.stored k.stored q k.rows holds (omega arith) is
file_named es k holds q (inr (inr (is, none))) = (2 * k.stored, omega arith, omega (arith, is))

-- what reading the columns that a container stores blames
pub rows_blamed : (p : Projection) (k : Container) (es : List Written) (holds : Option Contents) → es ≡ take k.stored (written_of p) → k.stored ≤ length (written_of p)
    → (fault : StoreFault) → BlamesContainer es k holds fault → HoldsNoRows es k holds fault → BlamesOne p k holds fault
rows_blamed p k es holds front le (Damaged q) is nowhere = λ m told. record {
  listed = inl (file_named es k holds q is);
  bad = inl (front_bad es (written_of p) k (Some m) q front (subst (λ (h : Option Contents). BlamesContainer es k h (Damaged q)) told is));
  none = λ rows (marks, here, more, vector, (asked, held, stamp), rest, are).
      nowhere m told (map (narrowed k.stored) asked) (subst (λ (ws : List Written). HoldsContainer m ws k (map (narrowed k.stored) asked)) (sym front) (narrow m (written_of p) k asked le held));
}
rows_blamed p k es holds front le Disk is nowhere = tt
rows_blamed p k es holds front le Memory is nowhere = tt

-- ---- the same at an earlier moment, and among others

-- the rows of containers of a projection whose files are the same
pub rows_same : (m n : Contents) (p : Projection) (ks : List Container) (rows : List Stamped) → All (SameFiles m n) ks → HoldsRows m (written_of p) ks rows → HoldsRows n (written_of p) ks rows
rows_same m n p ks rows same held = entry_kept m n (record p { containers = ks }) rows same held

pub damage_back : (m l : Contents) (first : ℕ) (p : Projection) (q : ℕ) (k : Container) → SameBelow first m l → IsBelow first p.columns k → IsDamageOf p l q k → IsDamageOf p m q k
damage_back m l first p q k same below is =
    let files = container_same m l first p.columns k same below in
    record {
      listed = is.listed;
      bad = bad_back p m l q k files is.bad;
      none = λ rows held. is.none rows (rows_same m l p (k ∷ []) rows (All-cons (SameFiles m l) k [] files (All-nil (SameFiles m l))) held);
    }

pub any_back : {X : Type 0} (P Q Low : X → Type 0) (xs : List X) → ((x : X) → Low x → P x → Q x) → All Low xs → Any P xs → Any Q xs
any_back P Q Low xs h low (i, x, lt, is, p) = (i, x, lt, is, h x (All-contains Low xs x low (i, lt, is)) p)

pub entry_back : (m l : Contents) (first : ℕ) (q : ℕ) (p : Projection) → SameBelow first m l → IsListedBelow first p → IsDamageIn l q p → IsDamageIn m q p
entry_back m l first q p same below is =
    any_back (IsDamageOf p l q) (IsDamageOf p m q) (IsBelow first p.columns) p.containers (λ k low d. damage_back m l first p q k same low d) below is

-- what is to blame at one place, after other files were written, is so among all
pub blames_among : {X : Type 0} {D : Type 0} (disk : Ghosts D) {old mid : D} (P : Contents → ℕ → X → Type 0) (Low : X → Type 0) (first : ℕ) (xs : List X) (i : ℕ) (x : X) (fault : StoreFault)
    → i < length xs → x ≡ get_or xs i x → ((m l : Contents) (q : ℕ) (y : X) → SameBelow first m l → Low y → P l q y → P m q y) → All Low xs → Moved disk (DataFrom first) NoName old mid
    → Blames (λ m q. P m q x) (disk.holds mid) fault → Blames (λ m q. Any (P m q) xs) (disk.holds old) fault
blames_among disk P Low first xs i x (Damaged q) lt is back low moved blames = λ m told.
    let (l, left, changed) = moved_told disk m told moved in
    (i, x, lt, sym is, back m l q x (below_data m l first changed) (All-contains Low xs x low (i, lt, sym is)) (blames l left))
blames_among disk P Low first xs i x Disk lt is back low moved blames = tt
blames_among disk P Low first xs i x Memory lt is back low moved blames = tt

pub none_blamed : (P : Contents → ℕ → Type 0) (holds : Option Contents) (fault : StoreFault) → fault ≡ Memory → Blames P holds fault
none_blamed P holds fault is = subst (Blames P holds) (sym is) tt

-- what holds of each fault holds of the fault of a result
pub on_err : {T : Type 0} (r : Result T StoreFault) (P Q : StoreFault → Type 0) → ((f : StoreFault) → P f → Q f) → IfErr r P → IfErr r Q
on_err (Ok x) P Q h p = tt
on_err (Err f) P Q h p = h f p

pub on_errs : {T : Type 0} (r : Result T StoreFault) (P R Q : StoreFault → Type 0) → ((f : StoreFault) → P f → R f → Q f) → IfErr r P → IfErr r R → IfErr r Q
on_errs (Ok x) P R Q h p q = tt
on_errs (Err f) P R Q h p q = h f p q

-- what holds of the only good answer
pub if_same : {T : Type 0} (r : Result T StoreFault) (x : T) (P : T → Type 0) → IfOk r (λ w. w ≡ x) → P x → IfOk r P
if_same (Ok y) x P same is = subst P (sym same) is
if_same (Err f) x P same is = tt
