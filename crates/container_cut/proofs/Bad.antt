-- A file that isn't what it has to be, seen from an earlier moment.
use Rattle.std.proofs.Common.{◌≡◌, ℕ, ◌+◌, ◌*◌, ◌≤◌, List, take, Option, Some, None, refl, sym, ◌∙◌, ap, subst, inl, inr, arith}
use Rattle.std.specs.FinMap.{get}
use Rattle.std.specs.List.{All}
use Rattle.common_laws.specs.Maps.{Contents}
use Rattle.col_disk.specs.declared.disk.StoreFault.TheVariants.{Damaged}
use Rattle.col_file.specs.Column.{IsNoFile}
use Rattle.col_file.specs.Held.{BlamesColumn, HoldsColumn, IsIndexFile}
use Rattle.col_file.specs.Read.{SpellsIndex}
use Rattle.col_value.specs.declared.kinds.Encoding.{Encoding}
use Rattle.col_value.specs.declared.kinds.Encoding.TheVariants.{Auto}
use Rattle.col_value.specs.declared.value.Value.{Value}
use Rattle.catalog_types.specs.declared.catalogue.Container.{Container}
use Rattle.catalog_types.specs.declared.catalogue.Projection.{Projection}
use Rattle.ros_container.specs.Encodings.{Written, written_of, encoding_at}
use Rattle.ros_container.specs.Files.{body_of, index_of}
use Rattle.ros_container.specs.Held.{BlamesContainer}
use Rattle.ros_container.specs.Rows.{IsEpochOf}
use Rattle.ros_container.proofs.Kept.{column_kept}
use Rattle.del_vector.specs.declared.mark.Mark.{Mark}
use Rattle.stored_rows.specs.Held.{HoldsVectorAt}
use Rattle.stored_rows.specs.Listed.{IsVectorFile, SameFiles}
use Rattle.vector_files.specs.Blamed.{IsNoVectorAt}
use Rattle.container_cut.specs.Blamed.{IsBadFile}
use Rattle.container_cut.proofs.Fronts.{encoding_front}

-- of contents that are told
told_one : (P : Contents → Type 0) (m : Contents) → P m → (n : Contents) → ◌≡◌ {A = Option Contents} (Some m) (Some n) → P n
told_one P m is n same = let one : m ≡ n = cc in subst P one is

-- by the encodings of the columns that a container stores
pub front_bad : (es ws : List Written) (k : Container) (holds : Option Contents) (q : ℕ) → es ≡ take k.stored ws → BlamesContainer es k holds (Damaged q) → BlamesContainer ws k holds (Damaged q)
front_bad es ws k holds q front (inl (i, lt, is)) =
    let same = ap (λ (xs : List Written). encoding_at xs i) front ∙ encoding_front ws k.stored i lt in
    inl (i, lt, subst (λ (e : Encoding). BlamesColumn e (body_of k.base i) (index_of k.base i) k.rows holds (Damaged q)) same is)
front_bad es ws k holds q front (inr epochs) = inr epochs

-- ---- the files are the same

no_file_back : (name : ℕ) (P : List ℕ → Type 0) (m l : Contents) → get l name ≡ get m name → IsNoFile name P (Some l) → IsNoFile name P (Some m)
no_file_back name P m l same none = told_one (λ n. (bytes : List ℕ) → get n name ≡ Some bytes → P bytes → ⊥) m (λ bytes at spells. none l refl bytes (same ∙ at) spells)

index_back : (index rows : ℕ) (m l : Contents) → get l index ≡ get m index → IsIndexFile index rows l → IsIndexFile index rows m
index_back index rows m l same (at, is, fits, of_rows, file) = (at, is, fits, of_rows, sym same ∙ file)

column_back : (e : Encoding) (body index rows : ℕ) (m l : Contents) (q : ℕ) → get l body ≡ get m body → get l index ≡ get m index → BlamesColumn e body index rows (Some l) (Damaged q) → BlamesColumn e body index rows (Some m) (Damaged q)
column_back e body index rows m l q same_body same_index (inl (is, none)) = inl (is, no_file_back index (SpellsIndex rows) m l same_index none)
column_back e body index rows m l q same_body same_index (inr (is, of)) =
    let there = of l refl in
    inr (
      is,
      told_one (λ n. IsIndexFile index rows n × ((vs : List Value) → HoldsColumn e body index rows n vs → ⊥)) m
          (index_back index rows m l same_index there.0, λ vs held. there.1 vs (column_kept e body index rows m l vs same_body same_index held)),
    )

body_same : (m l : Contents) (k : Container) (i : ℕ) → SameFiles m l k → i ≤ k.stored → get l (body_of k.base i) ≡ get m (body_of k.base i)
body_same m l k i same le = same (body_of k.base i) (inl (2 * i, omega (arith, le), refl))

index_same : (m l : Contents) (k : Container) (i : ℕ) → SameFiles m l k → i ≤ k.stored → get l (index_of k.base i) ≡ get m (index_of k.base i)
index_same m l k i same le = same (index_of k.base i) (inl (2 * i + 1, omega (arith, le), omega arith))

container_back : (es : List Written) (m l : Contents) (k : Container) (q : ℕ) → SameFiles m l k → BlamesContainer es k (Some l) (Damaged q) → BlamesContainer es k (Some m) (Damaged q)
container_back es m l k q same (inl (i, lt, is)) =
    let le : i ≤ k.stored = omega (arith, lt) in
    inl (i, lt, column_back (encoding_at es i) (body_of k.base i) (index_of k.base i) k.rows m l q (body_same m l k i same le) (index_same m l k i same le) is)
container_back es m l k q same (inr (inl is)) =
    let le : k.stored ≤ k.stored = omega arith in
    inr (inl (column_back Auto (body_of k.base k.stored) (index_of k.base k.stored) k.rows m l q (body_same m l k k.stored same le) (index_same m l k k.stored same le) is))
container_back es m l k q same (inr (inr (is, of))) =
    let le : k.stored ≤ k.stored = omega arith in
    let body = body_same m l k k.stored same le in
    let index = index_same m l k k.stored same le in
    let there = of l refl in
    inr (inr (
      is,
      told_one (λ n. IsIndexFile (index_of k.base k.stored) k.rows n × ((vs : List Value) → HoldsColumn Auto (body_of k.base k.stored) (index_of k.base k.stored) k.rows n vs → All (IsEpochOf k) vs → ⊥)) m
          (index_back (index_of k.base k.stored) k.rows m l index there.0, λ vs held all. there.1 vs (column_kept Auto (body_of k.base k.stored) (index_of k.base k.stored) k.rows m l vs body index held) all),
    ))

vector_back : (k : Container) (m l : Contents) (q : ℕ) (o : Option ℕ) → ((x : ℕ) → IsVectorFile o x → get l x ≡ get m x) → IsNoVectorAt k (Some l) q o → IsNoVectorAt k (Some m) q o
vector_back k m l q None same none = none
vector_back k m l q (Some n) same (is, none) = (is, told_one (λ c. (marks : List Mark) → HoldsVectorAt c k (Some n) marks → ⊥) m (λ marks held. none l refl marks (held.0, same (4 * n) refl ∙ held.1)))

pub bad_back : (p : Projection) (m l : Contents) (q : ℕ) (k : Container) → SameFiles m l k → IsBadFile p l q k → IsBadFile p m q k
bad_back p m l q k same (inl rows) = inl (container_back (written_of p) m l k q same rows)
bad_back p m l q k same (inr vector) = inr (vector_back k m l q k.marks (λ x file. same x (inr file)) vector)
