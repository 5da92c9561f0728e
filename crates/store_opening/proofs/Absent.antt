-- Which listed files are there.
use Rattle.std.proofs.Common.{◌≡◌, ℕ, zero, suc, ◌+◌, ◌*◌, ◌<◌, ◌≤◌, true, false, List, [], ◌∷◌, length, take, get_or, refl, sym, ◌∙◌, ap, subst, inl, inr, arith}
use Rattle.std.specs.Prelude.{◌⊎◌, ◌^◌, Option, Some, None, IsSome, IfSome, IfNone, Contains}
use Rattle.std.specs.FinMap.{get}
use Rattle.std.proofs.Math.Dec.{eqb}
use Rattle.std.proofs.lemmas.Bool.Decides.{eqb_tells}
use Rattle.std.proofs.lemmas.List.Kept.{AllPairs-from_increasing}
use Rattle.std.specs.List.{All, Any}
use Rattle.std.proofs.lemmas.List.Elements.{All-more, All-weaker}
use Rattle.std.proofs.lemmas.List.{take_all}
use Rattle.std.specs.List.Sorted.{IsNonDecreasing, IsStrictlyIncreasing}
use Rattle.common_laws.specs.Maps.{Contents}
use Rattle.col_disk.specs.Calls.{AnswersNames}
use Rattle.col_value.specs.declared.row.Stamped.{Stamped}
use Rattle.catalog_types.specs.declared.catalogue.Container.{Container}
use Rattle.catalog_types.specs.declared.catalogue.Catalogue.{Catalogue}
use Rattle.catalog_types.specs.declared.catalogue.Projection.{Projection}
use Rattle.catalog_types.specs.declared.catalogue.Table.{Table}
use Rattle.catalog_types.specs.Parts.{IsContainer, IsProjection, IsTable}
use Rattle.catalog_types.specs.Valid.{IsValid}
use Rattle.del_vector.specs.declared.mark.Mark.{Mark}
use Rattle.ros_container.specs.Encodings.{Written}
use Rattle.ros_container.specs.Files.{body_of, index_of}
use Rattle.stored_rows.specs.Held.{HoldsRows, HoldsVectorAt}
use Rattle.stored_rows.specs.Listed.{IsListedOf, IsVectorFile}
use Rattle.store_opening.specs.Missing.{HasFilesAmong, HasFilesIn, HasFilesOf, HasNames, HasNamesAmong, HasNamesIn, IsMissingAmong, IsNameable}
use Rattle.store_opening.specs.Opening.{BlamesAbsent, HasFiles, OfEach}

halves : (j : ℕ) → ((i : ℕ) × (j ≡ 2 * i)) ⊎ ((i : ℕ) × (j ≡ 2 * i + 1))
halves zero = inl (0, refl)
halves (suc j) = by (halves j)
  where
    by : ((i : ℕ) × (j ≡ 2 * i)) ⊎ ((i : ℕ) × (j ≡ 2 * i + 1)) → ((i : ℕ) × (suc j ≡ 2 * i)) ⊎ ((i : ℕ) × (suc j ≡ 2 * i + 1))
    by (inl (i, is)) = inr (i, omega (arith, is))
    by (inr (i, is)) = inl (i + 1, omega (arith, is))

below : (i n : ℕ) → i < n + 1 → (i < n) ⊎ (i ≡ n)
below i zero lt = inr (omega (arith, lt))
below zero (suc n) lt = inl (omega arith)
below (suc i) (suc n) lt = by (below i n (omega (arith, lt)))
  where
    by : (i < n) ⊎ (i ≡ n) → (suc i < suc n) ⊎ (suc i ≡ suc n)
    by (inl less) = inl (omega (arith, less))
    by (inr same) = inr (ap suc same)

found : (m : Contents) (q name : ℕ) (bytes : List ℕ) → q ≡ name → get m name ≡ Some bytes → IsSome (get m q)
found m q name bytes same is = subst (λ (x : ℕ). IsSome (get m x)) (sym same) (subst IsSome (sym is) refl)

vector_there : (m : Contents) (k : Container) (o : Option ℕ) (marks : List Mark) (q : ℕ) → HoldsVectorAt m k o marks → IsVectorFile o q → IsSome (get m q)
vector_there m k None marks q held none = absurd none
vector_there m k (Some n) marks q (of, file) is = subst (λ (x : ℕ). IsSome (get m x)) (sym is) (subst IsSome (sym file) refl)

-- each file of a container that holds rows is there
pub held_there : (m : Contents) (w : List Written) (k : Container) (rows : List Stamped) (q : ℕ) → HoldsRows m w (k ∷ []) rows → IsListedOf k q → IsSome (get m q)
held_there m w k rows q (marks, here, more, vector, marked, rest, all) (inr is) = vector_there m k k.marks marks q vector is
held_there m w k rows q (marks, here, more, vector, (asked, held, at), rest, all) (inl (j, lt, is)) = by (halves j)
  where
    body : (i : ℕ) → j ≡ 2 * i → (i < k.stored) ⊎ (i ≡ k.stored) → IsSome (get m q)
    body i half (inl less) = let file = held.each i less in found m q (body_of k.base i) file.bytes (is ∙ ap (λ (n : ℕ). 4 * (k.base + n)) half) file.body_file
    body i half (inr own) = let file = held.epochs in found m q (body_of k.base k.stored) file.bytes (is ∙ ap (λ (n : ℕ). 4 * (k.base + n)) (half ∙ ap (λ (n : ℕ). 2 * n) own)) file.body_file

    index : (i : ℕ) → j ≡ 2 * i + 1 → (i < k.stored) ⊎ (i ≡ k.stored) → IsSome (get m q)
    index i half (inl less) = let file = held.each i less in found m q (index_of k.base i) _ (is ∙ indexed i half) file.index_file
      where
        indexed : (n : ℕ) → j ≡ 2 * n + 1 → 4 * (k.base + j) ≡ index_of k.base n
        indexed n one = omega (arith, one)
    index i half (inr own) = let file = held.epochs in found m q (index_of k.base k.stored) _ (is ∙ indexed k.stored (half ∙ ap (λ (n : ℕ). 2 * n + 1) own)) file.index_file
      where
        indexed : (n : ℕ) → j ≡ 2 * n + 1 → 4 * (k.base + j) ≡ index_of k.base n
        indexed n one = omega (arith, one)

    by : ((i : ℕ) × (j ≡ 2 * i)) ⊎ ((i : ℕ) × (j ≡ 2 * i + 1)) → IsSome (get m q)
    by (inl (i, half)) = body i half (below i k.stored (omega (arith, lt, half)))
    by (inr (i, half)) = index i half (below i k.stored (omega (arith, lt, half)))

-- names that rise don't fall
rising_falls_not : (names : List ℕ) → IsStrictlyIncreasing names → IsNonDecreasing names
rising_falls_not names rising = λ i j d le lt. by i j d le lt (eqb_tells i j)
  where
    by : (i j d : ℕ) → i ≤ j → j < length names → ((eqb i j ≡ true) × (i ≡ j)) ⊎ ((eqb i j ≡ false) × (i ≡ j → ⊥)) → get_or names i d ≤ get_or names j d
    by i j d le lt (inl (is, same)) = subst (λ (k : ℕ). get_or names i d ≤ get_or names k d) same (omega arith)
    by i j d le lt (inr (is, other)) = let less : get_or names i d < get_or names j d = AllPairs-from_increasing names rising i j d (omega (arith, le, other)) lt in omega (arith, less)

none_there : {X : Type 0} (o : Option X) → (IsSome o → ⊥) → o ≡ None
none_there None not = refl
none_there (Some x) not = absurd (not refl)

-- a listed file that isn't among the names of a folder is absent
pub missing_absent : (c : Catalogue) (holds : Option Contents) (names : List ℕ) (q : ℕ) → AnswersNames holds names → Any (IsMissingAmong names q) c.tables → BlamesAbsent c holds q
missing_absent c holds names q answers (i, t, lt, is, (j, p, within, at, (n, k, below, there, missing))) =
    ((i, t, lt, is, (j, p, within, at, (n, k, below, there, missing.listed))), λ m told. let lists = answers m told in none_there (get m q) (λ some. missing.absent (rising_falls_not names lists.rising) ((lists.there q).1 some)))

-- and one that is among them is there
pub files_there : (c : Catalogue) (holds : Option Contents) (names : List ℕ) → AnswersNames holds names → All (HasFilesAmong names) c.tables → (m : Contents) → holds ≡ Some m → OfEach (HasFiles m) c
files_there c holds names answers all m told = All-weaker (HasFilesAmong names) (λ t. All (λ p. All (HasFiles m) p.containers) t.projections) in_table c.tables all
  where
    in_entry : (p : Projection) → HasFilesIn names p → All (HasFiles m) p.containers
    in_entry p has = All-weaker (HasFilesOf names) (HasFiles m) (λ k files q listed. ((answers m told).there q).0 (files q listed)) p.containers has

    in_table : (t : Table) → HasFilesAmong names t → All (λ p. All (HasFiles m) p.containers) t.projections
    in_table t has = All-weaker (HasFilesIn names) (λ p. All (HasFiles m) p.containers) in_entry t.projections has

-- ---- one after the other

pub all_more : {X : Type 0} (P : X → Type 0) (xs : List X) (i : ℕ) (x : X) → i < length xs → x ≡ get_or xs i x → All P (take i xs) → P x → All P (take (i + 1) xs)
all_more P xs i x lt is before here = All-more P xs i x lt before (subst P is here)

pub all_seen : {X : Type 0} (P : X → Type 0) (xs : List X) (i : ℕ) → length xs ≤ i → All P (take i xs) → All P xs
all_seen {X} P xs i past all = subst (All P) (take_all i xs past) all

pub where_none : {X : Type 0} (Fact Other : Type 0) (o : Option X) → (Fact → Other) → IfNone o Fact → IfNone o Other
where_none Fact Other None h is = h is
where_none Fact Other (Some x) h is = tt

-- the files of a container are those of its columns and its vector
pub all_files : (names : List ℕ) (k : Container) → ((i : ℕ) → i < 2 * (k.stored + 1) → Contains names (4 * (k.base + i))) → ((q : ℕ) → IsVectorFile k.marks q → Contains names q) → HasFilesOf names k
all_files names k columns vector q (inl (i, lt, is)) = subst (Contains names) (sym is) (columns i lt)
all_files names k columns vector q (inr file) = vector q file

pub one_file_more : (names : List ℕ) (base j : ℕ) → ((i : ℕ) → i < j → Contains names (4 * (base + i))) → Contains names (4 * (base + j)) → (i : ℕ) → i < j + 1 → Contains names (4 * (base + i))
one_file_more names base j before here i lt = by (below i j lt)
  where
    by : (i < j) ⊎ (i ≡ j) → Contains names (4 * (base + i))
    by (inl less) = before i less
    by (inr same) = subst (λ (n : ℕ). Contains names (4 * (base + n))) (sym same) here

-- the numbers of a valid catalogue are numbers of names
vector_named : (next : ℕ) (o : Option ℕ) → next < 2 ^ 62 → IfSome o (λ n. (1 ≤ n) × (n < next)) → IsNameable o
vector_named next None small is = tt
vector_named next (Some n) small is = omega (arith, small, is.1)

pub valid_named : (c : Catalogue) → IsValid c → All HasNamesAmong c.tables
valid_named c valid =
    All-weaker (IsTable c) HasNamesAmong
    (λ t is. All-weaker (IsProjection c t) HasNamesIn
    (λ p h. All-weaker (IsContainer c.next (length p.columns) p.lge) HasNames (λ k of. record { files = omega (arith, of.files.1, valid.next); vector = vector_named c.next k.marks valid.next of.vector }) p.containers h.containers)
    t.projections is.projections)
    c.tables valid.tables
