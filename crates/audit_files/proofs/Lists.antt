-- The files of a container and of a catalogue, as they are walked.
use Rattle.std.proofs.Common.{◌≡◌, ℕ, ◌+◌, ◌<◌, ◌≤◌, List, [], ◌∷◌, ◌++◌, length, take, get_or, map, refl, sym, ap, ap₂, subst, ◌∙◌, arith}
use Rattle.std.specs.Prelude.{Option, Result, Ok}
use Rattle.std.specs.List.{All, flat_map, range_with_len}
use Rattle.std.proofs.lemmas.List.{map-append, get_or_default}
use Rattle.std.proofs.lemmas.List.FromFn.{length-range_with_len, get_or-range_with_len}
use Rattle.std.proofs.lemmas.List.Folds.{flat_map-map}
use Rattle.std.proofs.lemmas.Grind.{flat_map-append}
use Rattle.common_laws.specs.Maps.{Contents}
use Rattle.catalog_types.specs.declared.catalogue.Catalogue.{Catalogue}
use Rattle.catalog_types.specs.declared.catalogue.Container.{Container}
use Rattle.catalog_types.specs.declared.catalogue.Projection.{Projection}
use Rattle.catalog_types.specs.declared.catalogue.Table.{Table}
use Rattle.col_disk.specs.declared.disk.StoreFault.{StoreFault}
use Rattle.catalog_types.specs.Blank.{blank_container}
use Rattle.audit_model.specs.Listed.{File, Part, file, column_parts, vector_parts, place, places_in, places_of, files_in, files, IsSpelled}
use Rattle.audit_model.specs.First.{IsFirst}
use Rattle.audit_model.specs.Verdicts.{IsFirstFile}
use Rattle.audit_files.specs.Walks.{HasFirst, Faults, Judges, column_files, container_files, projection_files, table_files}
use Rattle.audit_files.proofs.Joins.{stopped_left, stopped_right, judged_right, walk_more, walk_stopped, walk_ended}

files_of_columns : (p : Projection) (k : Container) (is : List ℕ) → map (file p k) (flat_map column_parts is) ≡ flat_map (column_files p k) is
files_of_columns p k [] = refl
files_of_columns p k (i ∷ is) = map-append (file p k) (column_parts i) (flat_map column_parts is) ∙ ap (λ (fs : List File). column_files p k i ++ fs) (files_of_columns p k is)

abbrev pub epoch_files : Projection → Container → List File
epoch_files p k = map (file p k) (Part.EpochIndex ∷ Part.EpochBody ∷ [])

abbrev pub vector_files : Projection → Container → List File
vector_files p k = map (file p k) (vector_parts k.marks)

-- the files of a container: its columns, the epochs, the delete vector
pub in_three : (p : Projection) (k : Container) → container_files p k ≡ flat_map (column_files p k) (range_with_len 0 k.stored) ++ (epoch_files p k ++ vector_files p k)
in_three p k =
    map-append (file p k) (flat_map column_parts (range_with_len 0 k.stored)) (Part.EpochIndex ∷ Part.EpochBody ∷ vector_parts k.marks)
    ∙ ap (λ (fs : List File). fs ++ (epoch_files p k ++ vector_files p k)) (files_of_columns p k (range_with_len 0 k.stored))

-- a column at its place among those that are stored
at_column : (n i : ℕ) → i < n → (i < length (range_with_len 0 n)) × (i ≡ get_or (range_with_len 0 n) i i)
at_column n i lt = (omega (arith, lt, length-range_with_len 0 n), omega (arith, get_or-range_with_len 0 n i i lt))

pub column_more : (p : Projection) (k : Container) (i : ℕ) (holds now : Option Contents) → i < k.stored → now ≡ holds → Judges holds (flat_map (column_files p k) (take i (range_with_len 0 k.stored))) (Ok tt) → Judges now (column_files p k i) (Ok tt)
    → Judges holds (flat_map (column_files p k) (take (i + 1) (range_with_len 0 k.stored))) (Ok tt)
column_more p k i holds now lt same before here =
    let at = at_column k.stored i lt in
    walk_more (column_files p k) (range_with_len 0 k.stored) i i holds now at.0 at.1 same before here

pub column_stopped : (p : Projection) (k : Container) (i : ℕ) (holds now : Option Contents) (fault : StoreFault) → i < k.stored → now ≡ holds → Judges holds (flat_map (column_files p k) (take i (range_with_len 0 k.stored))) (Ok tt) → Faults now (column_files p k i) fault
    → Faults holds (flat_map (column_files p k) (range_with_len 0 k.stored)) fault
column_stopped p k i holds now fault lt same before here =
    let at = at_column k.stored i lt in
    walk_stopped (column_files p k) (range_with_len 0 k.stored) i i holds now fault at.0 at.1 same before here

pub columns_ended : (p : Projection) (k : Container) (i : ℕ) (holds : Option Contents) → k.stored ≤ i → Judges holds (flat_map (column_files p k) (take i (range_with_len 0 k.stored))) (Ok tt) → Judges holds (flat_map (column_files p k) (range_with_len 0 k.stored)) (Ok tt)
columns_ended p k i holds le all = walk_ended (column_files p k) (range_with_len 0 k.stored) i holds (omega (arith, le, length-range_with_len 0 k.stored)) all

-- a container whose columns, or whose epochs, stop the walk, and one whose vector is left
pub columns_stopped : (p : Projection) (k : Container) (holds : Option Contents) (fault : StoreFault) → Faults holds (flat_map (column_files p k) (range_with_len 0 k.stored)) fault → Faults holds (container_files p k) fault
columns_stopped p k holds fault here =
    subst (λ (fs : List File). Faults holds fs fault) (sym (in_three p k)) (stopped_left holds (flat_map (column_files p k) (range_with_len 0 k.stored)) (epoch_files p k ++ vector_files p k) fault here)

pub epochs_stopped : (p : Projection) (k : Container) (holds now : Option Contents) (fault : StoreFault) → now ≡ holds → Judges holds (flat_map (column_files p k) (range_with_len 0 k.stored)) (Ok tt) → Faults now (epoch_files p k) fault → Faults holds (container_files p k) fault
epochs_stopped p k holds now fault same columns here =
    subst (λ (fs : List File). Faults holds fs fault) (sym (in_three p k))
    (stopped_right holds now (flat_map (column_files p k) (range_with_len 0 k.stored)) (epoch_files p k ++ vector_files p k) fault same columns (stopped_left now (epoch_files p k) (vector_files p k) fault here))

pub container_judged : (p : Projection) (k : Container) (holds mid now : Option Contents) (r : Result (Unit {0}) StoreFault) → mid ≡ holds → now ≡ mid → Judges holds (flat_map (column_files p k) (range_with_len 0 k.stored)) (Ok tt) → Judges mid (epoch_files p k) (Ok tt)
    → Judges now (vector_files p k) r → Judges holds (container_files p k) r
container_judged p k holds mid now r first second columns epochs vector =
    subst (λ (fs : List File). Judges holds fs r) (sym (in_three p k))
    (judged_right holds mid (flat_map (column_files p k) (range_with_len 0 k.stored)) (epoch_files p k ++ vector_files p k) r first columns (judged_right mid now (epoch_files p k) (vector_files p k) r second epochs vector))

-- the container at a place
abbrev pub item : List Container → ℕ → Container
item ks i = get_or ks i blank_container

pub item_is : (ks : List Container) (i : ℕ) → i < length ks → item ks i ≡ get_or ks i (item ks i)
item_is ks i lt = get_or_default ks i _ (item ks i) lt

files_of_table : (t : Table) (ps : List Projection) → flat_map files_in (flat_map (places_in t) ps) ≡ flat_map projection_files ps
files_of_table t [] = refl
files_of_table t (p ∷ ps) =
    flat_map-append files_in (places_in t p) (flat_map (places_in t) ps) ∙ ap₂ (λ (a b : List File). a ++ b) (flat_map-map files_in (place t p) p.containers) (files_of_table t ps)

files_of_tables : (ts : List Table) → flat_map files_in (flat_map places_of ts) ≡ flat_map table_files ts
files_of_tables [] = refl
files_of_tables (t ∷ ts) =
    flat_map-append files_in (places_of t) (flat_map places_of ts) ∙ ap₂ (λ (a b : List File). a ++ b) (files_of_table t t.projections) (files_of_tables ts)

-- the files that a catalogue lists
pub by_tables : (c : Catalogue) → files c ≡ flat_map table_files c.tables
by_tables c = files_of_tables c.tables

pub all_spelled : (m : Contents) (c : Catalogue) → All (IsSpelled m) (flat_map table_files c.tables) → All (IsSpelled m) (files c)
all_spelled m c all = subst (All (IsSpelled m)) (sym (by_tables c)) all

pub first_file : (m : Contents) (c : Catalogue) (name : ℕ) → HasFirst m (flat_map table_files c.tables) name → IsFirstFile m c name
first_file m c name has = record {
  file = has.file;
  first = subst (λ (fs : List File). IsFirst (IsSpelled m) fs has.file) (sym (by_tables c)) has.first;
  named = has.named;
}
