-- A session's changes, committed one after the other, are each table's own.
use Rattle.std.proofs.Common.{◌≡◌, ℕ, zero, suc, ◌<◌, ◌++◌, Bool, true, false, cond, List, [], ◌∷◌, length, map, refl, sym, ap, ap₂, ◌∙◌, arith, subst}
use Rattle.std.specs.Prelude.{bytes_eq, Some}
use Rattle.std.specs.List.{All, AllPairs, flat_map}
use Rattle.std.proofs.lemmas.List.{append-nil}
use Rattle.std.proofs.lemmas.List.Concat.{flat_map-cons}
use Rattle.std.proofs.lemmas.List.Elements.{All-head, All-tail, All-cons, All-nil, All-weaker}
use Rattle.std.proofs.lemmas.Slice.Eq.{bytes_eq-Decides}
use Rattle.common_laws.proofs.BagLaws.{bag_refl}
use Rattle.col_value.specs.declared.value.Value.{Value}
use Rattle.col_value.specs.declared.row.Asked.{Asked}
use Rattle.col_value.specs.declared.row.Stamped.{Stamped}
use Rattle.row_history.specs.History.{inserted_at, mark_all, Within}
use Rattle.catalog_types.specs.Lists.{Pairwise}
use Rattle.db_model.specs.Database.{Database, Table, table_named}
use Rattle.db_model.specs.State.{Changes, pending_rows, pending_deletes, commit_into, change_named, commit_changes}
use Rattle.db_model.specs.Sound.{RowFits, names_of, all_names, IsSoundDatabase, ChangesFit, IsSoundSession}
use Rattle.sound_laws.specs.Commits.{commit_table}
use Rattle.sound_laws.proofs.Pairs.{pairs_head, pairs_back, all_back}
use Rattle.sound_laws.proofs.Created.{Differ, differ_turned}

-- ---- names

pub pairs_wise : {X : Type 0} (R : X → X → Type 0) (xs : List X) → AllPairs R xs → Pairwise R xs
pairs_wise R [] pairs = tt
pairs_wise R (x ∷ xs) pairs = (λ k d lt. pairs zero (suc k) d (omega arith) (omega (arith, lt)), pairs_wise R xs (λ i j d lt below. pairs (suc i) (suc j) d (omega (arith, lt)) (omega (arith, below))))

-- ---- the changes of one table, and the others

abbrev pub Apart : List ℕ → List Changes → Type 0
Apart name changes = All (λ c. Differ name c.table) changes

none_pending : (name : List ℕ) (changes : List Changes) → Apart name changes → (pending_rows name changes ≡ []) × (pending_deletes name changes ≡ [])
none_pending name [] apart = (refl, refl)
none_pending name (c ∷ changes) apart =
    let other : bytes_eq c.table name ≡ false = differ_turned name c.table (All-head (λ x. Differ name x.table) c changes apart) in
    let (rows, deletes) = none_pending name changes (All-tail (λ x. Differ name x.table) c changes apart) in (
      ap (λ (b : Bool). cond b c.rows (pending_rows name changes)) other ∙ rows,
      ap (λ (b : Bool). cond b c.deletes (pending_deletes name changes)) other ∙ deletes,
    )

abbrev with_pending : ℕ → Table → List (List Value) → List Asked → Table
with_pending epoch u rows deletes = record u { rows = mark_all epoch deletes u.rows ++ map (inserted_at epoch) rows }

untouched_table : (epoch : ℕ) (changes : List Changes) (u : Table) → Apart u.name changes → commit_table epoch changes u ≡ u
untouched_table epoch changes u apart =
    let (rows, deletes) = none_pending u.name changes apart in
    ap₂ (with_pending epoch u) rows deletes ∙ ap (λ (rs : List Stamped). record u { rows = rs }) (append-nil u.rows)

first_pending : (epoch : ℕ) (c : Changes) (changes : List Changes) (u : Table) → bytes_eq c.table u.name ≡ true → commit_into epoch c u ≡ commit_table epoch (c ∷ changes) u
first_pending epoch c changes u is =
    sym (ap₂ (with_pending epoch u) (ap (λ (b : Bool). cond b c.rows (pending_rows u.name changes)) is) (ap (λ (b : Bool). cond b c.deletes (pending_deletes u.name changes)) is))

other_pending : (epoch : ℕ) (c : Changes) (changes : List Changes) (u : Table) → Differ c.table u.name → commit_table epoch changes u ≡ commit_table epoch (c ∷ changes) u
other_pending epoch c changes u off =
    sym (ap₂ (with_pending epoch u) (ap (λ (b : Bool). cond b c.rows (pending_rows u.name changes)) off) (ap (λ (b : Bool). cond b c.deletes (pending_deletes u.name changes)) off))

others_pending : (epoch : ℕ) (c : Changes) (changes : List Changes) (us : List Table) → All (λ u. Differ c.table u.name) us → map (commit_table epoch changes) us ≡ map (commit_table epoch (c ∷ changes)) us
others_pending epoch c changes [] all = refl
others_pending epoch c changes (u ∷ us) all =
    ap₂ (λ (v : Table) (vs : List Table). v ∷ vs) (other_pending epoch c changes u (All-head (λ x. Differ c.table x.name) u us all)) (others_pending epoch c changes us (All-tail (λ x. Differ c.table x.name) u us all))

abbrev pub NamesDiffer : List Table → Type 0
NamesDiffer us = Pairwise (λ u v. Differ u.name v.name) us

turned_all : (n : List ℕ) (u : Table) (us : List Table) → u.name ≡ n → All (λ v. Differ u.name v.name) us → All (λ v. Differ n v.name) us
turned_all n u us is all = subst (λ (x : List ℕ). All (λ v. Differ x v.name) us) is all

one_changed : (epoch : ℕ) (c : Changes) (changes : List Changes) (us : List Table) → Apart c.table changes → NamesDiffer us
    → map (commit_table epoch changes) (change_named c.table (commit_into epoch c) us) ≡ map (commit_table epoch (c ∷ changes)) us
one_changed epoch c changes [] apart names = refl
one_changed epoch c changes (u ∷ us) apart (here, more) = by (bytes_eq u.name c.table) refl (one_changed epoch c changes us apart more)
  where
    by : (b : Bool) → bytes_eq u.name c.table ≡ b → map (commit_table epoch changes) (change_named c.table (commit_into epoch c) us) ≡ map (commit_table epoch (c ∷ changes)) us
        → map (commit_table epoch changes) (cond b (commit_into epoch c u ∷ us) (u ∷ change_named c.table (commit_into epoch c) us)) ≡ map (commit_table epoch (c ∷ changes)) (u ∷ us)
    by true is rest =
        let same : u.name ≡ c.table = (bytes_eq-Decides u.name c.table).0 is in
        let turned : bytes_eq c.table u.name ≡ true = ap₂ bytes_eq (sym same) same ∙ is in
        ap₂ (λ (v : Table) (vs : List Table). v ∷ vs)
        (untouched_table epoch changes (commit_into epoch c u) (subst (λ (n : List ℕ). Apart n changes) (sym same) apart) ∙ first_pending epoch c changes u turned)
        (others_pending epoch c changes us (turned_all c.table u us same here))
    by false is rest = ap₂ (λ (v : Table) (vs : List Table). v ∷ vs) (other_pending epoch c changes u (differ_turned u.name c.table is)) rest

names_changed : (n : List ℕ) (epoch : ℕ) (c : Changes) (us : List Table) → map (λ u. u.name) (change_named n (commit_into epoch c) us) ≡ map (λ u. u.name) us
names_changed n epoch c [] = refl
names_changed n epoch c (u ∷ us) = by (bytes_eq u.name n) (names_changed n epoch c us)
  where
    by : (b : Bool) → map (λ v. v.name) (change_named n (commit_into epoch c) us) ≡ map (λ v. v.name) us
        → map (λ v. v.name) (cond b (commit_into epoch c u ∷ us) (u ∷ change_named n (commit_into epoch c) us)) ≡ map (λ v. v.name) (u ∷ us)
    by true rest = refl
    by false rest = ap (λ (ns : List (List ℕ)). u.name ∷ ns) rest

-- that names differ is a fact of the names
all_of_names : (n : List ℕ) (us vs : List Table) → map (λ u. u.name) us ≡ map (λ u. u.name) vs → All (λ u. Differ n u.name) us → All (λ v. Differ n v.name) vs
all_of_names n us [] same all = All-nil (λ v. Differ n v.name)
all_of_names n [] (v ∷ vs) same all = absurd (cc)
all_of_names n (u ∷ us) (v ∷ vs) same all =
    let here : u.name ≡ v.name = cc in
    let rest : map (λ x. x.name) us ≡ map (λ x. x.name) vs = cc in
    All-cons (λ x. Differ n x.name) v vs (subst (Differ n) here (All-head (λ x. Differ n x.name) u us all)) (all_of_names n us vs rest (All-tail (λ x. Differ n x.name) u us all))

of_names : (us vs : List Table) → map (λ u. u.name) us ≡ map (λ u. u.name) vs → NamesDiffer us → NamesDiffer vs
of_names us [] same names = tt
of_names [] (v ∷ vs) same names = absurd (cc)
of_names (u ∷ us) (v ∷ vs) same (here, more) =
    let first : u.name ≡ v.name = cc in
    let rest : map (λ x. x.name) us ≡ map (λ x. x.name) vs = cc in
    (subst (λ (n : List ℕ). All (λ x. Differ n x.name) vs) first (all_of_names u.name us vs rest here), of_names us vs rest more)

untouched_tables : (epoch : ℕ) (us : List Table) → us ≡ map (commit_table epoch []) us
untouched_tables epoch [] = refl
untouched_tables epoch (u ∷ us) = ap₂ (λ (v : Table) (vs : List Table). v ∷ vs) (sym (untouched_table epoch [] u (All-nil (λ c. Differ u.name c.table)))) (untouched_tables epoch us)

pub all_committed : (epoch : ℕ) (changes : List Changes) (us : List Table) → Pairwise (λ c e. Differ c.table e.table) changes → NamesDiffer us → commit_changes epoch changes us ≡ map (commit_table epoch changes) us
all_committed epoch [] us once names = untouched_tables epoch us
all_committed epoch (c ∷ changes) us (apart, once) names =
    all_committed epoch changes (change_named c.table (commit_into epoch c) us) once (of_names us (change_named c.table (commit_into epoch c) us) (sym (names_changed c.table epoch c us)) names)
    ∙ one_changed epoch c changes us apart names

-- ---- the tables of a sound database

all_of_tables : (P : List ℕ → Type 0) (ts : List Table) → All P (all_names ts) → All (λ t. P t.name) ts
all_of_tables P [] all = All-nil (λ t. P t.name)
all_of_tables P (t ∷ ts) all =
    let both : All P (names_of t ++ all_names ts) = subst (All P) (flat_map-cons names_of t ts) all in
    All-cons (λ u. P u.name) t ts (All-head P t.name (map (λ s. s.name) t.shapes ++ all_names ts) both) (all_of_tables P ts (all_back P (names_of t) (all_names ts) both))

names_wise : (ts : List Table) → AllPairs Differ (all_names ts) → NamesDiffer ts
names_wise [] pairs = tt
names_wise (t ∷ ts) pairs =
    let both : AllPairs Differ (names_of t ++ all_names ts) = subst (AllPairs Differ) (flat_map-cons names_of t ts) pairs in
    let first : All (Differ t.name) (map (λ s. s.name) t.shapes ++ all_names ts) = pairs_head Differ t.name (map (λ s. s.name) t.shapes ++ all_names ts) both in
    (all_of_tables (Differ t.name) ts (all_back (Differ t.name) (map (λ s. s.name) t.shapes) (all_names ts) first), names_wise ts (pairs_back Differ (names_of t) (all_names ts) both))

pub names_differ : (d : Database) → IsSoundDatabase d → NamesDiffer d.tables
names_differ d sound = names_wise d.tables sound.names

pub changes_committed : (epoch : ℕ) (d : Database) (changes : List Changes) → IsSoundDatabase d → IsSoundSession d changes → commit_changes epoch changes d.tables ≡ map (commit_table epoch changes) d.tables
changes_committed epoch d changes sound session = all_committed epoch changes d.tables (pairs_wise (λ c e. Differ c.table e.table) changes session.once) (names_differ d sound)

-- ---- changes that fit

name_itself : (n : List ℕ) → bytes_eq n n ≡ true
name_itself n = (bytes_eq-Decides n n).1 refl

pub found_all : (us : List Table) → NamesDiffer us → All (λ u. table_named u.name us ≡ Some u) us
found_all [] names = All-nil _
found_all (u ∷ us) (here, more) =
    All-cons (λ v. table_named v.name (u ∷ us) ≡ Some v) u us (ap (λ (b : Bool). cond b (Some u) (table_named u.name us)) (name_itself u.name)) (each us here (found_all us more))
  where
    each : (vs : List Table) → All (λ v. Differ u.name v.name) vs → All (λ v. table_named v.name us ≡ Some v) vs → All (λ v. table_named v.name (u ∷ us) ≡ Some v) vs
    each [] apart found = All-nil _
    each (v ∷ vs) apart found =
        All-cons (λ w. table_named w.name (u ∷ us) ≡ Some w) v vs
        (ap (λ (b : Bool). cond b (Some u) (table_named v.name us)) (All-head (λ w. Differ u.name w.name) v vs apart) ∙ All-head (λ w. table_named w.name us ≡ Some w) v vs found)
        (each vs (All-tail (λ w. Differ u.name w.name) v vs apart) (All-tail (λ w. table_named w.name us ≡ Some w) v vs found))

abbrev pub HasFitting : Database → List Changes → Table → Type 0
HasFitting d changes u = All (RowFits u.columns) (pending_rows u.name changes)

rows_fit : (d : Database) (changes : List Changes) (u : Table) → table_named u.name d.tables ≡ Some u → All (ChangesFit d) changes → HasFitting d changes u
rows_fit d [] u found fit = All-nil (RowFits u.columns)
rows_fit d (c ∷ changes) u found fit = by (bytes_eq c.table u.name) refl (rows_fit d changes u found (All-tail (ChangesFit d) c changes fit))
  where
    first : ChangesFit d c
    first = All-head (ChangesFit d) c changes fit

    by : (b : Bool) → bytes_eq c.table u.name ≡ b → HasFitting d changes u → All (RowFits u.columns) (cond b c.rows (pending_rows u.name changes))
    by true is rest =
        let same : c.table ≡ u.name = (bytes_eq-Decides c.table u.name).0 is in
        let both : Some first.table ≡ Some u = sym first.there ∙ ap (λ (n : List ℕ). table_named n d.tables) same ∙ found in
        let table : first.table ≡ u = cc in
        subst (λ (t : Table). All (RowFits t.columns) c.rows) table first.rows
    by false is rest = rest

deletes_within : (d : Database) (changes : List Changes) (u : Table) → table_named u.name d.tables ≡ Some u → All (ChangesFit d) changes → Within (pending_deletes u.name changes) u.rows
deletes_within d [] u found fit = (u.rows, bag_refl u.rows)
deletes_within d (c ∷ changes) u found fit = by (bytes_eq c.table u.name) refl (deletes_within d changes u found (All-tail (ChangesFit d) c changes fit))
  where
    first : ChangesFit d c
    first = All-head (ChangesFit d) c changes fit

    by : (b : Bool) → bytes_eq c.table u.name ≡ b → Within (pending_deletes u.name changes) u.rows → Within (cond b c.deletes (pending_deletes u.name changes)) u.rows
    by true is rest =
        let same : c.table ≡ u.name = (bytes_eq-Decides c.table u.name).0 is in
        let both : Some first.table ≡ Some u = sym first.there ∙ ap (λ (n : List ℕ). table_named n d.tables) same ∙ found in
        let table : first.table ≡ u = cc in
        subst (λ (t : Table). Within c.deletes t.rows) table first.deletes
    by false is rest = rest

pub all_within : (d : Database) (changes : List Changes) (us : List Table) → All (λ u. table_named u.name d.tables ≡ Some u) us → All (ChangesFit d) changes → All (λ u. Within (pending_deletes u.name changes) u.rows) us
all_within d changes us found fit = All-weaker (λ u. table_named u.name d.tables ≡ Some u) (λ u. Within (pending_deletes u.name changes) u.rows) (λ u is. deletes_within d changes u is fit) us found

pub all_fit : (d : Database) (changes : List Changes) (us : List Table) → All (λ u. table_named u.name d.tables ≡ Some u) us → All (ChangesFit d) changes → All (HasFitting d changes) us
all_fit d changes us found fit = All-weaker (λ u. table_named u.name d.tables ≡ Some u) (HasFitting d changes) (λ u is. rows_fit d changes u is fit) us found
