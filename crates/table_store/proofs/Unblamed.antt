-- Over rows that are stored no file is blamed.
use Rattle.std.proofs.Common.{◌≡◌, ℕ, zero, suc, ◌<◌, Bool, true, false, List, [], ◌∷◌, length, map, get_or, sym, ◌∙◌, ap, subst, arith}
use Rattle.std.specs.Prelude.{Option, Some, None, IsSomeAnd}
use Rattle.std.specs.Bool.{OnTrue}
use Rattle.std.specs.List.{All, Any, slice_get}
use Rattle.std.proofs.lemmas.List.{get_or-map, length-map}
use Rattle.std.proofs.lemmas.List.Elements.{All-cons, All-head, All-nil, All-tail}
use Rattle.common_laws.specs.Maps.{Contents}
use Rattle.col_disk.specs.Faults.{store_fault}
use Rattle.col_disk.specs.Moved.{Moved, NoName}
use Rattle.col_disk.specs.declared.disk.Disk.{Ghosts}
use Rattle.col_disk.specs.declared.disk.DiskFault.{DiskFault}
use Rattle.col_disk.specs.declared.disk.DiskFault.TheVariants as disk_fault
use Rattle.col_disk.specs.declared.disk.StoreFault.{StoreFault}
use Rattle.col_disk.specs.declared.disk.StoreFault.TheVariants as fault
use Rattle.col_value.specs.declared.row.Asked.{Asked}
use Rattle.col_value.specs.declared.row.Stamped.{Stamped}
use Rattle.catalog_types.specs.declared.catalogue.Container.{Container}
use Rattle.catalog_types.specs.declared.catalogue.Projection.{Projection}
use Rattle.catalog_types.specs.declared.catalogue.Table as kept
use Rattle.catalog_types.specs.declared.catalogue.Catalogue.{Catalogue}
use Rattle.ros_container.specs.Encodings.{Written, written_of}
use Rattle.ros_container.specs.Held.{HoldsContainer, BlamesContainer}
use Rattle.ros_container.proofs.Blames.{blamed_holds_none}
use Rattle.del_vector.specs.declared.mark.Mark.{Mark}
use Rattle.vector_files.specs.Blamed.{IsNoVectorAt, BlamesVector}
use Rattle.stored_rows.specs.Held.{HoldsRows, Holds, HoldsVector, HoldsVectorAt}
use Rattle.stored_rows.specs.Stored.{Beside, Projected, StoresRows, Stores}
use Rattle.proj_store.specs.Loaded.{Loaded}
use Rattle.proj_store.specs.Reading.{BlamesLoad, BlamesRows}
use Rattle.container_writer.specs.Writing.{DataFrom}
use Rattle.moveout_job.specs.OnDisk.{IsListedBelow, KeepsStored}
use Rattle.db_model.specs.Database.{Database, Table}
use Rattle.folder_model.specs.Projections.{HasHistory, HasRows}
use Rattle.folder_model.specs.Tables.{StandForTables}
use Rattle.folder_model.proofs.Committing.{stands_moved}
use Rattle.store_commit.specs.Seen.{Seen, Stands}
use Rattle.col_disk.specs.Faults.{IsUnblamed}
use Rattle.table_store.specs.Faults.{IsReadable}
use Rattle.table_store.specs.Held.{at_epoch, projections_of, seen_of, IsHeld}
use Rattle.table_store.specs.Moving.{IsFreshAt}
use Rattle.table_store.proofs.Makes.{moved_stands}
use Rattle.table_store.proofs.Moved.{entry_below, fresh_place, fresh_table, stored_at}

pub of_disk : (f : DiskFault) → IsUnblamed (store_fault f)
of_disk disk_fault.Failed = tt
of_disk disk_fault.Memory = tt

-- no element has both
none_of : {X : Type 0} (P Q : X → Type 0) (xs : List X) → ((x : X) → P x → Q x → ⊥) → All P xs → Any Q xs → ⊥
none_of P Q xs apart all (k, x, lt, is, q) = apart x (subst P is (all k x lt)) q

-- ---- containers

abbrev HasRowsIn : Contents → List Written → Container → Type 0
HasRowsIn m es k = (asked : List Asked) × HoldsContainer m es k asked

stored_held : (m : Contents) (es : List Written) (ks : List Container) (bs : List Beside) (rows : List Stamped) → StoresRows m es ks bs rows → All (HasRowsIn m es) ks
stored_held m es [] [] rows is = All-nil (HasRowsIn m es)
stored_held m es [] (b ∷ bs) rows is = absurd is
stored_held m es (k ∷ ks) [] rows is = absurd is
stored_held m es (k ∷ ks) (b ∷ bs) rows (here, more, vector, (asked, held, at), rest, all) = All-cons (HasRowsIn m es) k ks (asked, held) (stored_held m es ks bs more rest)

abbrev HasVectorIn : Contents → Container → Type 0
HasVectorIn m k = (marks : List Mark) × HoldsVector m k marks

held_vectors : (m : Contents) (es : List Written) (ks : List Container) (rows : List Stamped) → HoldsRows m es ks rows → All (HasVectorIn m) ks
held_vectors m es [] rows is = All-nil (HasVectorIn m)
held_vectors m es (k ∷ ks) rows (marks, here, more, vector, marked, rest, all) = All-cons (HasVectorIn m) k ks (marks, vector) (held_vectors m es ks more rest)

no_vector : (m : Contents) (holds : Option Contents) (k : Container) (q : ℕ) (marks : List Mark) (o : Option ℕ) → holds ≡ Some m → HoldsVectorAt m k o marks → IsNoVectorAt k holds q o → ⊥
no_vector m holds k q marks None told held is = is
no_vector m holds k q marks (Some number) told held is = is.1 m told marks held

-- ---- a projection

rows_unblamed : (m : Contents) (holds : Option Contents) (p : Projected) (rows : List Stamped) (f : StoreFault) → holds ≡ Some m → Stores m p rows → BlamesRows p.entry holds f → IsUnblamed f
rows_unblamed m holds p rows fault.Disk told stores blames = tt
rows_unblamed m holds p rows fault.Memory told stores blames = tt
rows_unblamed m holds p rows (fault.Damaged q) told (saved, stores, all) blames =
    none_of (HasRowsIn m (written_of p.entry)) (λ k. BlamesContainer (written_of p.entry) k holds (fault.Damaged q)) p.entry.containers
    (λ k has blamed. blamed_holds_none (written_of p.entry) k holds (fault.Damaged q) blamed m told has.0 has.1) (stored_held m (written_of p.entry) p.entry.containers p.beside saved stores) blames

pub load_unblamed : (m : Contents) (holds : Option Contents) (p : Projection) (rows : List Stamped) (f : StoreFault) → holds ≡ Some m → Holds m p rows → BlamesLoad p.containers holds f → IsUnblamed f
load_unblamed m holds p rows fault.Disk told held blames = tt
load_unblamed m holds p rows fault.Memory told held blames = tt
load_unblamed m holds p rows (fault.Damaged q) told held blames =
    none_of (HasVectorIn m) (λ k. BlamesVector k holds (fault.Damaged q)) p.containers (λ k has blamed. no_vector m holds k q has.0 k.marks told has.1 blamed) (held_vectors m (written_of p) p.containers rows held) blames

on_true : (b : Bool) {P : Type 0} → OnTrue b P → b ≡ true → P
on_true true p is = p
on_true false p is = absurd (cc)

pub part_unblamed : (m : Contents) (holds : Option Contents) (p : Projected) (f : StoreFault) → holds ≡ Some m → p.entry.fresh ≡ true → IsReadable m p → BlamesRows p.entry holds f → IsUnblamed f
part_unblamed m holds p f told fresh readable blames =
    let (rows, stores) = on_true p.entry.fresh {P = (rows : List Stamped) × Stores m p rows} readable fresh in
    rows_unblamed m holds p rows f told stores blames

-- what each of the elements of before has, the one at a place has that stands for the same
pub one_of : {X P : Type 0} (f : X → P) (Q : P → Type 0) (before now : List X) (i : ℕ) (x : X) → map f now ≡ map f before → i < length now → x ≡ get_or now i x → All Q (map f before) → Q (f x)
one_of {X} {P} f Q before now i x same lt is all =
    let here : f x ≡ get_or (map f now) i (f x) = ap f is ∙ sym (get_or-map f now i x (f x) lt) in
    subst Q (sym here) (subst (All Q) (sym same) all i (f x) (omega (arith, lt, length-map now f)))

-- ---- a database

rows_readable : (m : Contents) (mark : ℕ) (rows : List Stamped) (p : Projected) → HasRows m mark rows p → IsReadable m p
rows_readable m mark rows p has = by p.entry.fresh has.fresh
  where
    by : (b : Bool) → OnTrue b (HasHistory m mark rows p) → OnTrue b ((stored : List Stamped) × Stores m p stored)
    by true h = (h.stored, h.are)
    by false h = tt

parts_readable : (m : Contents) (mark : ℕ) (rows : List Stamped) (ps : List Projected) → All (HasRows m mark rows) ps → All (IsReadable m) ps
parts_readable m mark rows [] all = All-nil (IsReadable m)
parts_readable m mark rows (p ∷ ps) all =
    All-cons (IsReadable m) p ps (rows_readable m mark rows p (All-head (HasRows m mark rows) p ps all)) (parts_readable m mark rows ps (All-tail (HasRows m mark rows) p ps all))

pub tables_readable : (m : Contents) (mark : ℕ) (ts : List kept.Table) (pss : List (List Projected)) (us : List Table) → StandForTables m mark ts pss us → All (All (IsReadable m)) pss
tables_readable m mark [] [] [] stand = All-nil (All (IsReadable m))
tables_readable m mark [] [] (u ∷ us) stand = absurd stand
tables_readable m mark [] (ps ∷ pss) us stand = absurd stand
tables_readable m mark (t ∷ ts) [] us stand = absurd stand
tables_readable m mark (t ∷ ts) (ps ∷ pss) [] stand = absurd stand
tables_readable m mark (t ∷ ts) (ps ∷ pss) (u ∷ us) (here, more) = All-cons (All (IsReadable m)) ps pss (parts_readable m mark u.rows ps here.rows) (tables_readable m mark ts pss us more)

pub commit_unblamed : {D : Type 0} (disk : Ghosts D) (old : D) (root : Catalogue) (last : ℕ) (tables : List (List Loaded)) (now : Seen) (d : Database) (f : StoreFault) → seen_of root last tables ≡ now → Stands disk now old d
    → ((m : Contents) → disk.holds old ≡ Some m → All (All (IsReadable m)) (map projections_of tables) → IsUnblamed f) → IsUnblamed f
commit_unblamed disk old root last tables now d f view stands blames =
    let here : Stands disk (seen_of root last tables) old d = subst (λ (s : Seen). Stands disk s old d) (sym view) stands in
    blames here.files here.quiet.told_is (tables_readable here.files root.ahm root.tables (map projections_of tables) d.tables here.are.tables)

pub move_unblamed : {D : Type 0} (disk : Ghosts D) {old new : D} (root : Catalogue) (last : ℕ) (tables : List (List Loaded)) (now : Seen) (i j : ℕ) (f : StoreFault) (d : Database) → seen_of root last tables ≡ now → IsHeld root tables
    → IsFreshAt (map projections_of tables) i j → Moved disk (DataFrom root.next) NoName old new → Stands disk now old d
    → ((m n : Contents) → disk.holds old ≡ Some m → disk.holds new ≡ Some n → All (All (IsReadable m)) (map projections_of tables) → IsUnblamed f) → IsUnblamed f
move_unblamed disk {old} {new} root last tables now i j f d view held fresh moved stands blames =
    let here : Stands disk (seen_of root last tables) old d = subst (λ (s : Seen). Stands disk s old d) (sym view) stands in
    let lt : i < length (map projections_of tables) = omega (arith, fresh_table tables i j fresh, length-map tables projections_of) in
    let spare = moved_stands disk root last (map projections_of tables) i d lt held.entries held.valid here moved in
    let then : Stands disk (seen_of root last tables) new d = stands_moved disk {W = DataFrom root.next} {R = NoName} (at_epoch last root) (map projections_of tables) d here spare (λ q no. absurd no) moved in
    blames here.files then.files here.quiet.told_is then.quiet.told_is (tables_readable here.files root.ahm root.tables (map projections_of tables) d.tables here.are.tables)

-- ---- a projection that was moved out

there : {X : Type 0} (xs : List X) (i : ℕ) (x : X) (P : X → Type 0) → i < length xs → x ≡ get_or xs i x → IsSomeAnd (slice_get xs i) P → P x
there [] i x P lt is p = absurd (omega (arith, lt))
there {X} (y ∷ xs) zero x P lt is p = subst P (sym is) p
there (y ∷ xs) (suc i) x P lt is p = there xs i x P (omega (arith, lt)) is p

pub moved_unblamed : (m n : Contents) (root : Catalogue) (tables : List (List Loaded)) (i j : ℕ) (ps : List Loaded) (p : Loaded) (entry copy : Projection) (old mid new : Option Contents) (f : StoreFault) → IsHeld root tables
    → IsFreshAt (map projections_of tables) i j → ps ≡ get_or tables i ps → p ≡ get_or ps j p → KeepsStored root.next p.stored entry old mid → copy ≡ entry → BlamesLoad copy.containers mid f → new ≡ mid
    → old ≡ Some m → new ≡ Some n → All (All (IsReadable m)) (map projections_of tables) → IsUnblamed f
moved_unblamed m n root tables i j ps p entry copy old mid new f held fresh ps_are p_is moves copied blames same was now all =
    let lt : i < length tables = fresh_table tables i j fresh in
    let below : j < length ps = fresh_place tables i j ps ps_are fresh in
    let long : i < length (map projections_of tables) = omega (arith, lt, length-map tables projections_of) in
    let wide : j < length (projections_of ps) = omega (arith, below, length-map ps (λ (q : Loaded). q.stored)) in
    let parts_are = stored_at tables i ps lt ps_are in
    let stored_is : p.stored ≡ get_or (projections_of ps) j p.stored = ap (λ (q : Loaded). q.stored) p_is ∙ sym (get_or-map (λ (q : Loaded). q.stored) ps j p p.stored below) in
    let up_to_date : p.stored.entry.fresh ≡ true =
    there (projections_of ps) j p.stored (λ q. q.entry.fresh ≡ true) wide stored_is (there (map projections_of tables) i (projections_of ps) (λ qs. IsSomeAnd (slice_get qs j) (λ q. q.entry.fresh ≡ true)) long parts_are fresh) in
    let readable : IsReadable m p.stored = subst (IsReadable m) (sym stored_is) (subst (All (IsReadable m)) (sym parts_are) (all i (projections_of ps) long) j p.stored wide) in
    let (rows, stores) = on_true p.stored.entry.fresh {P = (rows : List Stamped) × Stores m p.stored rows} readable up_to_date in
    let told : mid ≡ Some n = sym same ∙ now in
    let (left, holds, bag) = moves m n was told (entry_below root (map projections_of tables) i j (projections_of ps) p.stored held.valid held.entries long parts_are wide stored_is) rows stores in
    load_unblamed n mid copy left f told (subst (λ (e : Projection). Holds n e left) (sym copied) holds) blames

-- the same of a projection by itself
pub written_unblamed : (m n : Contents) (next : ℕ) (p : Projected) (entry copy : Projection) (old mid new : Option Contents) (f : StoreFault) → p.entry.fresh ≡ true → IsListedBelow next p.entry → KeepsStored next p entry old mid → copy ≡ entry
    → BlamesLoad copy.containers mid f → new ≡ mid → old ≡ Some m → new ≡ Some n → IsReadable m p → IsUnblamed f
written_unblamed m n next p entry copy old mid new f fresh below moves copied blames same was now readable =
    let (rows, stores) = on_true p.entry.fresh {P = (rows : List Stamped) × Stores m p rows} readable fresh in
    let told : mid ≡ Some n = sym same ∙ now in
    let (left, holds, bag) = moves m n was told below rows stores in
    load_unblamed n mid copy left f told (subst (λ (e : Projection). Holds n e left) (sym copied) holds) blames
