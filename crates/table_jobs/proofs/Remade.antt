-- A projection that is made out of another of its table.
use Rattle.std.proofs.Common.{◌≡◌, ℕ, Bool, true, false, List, [], ◌∷◌, map, sym, ◌∙◌, ap, ap₂, subst}
use Rattle.std.specs.Prelude.{Option, Some, None, Result, Ok, Err, IfErr, IsSomeAnd}
use Rattle.std.specs.Bool.{OnTrue}
use Rattle.std.specs.List.{All, AllZip, slice_get}
use Rattle.std.proofs.lemmas.List.Elements.{All-head, All-tail}
use Rattle.common_laws.specs.Bags.{SameBag}
use Rattle.common_laws.specs.Maps.{Contents}
use Rattle.common_laws.proofs.BagLaws.{bag_map, bag_trans}
use Rattle.col_disk.specs.Faults.{IsUnblamed}
use Rattle.col_disk.specs.Moved.{Changed, Moved, NoName}
use Rattle.col_disk.specs.declared.disk.Disk.{Ghosts}
use Rattle.col_disk.specs.declared.disk.StoreFault.{StoreFault}
use Rattle.col_disk.specs.declared.disk.StoreFault.TheVariants as fault
use Rattle.col_disk.proofs.Moving.{moved_none}
use Rattle.col_value.specs.declared.row.Stamped.{Stamped}
use Rattle.row_history.specs.History.{asked_on, on_columns, retained}
use Rattle.catalog_types.specs.declared.catalogue.Catalogue.{Catalogue}
use Rattle.catalog_types.specs.declared.catalogue.Container.{Container}
use Rattle.catalog_types.specs.declared.catalogue.Projection.{Projection}
use Rattle.ros_container.specs.Encodings.{Written, written_of}
use Rattle.container_writer.specs.Writing.{DataFrom}
use Rattle.stored_rows.specs.Held.{Holds, HoldsVector}
use Rattle.stored_rows.specs.Listed.{SameFiles}
use Rattle.stored_rows.specs.Stored.{mark_in, Beside, Projected, Stores, StoresRows}
use Rattle.stored_rows.proofs.KeptRows.{vector_kept}
use Rattle.merge_rows.specs.Places.{asked_of, rows_at, TakesPlaces}
use Rattle.merge_rows.proofs.Growing.{marked_stays}
use Rattle.proj_store.specs.Reading.{HasVectors}
use Rattle.moveout_job.specs.OnDisk.{IsBelow, IsListedBelow}
use Rattle.moveout_job.proofs.Renewed.{same_below}
use Rattle.mergeout_job.proofs.Installed.{stores_below}
use Rattle.refresh_job.specs.Job.{IsRefreshing, Refreshing, RefreshesFrom}
use Rattle.db_model.specs.Database.{Database, Table}
use Rattle.folder_model.specs.Projections.{ordinals, HasHistory, IsHistoryOf}
use Rattle.folder_model.proofs.Committing.{stands_moved}
use Rattle.sound_laws.specs.Moves.{reached_at}
use Rattle.store_commit.specs.Seen.{Seen, Stands}
use Rattle.store_commit.specs.Making.{Makes}
use Rattle.table_store.specs.Faults.{IsReadable}
use Rattle.table_store.specs.Installing.{HoldsTable}
use Rattle.table_store.proofs.Makes.{move_makes, wrote_only}
use Rattle.table_jobs.specs.Sources.{IsMadeOf}
use Rattle.table_jobs.proofs.Holding.{HasOwn, IsOwnAt, own_history, own_stores, own_vectors}
use Rattle.table_jobs.proofs.Placed.{columns_via}
use Rattle.table_jobs.proofs.Raising.{IsRooted, job_spares}

-- ---- while files of later numbers are written

stores_kept : (m l : Contents) (p : Projected) (stored : List Stamped) (next : ℕ) → IsListedBelow next p.entry → Changed (DataFrom next) NoName m l → Stores m p stored → Stores l p stored
stores_kept m l p stored next below changed (saved, are, is) = (saved, stores_below m l (written_of p.entry) p.entry.containers p.beside saved next below changed are, is)

stores_back : (m l : Contents) (es : List Written) (ks : List Container) (bs : List Beside) (rows : List Stamped) (next : ℕ) → All (IsBelow next) ks → Changed (DataFrom next) NoName m l → StoresRows l es ks bs rows → StoresRows m es ks bs rows
stores_back m l es [] [] rows next below changed stores = stores
stores_back m l es [] (b ∷ bs) rows next below changed stores = absurd stores
stores_back m l es (k ∷ ks) [] rows next below changed stores = absurd stores
stores_back m l es (k ∷ ks) (b ∷ bs) rows next below changed (here, more, vector, marked, rest, is) =
    let same : SameFiles l m k = λ q f. sym (same_below m l next k (All-head (IsBelow next) k ks below) changed q f) in
    (here, more, vector_kept l m k b.held same vector, marked_stays l m es k (mark_in b) here same marked, stores_back m l es ks bs more next (All-tail (IsBelow next) k ks below) changed rest, is)

pub refreshing_kept : (m l : Contents) (p : Projected) (r : Refreshing) (next : ℕ) → IsListedBelow next p.entry → Changed (DataFrom next) NoName m l → IsRefreshing m p r → IsRefreshing l p r
refreshing_kept m l p r next below changed is = record {
  taken = λ stored stores. is.taken stored (stores_back m l (written_of p.entry) p.entry.containers p.beside stored next below changed stores);
  rows = λ stored stores. is.rows stored (stores_back m l (written_of p.entry) p.entry.containers p.beside stored next below changed stores);
}

pub refreshing_on : (m : Contents) (p : Projected) (r s : Refreshing) → s.mark ≡ r.mark → s.via ≡ r.via → s.draft.rows ≡ r.draft.rows → s.draft.places ≡ r.draft.places → IsRefreshing m p r → IsRefreshing m p s
refreshing_on m p r s mark via rows places is = record {
  taken = λ stored stores.
      subst (λ (n : ℕ). TakesPlaces n stored s.draft.places) (sym mark) (subst (λ (ps : List ℕ). TakesPlaces r.mark stored ps) (sym places) (is.taken stored stores));
  rows = λ stored stores.
      rows ∙ is.rows stored stores ∙ ap₂ (λ (v ps : List ℕ). map (λ t. asked_on v (asked_of t)) (rows_at stored ps)) (sym via) (sym places);
}

pub refreshes_before : (mark : ℕ) (via : List ℕ) (m l n : Contents) (p : Projected) (entry : Projection) (next : ℕ) → IsListedBelow next p.entry → Changed (DataFrom next) NoName m l → RefreshesFrom mark via l n p entry → RefreshesFrom mark via m n p entry
refreshes_before mark via m l n p entry next below changed refreshes = λ stored are. refreshes stored (stores_kept m l p stored next below changed are)

pub vectors_kept : (m l : Contents) (p : Projected) (next : ℕ) → IsListedBelow next p.entry → Changed (DataFrom next) NoName m l → HasVectors m p → HasVectors l p
vectors_kept m l p next below changed vectors = by p.entry.containers p.beside below vectors
  where
    by : (ks : List Container) (bs : List Beside) → All (IsBelow next) ks → AllZip (λ k b. HoldsVector m k b.held) ks bs → AllZip (λ k b. HoldsVector l k b.held) ks bs
    by [] [] low all = tt
    by [] (b ∷ bs) low all = absurd all
    by (k ∷ ks) [] low all = absurd all
    by (k ∷ ks) (b ∷ bs) low (here, all) = (vector_kept m l k b.held (same_below m l next k (All-head (IsBelow next) k ks low) changed) here, by ks bs (All-tail (IsBelow next) k ks low) all)

-- ---- the table of a projection

-- the entry that holds what a projection of its table stores, with its own columns, holds the rows of the table
made_table : (m n : Contents) (mark : ℕ) (u : Table) (source : Projected) (entry : Projection) → IsMadeOf mark m n source entry → HasHistory m mark u.rows source → (held : List Stamped) × Holds n entry held × IsHistoryOf mark entry held u.rows
made_table m n mark u source entry made has =
    let via = made.places in
    let (held, holds, same) = made.rows has.stored has.are in
    let table : SameBag (map (on_columns via) (retained mark has.stored)) (map (on_columns via) (map (on_columns (ordinals source.entry)) (retained mark u.rows))) =
    bag_map (on_columns via) (retained mark has.stored) (map (on_columns (ordinals source.entry)) (retained mark u.rows)) has.history in (
      held,
      holds,
      bag_trans (retained mark held) (map (on_columns via) (retained mark has.stored)) (map (on_columns (ordinals entry)) (retained mark u.rows)) same
          (subst (SameBag (map (on_columns via) (retained mark has.stored))) (columns_via (ordinals source.entry) via (ordinals entry) made.are (retained mark u.rows)) table),
    )

some_weaker : {X : Type 0} (o : Option X) (P Q : X → Type 0) → ((x : X) → P x → Q x) → IsSomeAnd o P → IsSomeAnd o Q
some_weaker None P Q wider there = absurd there
some_weaker (Some x) P Q wider there = wider x there

made_holds : (m n : Contents) (mark : ℕ) (source : Projected) (entry : Projection) (d : Database) (i : ℕ) → d.ahm ≡ mark → IsMadeOf mark m n source entry → IsSomeAnd (slice_get d.tables i) (HasOwn m mark source) → HoldsTable n i entry d
made_holds m n mark source entry d i ahm made own =
    some_weaker (slice_get d.tables i) (HasOwn m mark source) (λ u. (held : List Stamped) × Holds n entry held × IsHistoryOf d.ahm entry held u.rows)
    (λ u has. subst (λ (k : ℕ). (held : List Stamped) × Holds n entry held × IsHistoryOf k entry held u.rows) (sym ahm) (made_table m n mark u source entry made has.history)) own

-- ---- the job

-- the files of an entry hold what the source at a place of the table stores
abbrev pub MakesOf : {D : Type 0} → Ghosts D → D → D → Catalogue → Projected → Projection → Type 0
MakesOf disk old mid root source entry =
    (m n : Contents) → disk.holds old ≡ Some m → disk.holds mid ≡ Some n → IsListedBelow root.next source.entry → HasVectors m source → IsMadeOf root.ahm m n source entry

-- the files of an entry were written out of a source, and then it was installed, or that failed
pub remakes : {D : Type 0} (disk : Ghosts D) {old mid new : D} (was is : Seen) (root : Catalogue) (i j k : ℕ) (source : Projected) (entry : Projection) (result : Result (Unit {0}) StoreFault) (d : Database) → IsRooted was root → IsOwnAt was.stores i k source
    → source.entry.fresh ≡ true → IsListedBelow root.next source.entry → entry.lge ≡ was.catalogue.last → Moved disk (DataFrom root.next) NoName old mid → MakesOf disk old mid root source entry
    → ((e : Database) → (stands : Stands disk was mid e) → HoldsTable stands.files i entry e → Makes disk fault.Memory was is mid new result e (reached_at entry.lge i j e))
    → Stands disk was old d → Makes disk fault.Memory was is old new result d (reached_at d.last i j d)
remakes disk {old} {mid} {new} was is root i j k source entry result d rooted there fresh below reached moved makes installs stands =
    let spare = job_spares disk old was root i k source d rooted there stands in
    let then : Stands disk was mid d = stands_moved disk {W = DataFrom root.next} {R = NoName} was.catalogue was.stores d stands spare (λ q none. absurd none) moved in
    let mark : was.catalogue.ahm ≡ root.ahm = ap (λ (c : Catalogue). c.ahm) rooted.catalogue in
    let own : IsSomeAnd (slice_get d.tables i) (HasOwn stands.files was.catalogue.ahm source) = own_history stands.files was.catalogue was.stores d i k source fresh there stands.are in
    let made : IsMadeOf was.catalogue.ahm stands.files then.files source entry =
    subst (λ (n : ℕ). IsMadeOf n stands.files then.files source entry) (sym mark)
    (makes stands.files then.files stands.quiet.told_is then.quiet.told_is below (own_vectors stands.files was.catalogue.ahm source d i own)) in
    let holds : HoldsTable then.files i entry d = made_holds stands.files then.files was.catalogue.ahm source entry d i stands.are.ahm made own in
    let last : entry.lge ≡ d.last = reached ∙ sym stands.are.last in
    move_makes disk fault.Memory was is result d (reached_at d.last i j d) stands {W = DataFrom root.next} spare moved
    (subst (λ (n : ℕ). Makes disk fault.Memory was is mid new result d (reached_at n i j d)) last (installs d then holds))

-- files were written that nothing lists
pub remake_fails : {D : Type 0} (disk : Ghosts D) {old new : D} (was : Seen) (root : Catalogue) (i j k : ℕ) (source : Projected) (f : StoreFault) (d : Database) → IsRooted was root → IsOwnAt was.stores i k source → Moved disk (DataFrom root.next) NoName old new
    → Stands disk was old d → Makes disk fault.Memory was was old new (Err f) d (reached_at d.last i j d)
remake_fails disk {old} {new} was root i j k source f d rooted there moved stands =
    wrote_only disk fault.Memory {W = DataFrom root.next} was was f d (reached_at d.last i j d) stands (job_spares disk old was root i k source d rooted there stands) moved

-- nothing was done
pub nothing_made : {D : Type 0} (disk : Ghosts D) (now : D) (was : Seen) (f : StoreFault) (d e : Database) → Stands disk was now d → Makes disk fault.Memory was was now now (Err f) d e
nothing_made disk now was f d e stands = wrote_only disk fault.Memory {W = NoName} was was f d e stands (λ q none. absurd none) (moved_none disk now)

-- the entry that was written can be read
pub remade_holds : {D : Type 0} (disk : Ghosts D) {old mid : D} (was : Seen) (root : Catalogue) (i k : ℕ) (source : Projected) (entry : Projection) (d : Database) → IsRooted was root → IsOwnAt was.stores i k source → source.entry.fresh ≡ true
    → IsListedBelow root.next source.entry → Moved disk (DataFrom root.next) NoName old mid → MakesOf disk old mid root source entry
    → Stands disk was old d → (n : Contents) × (held : List Stamped) × (disk.holds mid ≡ Some n) × Holds n entry held
remade_holds disk {old} {mid} was root i k source entry d rooted there fresh below moved makes stands =
    let spare = job_spares disk old was root i k source d rooted there stands in
    let then : Stands disk was mid d = stands_moved disk {W = DataFrom root.next} {R = NoName} was.catalogue was.stores d stands spare (λ q none. absurd none) moved in
    let own : IsSomeAnd (slice_get d.tables i) (HasOwn stands.files was.catalogue.ahm source) = own_history stands.files was.catalogue was.stores d i k source fresh there stands.are in
    let made = makes stands.files then.files stands.quiet.told_is then.quiet.told_is below (own_vectors stands.files was.catalogue.ahm source d i own) in
    let (stored, are) = own_stores stands.files was.catalogue.ahm source d i own in
    let (held, holds, same) = made.rows stored are in
    (then.files, held, then.quiet.told_is, holds)

-- a fault of making the files blames no file
pub remake_unblamed : {D : Type 0} (disk : Ghosts D) (now : D) (was : Seen) (root : Catalogue) (i k : ℕ) (source : Projected) (f : StoreFault) (d : Database) → IsOwnAt was.stores i k source → source.entry.fresh ≡ true → IsListedBelow root.next source.entry
    → ((m : Contents) → disk.holds now ≡ Some m → IsListedBelow root.next source.entry → IsReadable m source → IsUnblamed f) → Stands disk was now d → IsUnblamed f
remake_unblamed disk now was root i k source f d there fresh below blames stands =
    let own = own_history stands.files was.catalogue was.stores d i k source fresh there stands.are in
    blames stands.files stands.quiet.told_is below (on_fresh source.entry.fresh (own_stores stands.files was.catalogue.ahm source d i own))
  where
    on_fresh : (b : Bool) {P : Type 0} → P → OnTrue b P
    on_fresh true x = x
    on_fresh false x = tt

-- what is so of each fault that is answered
pub of_fault : (result : Result (Unit {0}) StoreFault) (P Q : StoreFault → Type 0) → ((f : StoreFault) → P f → Q f) → IfErr result P → IfErr result Q
of_fault (Ok u) P Q wider is = tt
of_fault (Err f) P Q wider is = wider f is
