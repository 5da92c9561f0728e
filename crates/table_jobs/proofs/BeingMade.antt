-- A refresh that is made step by step, beside what comes into memory.
use Rattle.std.proofs.Common.{◌≡◌, ℕ, zero, suc, ◌+◌, ◌≤◌, ◌<◌, ◌++◌, true, false, List, [], ◌∷◌, length, map, get_or, Option, Some, None, refl, sym, ◌∙◌, ap, ap₂, subst, arith}
use Rattle.std.specs.Prelude.{Result, Ok, Err, OnOk, IsSomeAnd}
use Rattle.std.specs.Option.{option_or}
use Rattle.std.specs.List.{All, AllZip, range_with_len, slice_get}
use Rattle.std.proofs.lemmas.List.Elements.{All-head, All-tail, All-weaker}
use Rattle.common_laws.specs.Bags.{SameBag}
use Rattle.common_laws.specs.Maps.{Contents}
use Rattle.col_disk.specs.Moved.{Changed, Moved, NoName}
use Rattle.col_disk.specs.Faults.{IsUnblamed, store_fault}
use Rattle.col_disk.specs.declared.disk.Disk.{Ghosts}
use Rattle.col_disk.specs.declared.disk.DiskFault.{DiskFault}
use Rattle.col_disk.specs.declared.disk.DiskFault.TheVariants as disk_fault
use Rattle.col_disk.specs.declared.disk.StoreFault.{StoreFault}
use Rattle.col_disk.specs.declared.disk.StoreFault.TheVariants as fault
use Rattle.col_disk.proofs.Moving.{moved_told}
use Rattle.col_value.specs.declared.row.Asked.{Asked}
use Rattle.col_value.specs.declared.row.Stamped.{Stamped}
use Rattle.row_history.specs.History.{asked_on, is_retained}
use Rattle.catalog_types.specs.declared.catalogue.Catalogue.{Catalogue}
use Rattle.catalog_types.specs.declared.catalogue.Container.{Container}
use Rattle.catalog_types.specs.declared.catalogue.Projection.{Projection}
use Rattle.ros_container.specs.Encodings.{Written, written_of}
use Rattle.container_writer.specs.Writing.{DataFrom}
use Rattle.container_draft.specs.Draft.{Drafted, IsDraft}
use Rattle.del_vector.specs.declared.mark.Mark.{Mark}
use Rattle.del_vector.specs.Marks.{epoch_at}
use Rattle.stored_rows.specs.Held.{stamped_from, Holds}
use Rattle.stored_rows.specs.Stored.{mark_in, AreLater, Beside, IsLoaded, IsMemoryAbove, IsUnmarked, Projected, StoresRows}
use Rattle.stored_rows.proofs.OneList.{one_marks, OneVector}
use Rattle.merge_rows.specs.Places.{asked_of, row_at, rows_at, AreGrown, TakesPlaces}
use Rattle.merge_rows.proofs.Taken.{asked_grown, grown_append, places_grown}
use Rattle.proj_store.specs.Loaded.{Loaded}
use Rattle.proj_store.specs.Reading.{HasVectors}
use Rattle.proj_store.specs.Sound.{IsLoadable}
use Rattle.moveout_job.specs.OnDisk.{IsListedBelow}
use Rattle.refresh_job.specs.Job.{IsRefreshing, Refreshing, RefreshesFrom}
use Rattle.db_model.specs.Database.{Database}
use Rattle.folder_model.specs.Projections.{ordinals}
use Rattle.sound_laws.specs.Moves.{reached_at}
use Rattle.store_commit.specs.Making.{Makes}
use Rattle.store_commit.specs.Seen.{Seen, Stands}
use Rattle.table_store.specs.Faults.{BlamesHeld}
use Rattle.table_store.specs.Held.{projections_of}
use Rattle.table_store.specs.Installing.{HoldsTable, IsRenewal, IsRenewalAt}
use Rattle.table_store.specs.Moving.{with_entry_at}
use Rattle.table_jobs.specs.Jobs.{DrawsAnew, HasReached, OfProjection}
use Rattle.table_jobs.specs.Remaking.{IsBeingMade, IsMadeOn, IsMadeOver, Remaking}
use Rattle.table_jobs.specs.Sources.{ArePlaces, IsMadeOf}
use Rattle.table_jobs.specs.Working.{StaysWhile}
use Rattle.table_jobs.proofs.Holding.{own_history, own_vectors, HasOwn, IsOwnAt}
use Rattle.table_jobs.proofs.Raising.{draws_anew, own_entry, IsRooted}
use Rattle.table_jobs.proofs.Remade.{refreshing_kept, refreshing_on, remade_holds, remake_fails, remakes, MakesOf}
use Rattle.table_jobs.proofs.Rooted.{own_below, own_reached, own_renewal, own_there, own_valid, IsEntryOf}
use Rattle.table_jobs.proofs.There.{has_reached, sort_within, IsSource, IsTarget}
use Rattle.table_jobs.proofs.UnderWay.{as_read, entry_fresh, gone_before, grown_long, held_first, own_above, own_has_entry, own_is, plain, read_loaded, settled_append, settled_at, stamped_more, stamped_plain, stays_while, unmarked_kept, AreSettled, HasEntryAt}

-- ---- rows with some columns

each_on : (via : List ℕ) (xs : List Stamped) → map (asked_on via) (map asked_of xs) ≡ map (λ s. asked_on via (asked_of s)) xs
each_on via [] = refl
each_on via (s ∷ xs) = ap (λ (more : List Asked). asked_on via (asked_of s) ∷ more) (each_on via xs)

on_grown : (via : List ℕ) (old new : List Stamped) (places : List ℕ) → AreGrown old new → map (λ s. asked_on via (asked_of s)) (rows_at new places) ≡ map (λ s. asked_on via (asked_of s)) (rows_at old places)
on_grown via old new places grown = sym (each_on via (rows_at new places)) ∙ ap (map (asked_on via)) (asked_grown old new places grown) ∙ each_on via (rows_at old places)

-- ---- without the marks that are in memory alone

-- what containers store with the marks in memory, beside what they have on the disk
record InMemory (m : Contents) (es : List Written) (epoch : ℕ) (ks : List Container) (bs : List Beside) (saved : List Stamped) : Type 0 where
  pub rows : List Stamped
  pub are : StoresRows m es ks bs rows
  pub grown : AreGrown saved rows
  pub settled : AreSettled epoch saved rows

in_memory : (m : Contents) (es : List Written) (epoch : ℕ) (ks : List Container) (bs : List Beside) (saved : List Stamped) → All (λ b. AreLater epoch b.fresh) bs → StoresRows m es ks (map plain bs) saved → InMemory m es epoch ks bs saved
in_memory m es epoch [] [] saved later stores = record { rows = []; are = refl; grown = subst (λ (xs : List Stamped). AreGrown xs []) (sym stores) tt; settled = subst (λ (xs : List Stamped). AreSettled epoch xs []) (sym stores) tt }
in_memory m es epoch [] (b ∷ bs) saved later stores = absurd stores
in_memory m es epoch (k ∷ ks) [] saved later stores = absurd stores
in_memory m es epoch (k ∷ ks) (b ∷ bs) saved later (here, more, vector, (asked, held, marked), rest, is) =
    let behind = in_memory m es epoch ks bs more (All-tail (λ c. AreLater epoch c.fresh) b bs later) rest in
    let (grown, settled) = stamped_plain epoch 0 b (All-head (λ c. AreLater epoch c.fresh) b bs later) asked in
    let old = stamped_from 0 (mark_in (plain b)) asked in
    let now = stamped_from 0 (mark_in b) asked in
    let both : saved ≡ old ++ more = is ∙ ap (λ (xs : List Stamped). xs ++ more) marked in
    record {
      rows = now ++ behind.rows;
      are = (now, behind.rows, vector, (asked, held, refl), behind.are, refl);
      grown = subst (λ (xs : List Stamped). AreGrown xs (now ++ behind.rows)) (sym both) (grown_append old more now behind.rows grown behind.grown);
      settled = subst (λ (xs : List Stamped). AreSettled epoch xs (now ++ behind.rows)) (sym both) (settled_append epoch old more now behind.rows settled behind.settled);
    }

pub read_refreshing : (m : Contents) (p : Projected) (r : Refreshing) (epoch : ℕ) → r.mark ≤ epoch → IsMemoryAbove epoch p → IsRefreshing m p r → IsRefreshing m (as_read p) r
read_refreshing m p r epoch within above is = record {
  taken = λ saved stores.
      let now = in_memory m (written_of p.entry) epoch p.entry.containers p.beside saved above.marks stores in
      let taken = is.taken now.rows now.are in
      record {
        dropped = taken.dropped;
        once = subst (λ (n : ℕ). SameBag (r.draft.places ++ taken.dropped) (range_with_len 0 n)) (grown_long saved now.rows now.grown) taken.once;
        gone = All-weaker (λ i. is_retained r.mark (row_at now.rows i) ≡ false) (λ i. is_retained r.mark (row_at saved i) ≡ false)
            (λ i gone. gone_before r.mark epoch (row_at saved i) (row_at now.rows i) within (settled_at epoch saved now.rows i now.settled) gone) taken.dropped taken.gone;
      };
  rows = λ saved stores.
      let now = in_memory m (written_of p.entry) epoch p.entry.containers p.beside saved above.marks stores in
      is.rows now.rows now.are ∙ on_grown r.via saved now.rows r.draft.places now.grown;
}

-- ---- with marks that came since

-- what containers had when they were read from the disk, beside what they store
record WasRead (m : Contents) (es : List Written) (ks : List Container) (bs : List Beside) (rows : List Stamped) : Type 0 where
  pub saved : List Stamped
  pub are : StoresRows m es ks bs saved
  pub grown : AreGrown saved rows

marks_more : (b c : Beside) → b.held ≡ c.held → b.fresh ≡ [] → (i e : ℕ) → mark_in b i ≡ Some e → mark_in c i ≡ Some e
marks_more b c same none i e is = held_first (epoch_at c.held i) (epoch_at c.fresh i) e (sym (ap₂ (λ (h f : List Mark). option_or (epoch_at h i) (epoch_at f i)) same none) ∙ is)

was_read : OneVector → (m : Contents) (es : List Written) (ks : List Container) (bs cs : List Beside) (rows : List Stamped) → AllZip (IsUnmarked m) ks bs → StoresRows m es ks cs rows → WasRead m es ks bs rows
was_read one m es [] [] [] rows read stores = record { saved = []; are = refl; grown = subst (λ (xs : List Stamped). AreGrown [] xs) (sym stores) tt }
was_read one m es [] [] (c ∷ cs) rows read stores = absurd stores
was_read one m es [] (b ∷ bs) cs rows read stores = absurd read
was_read one m es (k ∷ ks) [] cs rows read stores = absurd read
was_read one m es (k ∷ ks) (b ∷ bs) [] rows read stores = absurd stores
was_read one m es (k ∷ ks) (b ∷ bs) (c ∷ cs) rows ((vector, none), read) (here, more, own, (asked, held, marked), rest, is) =
    let behind = was_read one m es ks bs cs more read rest in
    let same : b.held ≡ c.held = one_marks one m k b.held c.held vector own in
    let old = stamped_from 0 (mark_in b) asked in
    let now = stamped_from 0 (mark_in c) asked in
    let both : rows ≡ now ++ more = is ∙ ap (λ (xs : List Stamped). xs ++ more) marked in
    record {
      saved = old ++ behind.saved;
      are = (old, behind.saved, vector, (asked, held, refl), behind.are, refl);
      grown = subst (λ (xs : List Stamped). AreGrown (old ++ behind.saved) xs) (sym both)
          (grown_append old behind.saved now more (stamped_more 0 (mark_in b) (mark_in c) asked (marks_more b c same none)) behind.grown);
    }

-- the refresh is one of the source as it is now
pub now_refreshing : OneVector → (m : Contents) (old p : Projected) (r : Refreshing) → p.entry ≡ old.entry → IsLoaded m old → IsRefreshing m old r → IsRefreshing m p r
now_refreshing one m old p r entry read is = record {
  taken = λ stored stores.
      let was = back stored stores in
      places_grown r.mark was.saved stored r.draft.places was.grown (is.taken was.saved was.are);
  rows = λ stored stores.
      let was = back stored stores in
      is.rows was.saved was.are ∙ sym (on_grown r.via was.saved stored r.draft.places was.grown);
}
  where
    back : (stored : List Stamped) → StoresRows m (written_of p.entry) p.entry.containers p.beside stored → WasRead m (written_of old.entry) old.entry.containers old.beside stored
    back stored stores = was_read one m (written_of old.entry) old.entry.containers old.beside p.beside stored read.beside (subst (λ (e : Projection). StoresRows m (written_of e) e.containers p.beside stored) entry stores)

-- ---- while files of later numbers are written

pub being_made_kept : (m n : Contents) (next : ℕ) (old new : Remaking) → IsListedBelow next old.source → Changed (DataFrom next) NoName m n → IsMadeOn old new → (IsDraft m (written_of old.shape) old.job.draft → IsDraft n (written_of old.shape) new.job.draft)
    → IsBeingMade m old → IsBeingMade n new
being_made_kept m n next old new below changed on draft is =
    let listed : IsListedBelow next is.loaded.entry = subst (IsListedBelow next) (sym is.entry) below in
    let by_source : ArePlaces (ordinals new.source) old.job.via (ordinals old.shape) = subst (λ (e : Projection). ArePlaces (ordinals e) old.job.via (ordinals old.shape)) (sym on.source) is.columns in
    let by_via : ArePlaces (ordinals new.source) new.job.via (ordinals old.shape) = subst (λ (v : List ℕ). ArePlaces (ordinals new.source) v (ordinals old.shape)) (sym on.via) by_source in
    record {
      loaded = is.loaded;
      entry = is.entry ∙ sym on.source;
      read = record { beside = unmarked_kept m n next is.loaded.entry.containers is.loaded.beside listed changed is.read.beside; unsaved = is.read.unsaved };
      columns = subst (λ (e : Projection). ArePlaces (ordinals new.source) new.job.via (ordinals e)) (sym on.shape) by_via;
      refreshing = refreshing_on n is.loaded old.job new.job on.mark on.via (ap (λ (d : Drafted). d.rows) on.draft) (ap (λ (d : Drafted). d.places) on.draft) (refreshing_kept m n is.loaded old.job next listed changed is.refreshing);
      draft = subst (λ (e : Projection). IsDraft n (written_of e) new.job.draft) (sym on.shape) (draft is.draft);
    }

pub goes_being_made : {D F : Type 0} (disk : Ghosts D) {old new : D} (result : Result (Unit {0}) F) (next : ℕ) (was is : Remaking) → IsListedBelow next was.source → Moved disk (DataFrom next) NoName old new → OnOk result (IsMadeOn was is)
    → OnOk result ((m n : Contents) → disk.holds old ≡ Some m → disk.holds new ≡ Some n → IsDraft m (written_of was.shape) was.job.draft → IsDraft n (written_of was.shape) is.job.draft)
    → OnOk result ((m n : Contents) → disk.holds old ≡ Some m → disk.holds new ≡ Some n → IsBeingMade m was → IsBeingMade n is)
goes_being_made disk (Err f) next was is below moved more draft = tt
goes_being_made disk {old} {new} (Ok u) next was is below moved more draft = λ m n told left made.
    let (l, told_l, changed) = moved_told disk {W = DataFrom next} {R = NoName} m told moved in
    let both : Some l ≡ Some n = sym told_l ∙ left in
    let same : l ≡ n = cc in
    being_made_kept m n next was is below (subst (λ (x : Contents). Changed (DataFrom next) NoName m x) same changed) more (draft m n told left) made

-- ---- of a store

in_parts : (ps : List Projected) (j : ℕ) (entry : Projection) → IsSomeAnd (slice_get ps j) (λ q. q.entry ≡ entry) → (p : Projected) × IsSomeAnd (slice_get ps j) (λ q. q ≡ p) × (p.entry ≡ entry)
in_parts [] j entry there = absurd there
in_parts (q ∷ ps) zero entry there = (q, refl, there)
in_parts (q ∷ ps) (suc j) entry there = in_parts ps j entry there

-- the projection that stands at a place with an entry
pub owned : (stores : List (List Projected)) (i j : ℕ) (entry : Projection) → HasEntryAt stores i j entry → (p : Projected) × IsOwnAt stores i j p × (p.entry ≡ entry)
owned [] i j entry there = absurd there
owned (ps ∷ pss) zero j entry there = in_parts ps j entry there
owned (ps ∷ pss) (suc i) j entry there = owned pss i j entry there

-- ---- its begin

pub begins_being_made : {D : Type 0} (disk : Ghosts D) (now : D) (was : Seen) (root : Catalogue) (i k : ℕ) (p : Projected) (w : Remaking) (d : Database) (m : Contents) → IsRooted was root → IsOwnAt was.stores i k p → p.entry.fresh ≡ true → w.source ≡ p.entry → w.job.mark ≡ root.ahm
    → ArePlaces (ordinals w.source) w.job.via (ordinals w.shape) → (HasVectors m p → IsRefreshing m p w.job) → IsDraft m (written_of w.shape) w.job.draft → Stands disk was now d → disk.holds now ≡ Some m → IsBeingMade m w
begins_being_made disk now was root i k p w d m rooted own fresh entry mark columns refreshing draft stands told =
    let files_is : Some stands.files ≡ Some m = sym stands.quiet.told_is ∙ told in
    let files : stands.files ≡ m = cc in
    let has = own_history stands.files was.catalogue was.stores d i k p fresh own stands.are in
    let vectors : HasVectors m p = subst (λ (x : Contents). HasVectors x p) files (own_vectors stands.files was.catalogue.ahm p d i has) in
    let reached : root.ahm ≤ p.entry.lge = own_reached root p.entry fresh (own_valid was root i k p rooted own) in
    record {
      loaded = as_read p;
      entry = sym entry;
      read = read_loaded m p vectors;
      columns = columns;
      refreshing = read_refreshing m p w.job p.entry.lge (subst (λ (n : ℕ). n ≤ p.entry.lge) (sym mark) reached) (own_above stands.files was.catalogue.ahm p d i has) (refreshing vectors);
      draft = draft;
    }

pub begins_over : (s : Seen) (root : Catalogue) (i j k : ℕ) (p q : Projected) (w : Remaking) → IsRooted s root → IsTarget s root i j p → IsSource s root i k q → w.table ≡ i → w.place ≡ j → w.from ≡ k → w.shape ≡ p.entry → w.source ≡ q.entry
    → w.job.draft.base ≡ root.next → w.job.mark ≡ root.ahm → IsMadeOver s w
begins_over s root i j k p q w rooted to of table place from shape source base mark = record {
  own = subst (λ (a : ℕ). HasEntryAt s.stores a w.place w.shape) (sym table) (subst (λ (b : ℕ). HasEntryAt s.stores i b w.shape) (sym place) (own_has_entry s.stores i j p w.shape to.there shape));
  of = subst (λ (a : ℕ). HasEntryAt s.stores a w.from w.source) (sym table) (subst (λ (b : ℕ). HasEntryAt s.stores i b w.source) (sym from) (own_has_entry s.stores i k q w.source of.there source));
  stale = ap (λ (e : Projection). e.fresh) shape ∙ to.stale;
  fresh = ap (λ (e : Projection). e.fresh) source ∙ of.fresh;
  next = ap (λ (c : Catalogue). c.next) rooted.catalogue ∙ sym base;
  mark = ap (λ (c : Catalogue). c.ahm) rooted.catalogue ∙ sym mark;
}

-- ---- its steps

pub remake_below : (s : Seen) (root : Catalogue) (w : Remaking) → IsRooted s root → IsMadeOver s w → IsListedBelow root.next w.source
remake_below s root w rooted over =
    let (p, own, entry) = owned s.stores w.table w.from w.source over.of in
    subst (IsListedBelow root.next) entry (own_below root p.entry (own_valid s root w.table w.from p rooted own))

pub stays_being_made : {D : Type 0} (disk : Ghosts D) {old new : D} (s : Seen) (root : Catalogue) (w : Remaking) (d : Database) → IsRooted s root → IsMadeOver s w → Moved disk (DataFrom root.next) NoName old new → Stands disk s old d → StaysWhile disk s old new d
stays_being_made disk s root w d rooted over moved stands =
    let (p, own, entry) = owned s.stores w.table w.from w.source over.of in
    stays_while disk s root w.table w.from p d rooted own moved stands

-- ---- its end

pub end_made : OneVector → (m n : Contents) (w : Remaking) (p : Projected) (entry : Projection) → p.entry ≡ w.source → IsBeingMade m w → ordinals entry ≡ ordinals w.shape
    → (IsRefreshing m p w.job → IsDraft m (written_of w.shape) w.job.draft → RefreshesFrom w.job.mark w.job.via m n p entry) → IsMadeOf w.job.mark m n p entry
end_made one m n w p entry same is columns refreshes =
    let by_source : ArePlaces (ordinals p.entry) w.job.via (ordinals w.shape) = subst (λ (e : Projection). ArePlaces (ordinals e) w.job.via (ordinals w.shape)) (sym same) is.columns in
    record {
      places = w.job.via;
      are = subst (λ (xs : List ℕ). ArePlaces (ordinals p.entry) w.job.via xs) (sym columns) by_source;
      rows = refreshes (now_refreshing one m is.loaded p w.job (same ∙ sym is.entry) is.read is.refreshing) is.draft;
    }

-- the files of the entry that was written hold what the source stores
abbrev pub MakesBy : {D : Type 0} → Ghosts D → D → D → Remaking → Projected → Projection → Type 0
MakesBy disk old mid w p entry =
    (m n : Contents) → disk.holds old ≡ Some m → disk.holds mid ≡ Some n → HasVectors m p → p.entry ≡ w.source → IsBeingMade m w → IsMadeOf w.job.mark m n p entry

-- the source of a refresh at its end
record IsEnding {D : Type 0} (disk : Ghosts D) (old mid : D) (was : Seen) (root : Catalogue) (w : Remaking) (p : Projected) : Type 0 where
  pub fresh : p.entry.fresh ≡ true
  pub same : p.entry ≡ w.source
  pub below : IsListedBelow root.next p.entry
  pub mark : w.job.mark ≡ root.ahm
  pub moved : Moved disk (DataFrom root.next) NoName old mid

ending : {D : Type 0} (disk : Ghosts D) {old mid : D} (was : Seen) (root : Catalogue) (w : Remaking) (p : Projected) → IsRooted was root → IsMadeOver was w → IsOwnAt was.stores w.table w.from p → Moved disk (DataFrom w.job.draft.base) NoName old mid → IsEnding disk old mid was root w p
ending disk {old} {mid} was root w p rooted over own moved =
    let same : p.entry ≡ w.source = own_is was.stores w.table w.from p w.source own over.of in
    record {
      fresh = ap (λ (e : Projection). e.fresh) same ∙ over.fresh;
      same = same;
      below = own_below root p.entry (own_valid was root w.table w.from p rooted own);
      mark = sym over.mark ∙ ap (λ (k : Catalogue). k.ahm) rooted.catalogue;
      moved = subst (λ (n : ℕ). Moved disk (DataFrom n) NoName old mid) (sym over.next ∙ ap (λ (k : Catalogue). k.next) rooted.catalogue) moved;
    }

ends_making : {D : Type 0} (disk : Ghosts D) {old mid : D} (was : Seen) (root : Catalogue) (p : Projected) (entry : Projection) (w : Remaking) → IsEnding disk old mid was root w p → ((m : Contents) → disk.holds old ≡ Some m → IsBeingMade m w) → MakesBy disk old mid w p entry → MakesOf disk old mid root p entry
ends_making disk was root p entry w is under made = λ m n told left below vectors. subst (λ (k : ℕ). IsMadeOf k m n p entry) is.mark (made m n told left vectors is.same (under m told))

abbrev pub Installs : {D : Type 0} → Ghosts D → D → D → Seen → Seen → Remaking → Projection → Result (Unit {0}) StoreFault → Type 0
Installs disk mid new was is w entry result =
    (e : Database) → (stands : Stands disk was mid e) → HoldsTable stands.files w.table entry e → Makes disk fault.Memory was is mid new result e (reached_at entry.lge w.table w.place e)

pub finishes : {D : Type 0} (disk : Ghosts D) {old mid new : D} (was is : Seen) (root : Catalogue) (w : Remaking) (p : Projected) (entry : Projection) (result : Result (Unit {0}) StoreFault) (d : Database) → IsRooted was root → IsMadeOver was w → IsOwnAt was.stores w.table w.from p
    → entry.lge ≡ was.catalogue.last → Moved disk (DataFrom w.job.draft.base) NoName old mid → ((m : Contents) → disk.holds old ≡ Some m → IsBeingMade m w) → MakesBy disk old mid w p entry
    → Installs disk mid new was is w entry result → Stands disk was old d → Makes disk fault.Memory was is old new result d (reached_at d.last w.table w.place d)
finishes disk {old} {mid} was is root w p entry result d rooted over own reached moved under made installs stands =
    let end : IsEnding disk old mid was root w p = ending disk was root w p rooted over own moved in
    remakes disk was is root w.table w.place w.from p entry result d rooted own end.fresh end.below reached end.moved (ends_making disk was root p entry w end under made) installs stands

pub finish_fails : {D : Type 0} (disk : Ghosts D) {old new : D} (was : Seen) (root : Catalogue) (w : Remaking) (p : Projected) (f : StoreFault) (d : Database) → IsRooted was root → IsMadeOver was w → IsOwnAt was.stores w.table w.from p
    → Moved disk (DataFrom w.job.draft.base) NoName old new → Stands disk was old d → Makes disk fault.Memory was was old new (Err f) d (reached_at d.last w.table w.place d)
finish_fails disk {old} {new} was root w p f d rooted over own moved stands =
    let end : IsEnding disk old new was root w p = ending disk was root w p rooted over own moved in
    remake_fails disk was root w.table w.place w.from p f d rooted own end.moved stands

pub finish_holds : {D : Type 0} (disk : Ghosts D) {old mid : D} (was : Seen) (root : Catalogue) (w : Remaking) (p : Projected) (entry : Projection) (d : Database) → IsRooted was root → IsMadeOver was w → IsOwnAt was.stores w.table w.from p
    → Moved disk (DataFrom w.job.draft.base) NoName old mid → ((m : Contents) → disk.holds old ≡ Some m → IsBeingMade m w) → MakesBy disk old mid w p entry
    → Stands disk was old d → (n : Contents) × (held : List Stamped) × (disk.holds mid ≡ Some n) × Holds n entry held
finish_holds disk {old} {mid} was root w p entry d rooted over own moved under made stands =
    let end : IsEnding disk old mid was root w p = ending disk was root w p rooted over own moved in
    remade_holds disk was root w.table w.from p entry d rooted own end.fresh end.below end.moved (ends_making disk was root p entry w end under made) stands

-- the projection that it makes
pub record IsStaleOwn (was : Seen) (root : Catalogue) (w : Remaking) : Type 0 where
  pub own : Projected
  pub there : IsOwnAt was.stores w.table w.place own
  pub same : own.entry ≡ w.shape
  pub stale : OfProjection w.table w.place was.catalogue (λ e. e.fresh ≡ false)
  pub valid : IsEntryOf root w.shape

pub stale_own : (was : Seen) (root : Catalogue) (w : Remaking) → IsRooted was root → IsMadeOver was w → IsStaleOwn was root w
stale_own was root w rooted over =
    let (p, there, same) = owned was.stores w.table w.place w.shape over.own in
    record {
      own = p;
      there = there;
      same = same;
      stale = own_entry was root w.table w.place p (λ e. e.fresh ≡ false) rooted there (ap (λ (e : Projection). e.fresh) same ∙ over.stale);
      valid = subst (IsEntryOf root) same (own_valid was root w.table w.place p rooted there);
    }

pub finish_there : (was : Seen) (root : Catalogue) (w : Remaking) (entry : Projection) → IsRooted was root → IsMadeOver was w → IsRenewal w.shape entry → IsRenewalAt was.stores w.table w.place entry
finish_there was root w entry rooted over renewal =
    let own = stale_own was root w rooted over in
    own_renewal was.stores w.table w.place own.own entry (subst (λ (e : Projection). IsRenewal e entry) (sym own.same) renewal) own.there

pub finish_loads : (was : Seen) (root : Catalogue) (w : Remaking) (entry : Projection) → IsRooted was root → IsMadeOver was w → (All (λ i. i < length w.shape.columns) w.shape.sort → IsLoadable entry) → IsLoadable entry
finish_loads was root w entry rooted over loads = let own = stale_own was root w rooted over in loads (sort_within root w.shape own.valid)

pub finish_draws : (was is : Seen) (root : Catalogue) (w : Remaking) (next : ℕ) (entry : Projection) → IsRooted was root → IsMadeOver was w → is.catalogue ≡ with_entry_at was.catalogue.last next w.table w.place entry was.catalogue
    → w.job.draft.base ≤ next → next ≤ w.job.draft.base + 262 → length entry.containers ≤ 2 → OfProjection w.table w.place was.catalogue (DrawsAnew w.table w.place 2 was.catalogue is.catalogue)
finish_draws was is root w next entry rooted over same from upto count =
    let own = stale_own was root w rooted over in
    let base = over.next in
    own_entry was root w.table w.place own.own (DrawsAnew w.table w.place 2 was.catalogue is.catalogue) rooted own.there
    (draws_anew was is w.table w.place 2 next own.own.entry entry same (omega (arith, base, from)) (omega (arith, base, upto)) (omega (arith, count)))

pub finish_reaches : (was is : Seen) (root : Catalogue) (w : Remaking) (next : ℕ) (entry : Projection) → IsRooted was root → IsMadeOver was w → IsRenewal w.shape entry → entry.lge ≡ was.catalogue.last → is.catalogue ≡ with_entry_at was.catalogue.last next w.table w.place entry was.catalogue
    → OfProjection w.table w.place is.catalogue (HasReached is.catalogue.last)
finish_reaches was is root w next entry rooted over renewal last same =
    let own = stale_own was root w rooted over in
    has_reached was is w.table w.place next w.shape entry own.stale renewal last same

pub fault_unblamed : (f : DiskFault) → IsUnblamed (store_fault f)
fault_unblamed disk_fault.Failed = tt
fault_unblamed disk_fault.Memory = tt

pub fault_held : (stores : List (List Projected)) (holds : Option Contents) (f : DiskFault) → BlamesHeld stores holds (store_fault f)
fault_held stores holds disk_fault.Failed = tt
fault_held stores holds disk_fault.Memory = tt

-- ---- as its fields are seen

pub remake_own : (ts : List (List Loaded)) (s : Seen) (w v : Remaking) (ps qs : List Loaded) (p : Loaded) → w ≡ v → IsMadeOver s v → map projections_of ts ≡ s.stores → ps ≡ get_or ts w.table ps → qs ≡ ps → p ≡ get_or qs w.from p → IsOwnAt s.stores w.table w.from p.stored
remake_own ts s w v ps qs p same over are ps_is qs_is p_is =
    let own : IsMadeOver s w = subst (IsMadeOver s) (sym same) over in
    own_there ts s.stores w.table w.from ps qs p are (entry_fresh s.stores w.table w.from w.source own.of own.fresh) ps_is qs_is p_is
