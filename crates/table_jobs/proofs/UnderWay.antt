-- A merge that is made step by step, beside what comes into memory.
use Rattle.std.proofs.Common.{◌≡◌, ℕ, zero, suc, ◌+◌, ◌≤◌, ◌<◌, ◌++◌, Bool, true, false, List, [], ◌∷◌, length, map, get_or, Option, Some, None, refl, sym, ◌∙◌, ap, ap₂, subst, arith}
use Rattle.std.specs.Prelude.{nat_lt, Result, Ok, Err, OnOk, IsSomeAnd}
use Rattle.std.specs.Option.{option_map_or, option_or}
use Rattle.std.specs.List.{All, AllZip, range_with_len, slice_get}
use Rattle.std.proofs.lemmas.Bool.Decides.{nat_tests}
use Rattle.std.proofs.lemmas.List.Elements.{All-head, All-tail, All-weaker}
use Rattle.common_laws.specs.Bags.{SameBag}
use Rattle.common_laws.specs.Maps.{Contents}
use Rattle.col_disk.specs.Moved.{Changed, Moved, NoName}
use Rattle.col_disk.specs.declared.disk.Disk.{Ghosts}
use Rattle.col_disk.specs.declared.disk.StoreFault.TheVariants as fault
use Rattle.col_disk.proofs.Moving.{moved_told}
use Rattle.catalog_types.specs.declared.catalogue.Catalogue.{Catalogue}
use Rattle.db_model.specs.Database.{Database}
use Rattle.store_commit.specs.Seen.{Seen, Stands}
use Rattle.proj_store.specs.Loaded.{Loaded}
use Rattle.table_store.specs.Held.{projections_of}
use Rattle.table_store.specs.Moving.{IsFreshAt}
use Rattle.table_store.proofs.Makes.{wrote_only}
use Rattle.col_value.specs.declared.row.Asked.{Asked}
use Rattle.col_value.specs.declared.row.Stamped.{Stamped}
use Rattle.row_history.specs.History.{is_retained}
use Rattle.catalog_types.specs.declared.catalogue.Container.{Container}
use Rattle.catalog_types.specs.declared.catalogue.Projection.{Projection}
use Rattle.ros_container.specs.Encodings.{Written, written_of}
use Rattle.container_writer.specs.Writing.{DataFrom}
use Rattle.container_draft.specs.Draft.{IsDraft}
use Rattle.del_vector.specs.declared.mark.Mark.{Mark}
use Rattle.del_vector.specs.Marks.{epoch_at}
use Rattle.stored_rows.specs.Held.{HoldsVector, stamped_from}
use Rattle.stored_rows.specs.Stored.{mark_in, AreLater, Beside, IsLoaded, IsMemoryAbove, IsUnmarked, Projected, StoresRows}
use Rattle.stored_rows.proofs.KeptRows.{vector_kept}
use Rattle.stored_rows.proofs.OneList.{one_marks, OneVector}
use Rattle.merge_rows.specs.Inputs.{chosen, Grows, GrowsEach, IsMerging, KeepsFrom, Merging}
use Rattle.merge_rows.specs.Places.{row_at, AreGrown}
use Rattle.merge_rows.proofs.Growing.{merging_grows}
use Rattle.merge_rows.proofs.Taken.{asked_grown, grown_append}
use Rattle.proj_store.specs.Reading.{HasVectors}
use Rattle.moveout_job.specs.OnDisk.{IsBelow, IsListedBelow}
use Rattle.moveout_job.proofs.Renewed.{same_below}
use Rattle.table_jobs.specs.Jobs.{MakesRise}
use Rattle.table_jobs.specs.Working.{GoesOn, IsOfStore, IsUnderWay, StaysWhile, Working}
use Rattle.table_jobs.proofs.Holding.{merging_kept, own_history, own_vectors, HasOwn, IsOwnAt}
use Rattle.table_jobs.proofs.Raising.{job_spares, IsRooted}
use Rattle.table_jobs.proofs.Rooted.{own_fresh, own_reached, own_there, own_valid}
use Rattle.table_jobs.proofs.Writing.{later_moved}

-- ---- without the marks that are in memory alone

abbrev pub plain : Beside → Beside
plain b = record { held = b.held; fresh = [] }

abbrev pub as_read : Projected → Projected
as_read p = record { entry = p.entry; beside = map plain p.beside; unsaved = [] }

-- a row that is deleted at or before an epoch is so in both
abbrev pub IsSettled : ℕ → Stamped → Stamped → Type 0
IsSettled epoch s t = (e : ℕ) → t.del ≡ Some e → e ≤ epoch → s.del ≡ Some e

abbrev pub AreSettled : ℕ → List Stamped → List Stamped → Type 0
AreSettled epoch xs ys = AllZip (IsSettled epoch) xs ys

pub held_first : (held fresh : Option ℕ) (e : ℕ) → option_or held None ≡ Some e → option_or held fresh ≡ Some e
held_first (Some d) fresh e is = is
held_first None fresh e is = absurd (cc)

settled_first : (epoch : ℕ) (held fresh : Option ℕ) (e : ℕ) → ((d : ℕ) → fresh ≡ Some d → epoch < d) → option_or held fresh ≡ Some e → e ≤ epoch → option_or held None ≡ Some e
settled_first epoch (Some d) fresh e later is le = is
settled_first epoch None (Some d) e later is le = let past : epoch < d = later d refl in let same : d ≡ e = cc in absurd (omega (arith, past, same, le))
settled_first epoch None None e later is le = absurd (cc)

pub stamped_plain : (epoch i : ℕ) (b : Beside) → AreLater epoch b.fresh → (rows : List Asked) → AreGrown (stamped_from i (mark_in (plain b)) rows) (stamped_from i (mark_in b) rows) × AreSettled epoch (stamped_from i (mark_in (plain b)) rows) (stamped_from i (mark_in b) rows)
stamped_plain epoch i b later [] = (tt, tt)
stamped_plain epoch i b later (a ∷ rows) =
    let (grown, settled) = stamped_plain epoch (i + 1) b later rows in (
      (record { row = refl; ins = refl; deleted = λ e is. held_first (epoch_at b.held i) (epoch_at b.fresh i) e is }, grown),
      (λ e is le. settled_first epoch (epoch_at b.held i) (epoch_at b.fresh i) e (λ d was. later i d was) is le, settled),
    )

pub settled_append : (epoch : ℕ) (xs ys us vs : List Stamped) → AreSettled epoch xs us → AreSettled epoch ys vs → AreSettled epoch (xs ++ ys) (us ++ vs)
settled_append epoch [] ys [] vs first second = second
settled_append epoch [] ys (u ∷ us) vs first second = absurd first
settled_append epoch (x ∷ xs) ys [] vs first second = absurd first
settled_append epoch (x ∷ xs) ys (u ∷ us) vs (a, first) second = (a, settled_append epoch xs ys us vs first second)

-- what chosen containers have on the disk, beside what they store
record OnDisk (m : Contents) (es : List Written) (epoch : ℕ) (ks : List Container) (bs : List Beside) (rows : List Stamped) : Type 0 where
  pub saved : List Stamped
  pub are : StoresRows m es ks bs saved
  pub grown : AreGrown saved rows
  pub settled : AreSettled epoch saved rows

on_disk : (m : Contents) (es : List Written) (epoch : ℕ) (flags : List Bool) (ks : List Container) (bs : List Beside) (rows : List Stamped) → AllZip (λ k b. HoldsVector m k b.held) ks bs → All (λ b. AreLater epoch b.fresh) bs
    → StoresRows m es (chosen flags ks) (chosen flags bs) rows → OnDisk m es epoch (chosen flags ks) (chosen flags (map plain bs)) rows
on_disk m es epoch [] ks bs rows vectors later stores = record { saved = []; are = refl; grown = subst (λ (xs : List Stamped). AreGrown [] xs) (sym stores) tt; settled = subst (λ (xs : List Stamped). AreSettled epoch [] xs) (sym stores) tt }
on_disk m es epoch (f ∷ flags) [] [] rows vectors later stores = record { saved = []; are = refl; grown = subst (λ (xs : List Stamped). AreGrown [] xs) (sym stores) tt; settled = subst (λ (xs : List Stamped). AreSettled epoch [] xs) (sym stores) tt }
on_disk m es epoch (f ∷ flags) [] (b ∷ bs) rows vectors later stores = absurd vectors
on_disk m es epoch (f ∷ flags) (k ∷ ks) [] rows vectors later stores = absurd vectors
on_disk m es epoch (false ∷ flags) (k ∷ ks) (b ∷ bs) rows (here, vectors) later stores = on_disk m es epoch flags ks bs rows vectors (All-tail (λ c. AreLater epoch c.fresh) b bs later) stores
on_disk m es epoch (true ∷ flags) (k ∷ ks) (b ∷ bs) rows (own, vectors) later (here, more, vector, (asked, held, marked), rest, is) =
    let behind = on_disk m es epoch flags ks bs more vectors (All-tail (λ c. AreLater epoch c.fresh) b bs later) rest in
    let (grown, settled) = stamped_plain epoch 0 b (All-head (λ c. AreLater epoch c.fresh) b bs later) asked in
    let front = stamped_from 0 (mark_in (plain b)) asked in
    let both : rows ≡ stamped_from 0 (mark_in b) asked ++ more = is ∙ ap (λ (xs : List Stamped). xs ++ more) marked in
    record {
      saved = front ++ behind.saved;
      are = (front, behind.saved, vector, (asked, held, refl), behind.are, refl);
      grown = subst (λ (xs : List Stamped). AreGrown (front ++ behind.saved) xs) (sym both) (grown_append front behind.saved (stamped_from 0 (mark_in b) asked) more grown behind.grown);
      settled = subst (λ (xs : List Stamped). AreSettled epoch (front ++ behind.saved) xs) (sym both) (settled_append epoch front behind.saved (stamped_from 0 (mark_in b) asked) more settled behind.settled);
    }

pub grown_long : (old new : List Stamped) → AreGrown old new → length new ≡ length old
grown_long [] [] grown = refl
grown_long [] (t ∷ new) grown = absurd grown
grown_long (s ∷ old) [] grown = absurd grown
grown_long (s ∷ old) (t ∷ new) (here, more) = let same = grown_long old new more in omega (arith, same)

pub settled_at : (epoch : ℕ) (old new : List Stamped) (i : ℕ) → AreSettled epoch old new → IsSettled epoch (row_at old i) (row_at new i)
settled_at epoch [] [] i settled = λ e is le. is
settled_at epoch [] (t ∷ new) i settled = absurd settled
settled_at epoch (s ∷ old) [] i settled = absurd settled
settled_at epoch (s ∷ old) (t ∷ new) zero (here, more) = here
settled_at epoch (s ∷ old) (t ∷ new) (suc i) (here, more) = settled_at epoch old new i more

-- what is dropped was dropped on the disk
pub gone_before : (mark epoch : ℕ) (old new : Stamped) → mark ≤ epoch → IsSettled epoch old new → is_retained mark new ≡ false → is_retained mark old ≡ false
gone_before mark epoch old new within settled gone = by new.del refl gone
  where
    by : (o : Option ℕ) → new.del ≡ o → option_map_or (λ e. nat_lt mark e) o true ≡ false → is_retained mark old ≡ false
    by None is none = absurd (cc)
    by (Some e) is none =
        let low : e ≤ mark = grind (arith, nat_tests, none) in
        ap (λ (o : Option ℕ). option_map_or (λ d. nat_lt mark d) o true) (settled e is (omega (arith, low, within))) ∙ none

pub read_merging : (m : Contents) (p : Projected) (j : Merging) (epoch : ℕ) → j.mark ≤ epoch → HasVectors m p → IsMemoryAbove epoch p → IsMerging m p j → IsMerging m (as_read p) j
read_merging m p j epoch within vectors above is =
    let saved = on_disk m (written_of p.entry) epoch j.inputs p.entry.containers p.beside is.stored vectors above.marks is.are in
    let taken = is.taken in
    record {
      within = is.within;
      some = is.some;
      stored = saved.saved;
      are = saved.are;
      taken = record {
        dropped = taken.dropped;
        once = subst (λ (n : ℕ). SameBag (j.places ++ taken.dropped) (range_with_len 0 n)) (grown_long saved.saved is.stored saved.grown) taken.once;
        gone = All-weaker (λ i. is_retained j.mark (row_at is.stored i) ≡ false) (λ i. is_retained j.mark (row_at saved.saved i) ≡ false)
            (λ i gone. gone_before j.mark epoch (row_at saved.saved i) (row_at is.stored i) within (settled_at epoch saved.saved is.stored i saved.settled) gone) taken.dropped taken.gone;
      };
      rows = is.rows ∙ asked_grown saved.saved is.stored j.places saved.grown;
    }

pub read_loaded : (m : Contents) (p : Projected) → HasVectors m p → IsLoaded m (as_read p)
read_loaded m p vectors = record { beside = by p.entry.containers p.beside vectors; unsaved = refl }
  where
    by : (ks : List Container) (bs : List Beside) → AllZip (λ k b. HoldsVector m k b.held) ks bs → AllZip (IsUnmarked m) ks (map plain bs)
    by [] [] all = tt
    by [] (b ∷ bs) all = absurd all
    by (k ∷ ks) [] all = absurd all
    by (k ∷ ks) (b ∷ bs) (here, all) = ((here, refl), by ks bs all)

-- ---- with marks that came since

pub stamped_more : (i : ℕ) (one other : ℕ → Option ℕ) (rows : List Asked) → ((k e : ℕ) → one k ≡ Some e → other k ≡ Some e) → AreGrown (stamped_from i one rows) (stamped_from i other rows)
stamped_more i one other [] more = tt
stamped_more i one other (a ∷ rows) more = (record { row = refl; ins = refl; deleted = more i }, stamped_more (i + 1) one other rows more)

grows_one : (m : Contents) (es : List Written) (k : Container) (b c : Beside) → b.held ≡ c.held → b.fresh ≡ [] → HoldsVector m k c.held → Grows m m es k k b c
grows_one m es k b c same none vector = record {
  vector = λ v. vector;
  rows = λ v old (asked, held, is). (
    stamped_from 0 (mark_in c) asked,
    (asked, held, refl),
    subst (λ (xs : List Stamped). AreGrown xs (stamped_from 0 (mark_in c) asked)) (sym is) (stamped_more 0 (mark_in b) (mark_in c) asked more),
  );
}
  where
    more : (i e : ℕ) → mark_in b i ≡ Some e → mark_in c i ≡ Some e
    more i e is = held_first (epoch_at c.held i) (epoch_at c.fresh i) e (sym (ap₂ (λ (h f : List Mark). option_or (epoch_at h i) (epoch_at f i)) same none) ∙ is)

grows_each : OneVector → (m : Contents) (es : List Written) (ks : List Container) (bs cs : List Beside) → AllZip (IsUnmarked m) ks bs → AllZip (λ k c. HoldsVector m k c.held) ks cs → GrowsEach m m es ks bs ks cs
grows_each one m es [] [] [] read vectors = tt
grows_each one m es [] [] (c ∷ cs) read vectors = absurd vectors
grows_each one m es [] (b ∷ bs) cs read vectors = absurd read
grows_each one m es (k ∷ ks) [] cs read vectors = absurd read
grows_each one m es (k ∷ ks) (b ∷ bs) [] read vectors = absurd vectors
grows_each one m es (k ∷ ks) (b ∷ bs) (c ∷ cs) ((vector, none), read) (here, vectors) = (grows_one m es k b c (one_marks one m k b.held c.held vector here) none here, grows_each one m es ks bs cs read vectors)

-- the merge is one of the projection as it is now
pub under_way_merging : OneVector → (m : Contents) (w : Working) (p : Projected) → p.entry ≡ w.entry → HasVectors m p → IsUnderWay m w → IsMerging m p w.job.merge
under_way_merging one m w p entry vectors is =
    let same : p.entry ≡ is.loaded.entry = entry ∙ sym is.entry in
    let es = written_of is.loaded.entry in
    merging_grows m m is.loaded p w.job.merge
    (record {
      columns = ap (λ (e : Projection). e.columns) same;
      each = subst (λ (e : Projection). GrowsEach m m es is.loaded.entry.containers is.loaded.beside e.containers p.beside) (sym same)
          (grows_each one m es is.loaded.entry.containers is.loaded.beside p.beside is.read.beside (subst (λ (e : Projection). AllZip (λ k c. HoldsVector m k c.held) e.containers p.beside) same vectors));
    }) is.merging

-- ---- while files of later numbers are written

pub unmarked_kept : (m n : Contents) (next : ℕ) (ks : List Container) (bs : List Beside) → All (IsBelow next) ks → Changed (DataFrom next) NoName m n → AllZip (IsUnmarked m) ks bs → AllZip (IsUnmarked n) ks bs
unmarked_kept m n next [] [] below changed all = tt
unmarked_kept m n next [] (b ∷ bs) below changed all = absurd all
unmarked_kept m n next (k ∷ ks) [] below changed all = absurd all
unmarked_kept m n next (k ∷ ks) (b ∷ bs) below changed ((vector, none), all) =
    ((vector_kept m n k b.held (same_below m n next k (All-head (IsBelow next) k ks below) changed) vector, none), unmarked_kept m n next ks bs (All-tail (IsBelow next) k ks below) changed all)

pub under_way_kept : (m n : Contents) (next : ℕ) (old new : Working) → IsListedBelow next old.entry → Changed (DataFrom next) NoName m n → new.entry ≡ old.entry → new.job.merge ≡ old.job.merge
    → (IsDraft m (written_of old.entry) old.job.draft → IsDraft n (written_of old.entry) new.job.draft) → IsUnderWay m old → IsUnderWay n new
under_way_kept m n next old new below changed entry merge draft is =
    let listed : IsListedBelow next is.loaded.entry = subst (IsListedBelow next) (sym is.entry) below in
    record {
      loaded = is.loaded;
      entry = is.entry ∙ sym entry;
      read = record { beside = unmarked_kept m n next is.loaded.entry.containers is.loaded.beside listed changed is.read.beside; unsaved = is.read.unsaved };
      merging = subst (IsMerging n is.loaded) (sym merge) (merging_kept m n is.loaded old.job.merge next listed changed is.merging);
      draft = subst (λ (e : Projection). IsDraft n (written_of e) new.job.draft) (sym entry) (draft is.draft);
    }

-- ---- of a store

told_by : {X : Type 0} (o : Option X) (P : X → Type 0) (Q : Type 0) → ((x : X) → P x → Q) → IsSomeAnd o P → Q
told_by None P Q tells there = absurd there
told_by (Some x) P Q tells there = tells x there

wider_by : {X : Type 0} (o : Option X) (P Q : X → Type 0) → ((x : X) → P x → Q x) → IsSomeAnd o P → IsSomeAnd o Q
wider_by None P Q wider there = absurd there
wider_by (Some x) P Q wider there = wider x there

-- its projection has its entry
abbrev pub HasEntryAt : List (List Projected) → ℕ → ℕ → Projection → Type 0
HasEntryAt stores i j entry = IsSomeAnd (slice_get stores i) (λ ps. IsSomeAnd (slice_get ps j) (λ p. p.entry ≡ entry))

pub entry_fresh : (stores : List (List Projected)) (i j : ℕ) (entry : Projection) → HasEntryAt stores i j entry → entry.fresh ≡ true → IsFreshAt stores i j
entry_fresh stores i j entry own fresh =
    wider_by (slice_get stores i) (λ ps. IsSomeAnd (slice_get ps j) (λ p. p.entry ≡ entry)) (λ ps. IsSomeAnd (slice_get ps j) (λ p. p.entry.fresh ≡ true))
    (λ ps there. wider_by (slice_get ps j) (λ p. p.entry ≡ entry) (λ p. p.entry.fresh ≡ true) (λ p same. ap (λ (e : Projection). e.fresh) same ∙ fresh) there) own

pub own_has_entry : (stores : List (List Projected)) (i j : ℕ) (p : Projected) (entry : Projection) → IsOwnAt stores i j p → entry ≡ p.entry → HasEntryAt stores i j entry
own_has_entry stores i j p entry own same =
    wider_by (slice_get stores i) (λ ps. IsSomeAnd (slice_get ps j) (λ q. q ≡ p)) (λ ps. IsSomeAnd (slice_get ps j) (λ q. q.entry ≡ entry))
    (λ ps there. wider_by (slice_get ps j) (λ q. q ≡ p) (λ q. q.entry ≡ entry) (λ q is. ap (λ (r : Projected). r.entry) is ∙ sym same) there) own

is_in : (ps : List Projected) (j : ℕ) (p : Projected) (entry : Projection) → IsSomeAnd (slice_get ps j) (λ q. q ≡ p) → IsSomeAnd (slice_get ps j) (λ q. q.entry ≡ entry) → p.entry ≡ entry
is_in [] j p entry own has = absurd own
is_in (q ∷ ps) zero p entry own has = sym (ap (λ (r : Projected). r.entry) own) ∙ has
is_in (q ∷ ps) (suc j) p entry own has = is_in ps j p entry own has

pub own_is : (stores : List (List Projected)) (i j : ℕ) (p : Projected) (entry : Projection) → IsOwnAt stores i j p → HasEntryAt stores i j entry → p.entry ≡ entry
own_is [] i j p entry own has = absurd own
own_is (ps ∷ pss) zero j p entry own has = is_in ps j p entry own has
own_is (ps ∷ pss) (suc i) j p entry own has = own_is pss i j p entry own has

-- ---- its begin

-- what is in memory alone is later than what is on disk
pub own_above : (m : Contents) (mark : ℕ) (p : Projected) (d : Database) (i : ℕ) → IsSomeAnd (slice_get d.tables i) (HasOwn m mark p) → IsMemoryAbove p.entry.lge p
own_above m mark p d i own = told_by (slice_get d.tables i) (HasOwn m mark p) (IsMemoryAbove p.entry.lge p) (λ u has. has.history.above) own

pub begins_under_way : {D : Type 0} (disk : Ghosts D) (now : D) (was : Seen) (root : Catalogue) (i j : ℕ) (p : Projected) (w : Working) (d : Database) (m : Contents) → IsRooted was root → IsOwnAt was.stores i j p → p.entry.fresh ≡ true → w.entry ≡ p.entry → w.job.merge.mark ≡ root.ahm
    → (HasVectors m p → IsMerging m p w.job.merge) → (HasVectors m p → IsDraft m (written_of p.entry) w.job.draft) → Stands disk was now d → disk.holds now ≡ Some m → IsUnderWay m w
begins_under_way disk now was root i j p w d m rooted own fresh entry mark merging draft stands told =
    let files_is : Some stands.files ≡ Some m = sym stands.quiet.told_is ∙ told in
    let files : stands.files ≡ m = cc in
    let has = own_history stands.files was.catalogue was.stores d i j p fresh own stands.are in
    let vectors : HasVectors m p = subst (λ (x : Contents). HasVectors x p) files (own_vectors stands.files was.catalogue.ahm p d i has) in
    let reached : root.ahm ≤ p.entry.lge = own_reached root p.entry fresh (own_valid was root i j p rooted own) in
    record {
      loaded = as_read p;
      entry = sym entry;
      read = read_loaded m p vectors;
      merging = read_merging m p w.job.merge p.entry.lge (subst (λ (n : ℕ). n ≤ p.entry.lge) (sym mark) reached) vectors (own_above stands.files was.catalogue.ahm p d i has) (merging vectors);
      draft = subst (λ (e : Projection). IsDraft m (written_of e) w.job.draft) (sym entry) (draft vectors);
    }

-- ---- its steps

pub stays_while : {D : Type 0} (disk : Ghosts D) {old new : D} (was : Seen) (root : Catalogue) (i j : ℕ) (p : Projected) (d : Database) → IsRooted was root → IsOwnAt was.stores i j p → Moved disk (DataFrom root.next) NoName old new → Stands disk was old d → StaysWhile disk was old new d
stays_while disk {old} {new} was root i j p d rooted own moved stands =
    let made = wrote_only disk fault.Memory {W = DataFrom root.next} was was fault.Memory d d stands (job_spares disk old was root i j p d rooted own stands) moved in
    record { stands = made.undone refl; any_moment = made.any_moment }

pub goes_under_way : {D F : Type 0} (disk : Ghosts D) {old new : D} (result : Result (Unit {0}) F) (next : ℕ) (was is : Working) → IsListedBelow next was.entry → Moved disk (DataFrom next) NoName old new → OnOk result (GoesOn was is)
    → OnOk result ((m n : Contents) → disk.holds old ≡ Some m → disk.holds new ≡ Some n → IsDraft m (written_of was.entry) was.job.draft → IsDraft n (written_of was.entry) is.job.draft)
    → OnOk result ((m n : Contents) → disk.holds old ≡ Some m → disk.holds new ≡ Some n → IsUnderWay m was → IsUnderWay n is)
goes_under_way disk (Err f) next was is below moved more draft = tt
goes_under_way disk {old} {new} (Ok u) next was is below moved more draft = λ m n told left under.
    let (l, told_l, changed) = moved_told disk {W = DataFrom next} {R = NoName} m told moved in
    let both : Some l ≡ Some n = sym told_l ∙ left in
    let same : l ≡ n = cc in
    under_way_kept m n next was is below (subst (λ (x : Contents). Changed (DataFrom next) NoName m x) same changed) more.entry more.merge (draft m n told left) under

-- ---- its end

pub from_base : {D : Type 0} (disk : Ghosts D) {old new : D} (next base count : ℕ) → base ≡ next → Moved disk (DataFrom (base + count)) NoName old new → Moved disk (DataFrom next) NoName old new
from_base disk next base count same moved = later_moved disk next (omega (arith, same)) moved

pub ends_keeping : {D : Type 0} (disk : Ghosts D) {old mid : D} (next mark : ℕ) (p : Projected) (entry : Projection) (w : Working) → w.job.draft.base ≡ next → w.job.merge.mark ≡ mark → ((m : Contents) → disk.holds old ≡ Some m → IsUnderWay m w)
    → ((m n : Contents) → disk.holds old ≡ Some m → disk.holds mid ≡ Some n → IsListedBelow w.job.draft.base p.entry → HasVectors m p → IsUnderWay m w → KeepsFrom w.job.merge.mark m n p entry)
    → (m n : Contents) → disk.holds old ≡ Some m → disk.holds mid ≡ Some n → IsListedBelow next p.entry → HasVectors m p → KeepsFrom mark m n p entry
ends_keeping disk next mark p entry w base same under keeps m n told left below vectors =
    subst (λ (k : ℕ). KeepsFrom k m n p entry) same (keeps m n told left (subst (λ (k : ℕ). IsListedBelow k p.entry) (sym base) below) vectors (under m told))

-- ---- as its fields are seen

pub work_own : (ts : List (List Loaded)) (s : Seen) (w v : Working) (ps qs : List Loaded) (p : Loaded) → w ≡ v → IsOfStore s v → map projections_of ts ≡ s.stores → ps ≡ get_or ts w.table ps → qs ≡ ps → p ≡ get_or qs w.place p → IsOwnAt s.stores w.table w.place p.stored
work_own ts s w v ps qs p same over are ps_is qs_is p_is =
    let own : IsOfStore s w = subst (IsOfStore s) (sym same) over in
    own_there ts s.stores w.table w.place ps qs p are (entry_fresh s.stores w.table w.place w.entry own.own own.fresh) ps_is qs_is p_is

pub work_fresh : (s : Seen) (w v : Working) (p : Projected) → w ≡ v → IsOfStore s v → IsOwnAt s.stores w.table w.place p → p.entry.fresh ≡ true
work_fresh s w v p same over own =
    let here : IsOfStore s w = subst (IsOfStore s) (sym same) over in
    own_fresh s.stores w.table w.place p (entry_fresh s.stores w.table w.place w.entry here.own here.fresh) own

pub rise_at : {D F : Type 0} {disk : Ghosts D} {short : F} {was is : Seen} {old new : D} {result : Result (Unit {0}) F} {d : Database} (w v : Working) → w ≡ v → MakesRise disk short was is old new result d w.table w.place → MakesRise disk short was is old new result d v.table v.place
rise_at {D} {F} {disk} {short} {was} {is} {old} {new} {result} {d} w v same rise = subst (λ (x : Working). MakesRise disk short was is old new result d x.table x.place) same rise
