-- What the entry after a refresh holds.
use Rattle.std.proofs.Common.{◌≡◌, ℕ, ◌+◌, ◌*◌, ◌<◌, ◌≤◌, ◌^◌, ◌++◌, List, [], ◌∷◌, length, map, Option, Some, None, sym, ap, ◌∙◌, arith, subst}
use Rattle.std.specs.Prelude.{IfSome, sum_by}
use Rattle.std.specs.List.{All}
use Rattle.std.proofs.lemmas.List.{length-append, length-map}
use Rattle.std.proofs.lemmas.List.Sums.{sum_by-cons}
use Rattle.std.proofs.lemmas.List.Elements.{All-nil, All-cons, All-append, All-head, All-tail, All-weaker}
use Rattle.common_laws.specs.Bags.{SameBag}
use Rattle.common_laws.specs.Maps.{Contents}
use Rattle.common_laws.proofs.BagLaws.{bag_sym}
use Rattle.col_disk.specs.Moved.{Changed, Moved, NoName, Named}
use Rattle.col_disk.specs.declared.disk.Disk.{Ghosts}
use Rattle.col_disk.proofs.Moving.{moved_told}
use Rattle.col_value.specs.declared.row.Asked.{Asked}
use Rattle.col_value.specs.declared.row.Stamped.{Stamped}
use Rattle.row_history.specs.History.{retained, on_columns, asked_on}
use Rattle.catalog_types.specs.declared.catalogue.Container.{Container}
use Rattle.catalog_types.specs.declared.catalogue.Projection.{Projection}
use Rattle.catalog_types.specs.Numbers.{file_count}
use Rattle.ros_container.specs.Encodings.{Written, written_as, written_of}
use Rattle.ros_container.specs.Rows.{AreWide}
use Rattle.ros_container.specs.Readable.{IsReadable}
use Rattle.stored_rows.specs.Held.{HoldsRows, Holds}
use Rattle.stored_rows.specs.Listed.{vector_file}
use Rattle.stored_rows.specs.Stored.{Projected, StoresRows}
use Rattle.proj_store.specs.Sound.{HasVectorNumber, IsLoadable}
use Rattle.container_writer.specs.Writing.{listed, DataFrom, HoldsBag, AreNumbered}
use Rattle.merge_rows.specs.Places.{asked_of, rows_at, TakesPlaces}
use Rattle.merge_rows.specs.Rewritten.{rewritten_to}
use Rattle.merge_rows.proofs.Kept.{kept_taken}
use Rattle.container_draft.specs.Draft.{Drafted, IsDraft}
use Rattle.container_draft.specs.Finished.{AreFinished}
use Rattle.container_draft.specs.Keeping.{dels_at, kept_of}
use Rattle.container_draft.specs.Placed.{all_at, seen}
use Rattle.container_draft.specs.Reading.{del_of, deletes_in, HoldEach}
use Rattle.container_draft.proofs.Chosen.{stored_deletes, stored_each}
use Rattle.container_draft.proofs.Joined.{dels_at_places, kept_same}
use Rattle.container_draft.proofs.Rising.{wide_at}
use Rattle.moveout_job.specs.OnDisk.{IsBelow, IsListedBelow}
use Rattle.moveout_job.proofs.Assembled.{made_each, made_all_below, numbers_rise, short}
use Rattle.moveout_job.proofs.Renewed.{between, rows_below, rows_join, wider_below}
use Rattle.mergeout_job.proofs.Installed.{all_in, finished_below, finished_reads, finished_rises, Finishes}
use Rattle.refresh_job.specs.Job.{Refreshing, IsRefreshing, IsRefreshed, RefreshesFrom}
use Rattle.refresh_job.specs.Rows.{wanted}
use Rattle.refresh_job.proofs.Narrowed.{all_kept, narrow_asked, narrow_deletes, narrow_places}

-- ---- the beginning

-- the places of the rows that are retained, in any order, of rows that are those of the containers with some columns
pub begun : (m : Contents) (source : Projected) (mark base : ℕ) (via : List ℕ) (rows : List Asked) (dels dels_shown : List (Option ℕ)) (kept places : List ℕ) (d : Drafted) → dels ≡ deletes_in source.entry.containers source.beside → dels_shown ≡ dels
    → ((all : List Asked) → HoldEach m (written_of source.entry) source.entry.containers all → rows ≡ map (asked_on via) all) → kept ≡ kept_of mark dels_shown → SameBag kept places → All (λ i. i < length rows) places → d ≡ seen rows places base 0
    → IsRefreshing m source (record { mark = mark; via = via; draft = d })
begun m source mark base via rows dels dels_shown kept places d dels_are dels_same read kept_are same within is =
    let es = written_of source.entry in
    let ks = source.entry.containers in
    subst (λ (x : Drafted). IsRefreshing m source (record { mark = mark; via = via; draft = x })) (sym is)
    (record {
      taken = λ stored are.
          let kept_is : kept ≡ kept_of mark (map del_of stored) = kept_are ∙ ap (kept_of mark) (dels_same ∙ dels_are ∙ stored_deletes m es ks source.beside stored are) in
          kept_taken mark stored places (subst (SameBag places) (kept_is ∙ kept_same mark stored) (bag_sym kept places same));
      rows = λ stored are.
          let rows_are : rows ≡ map (asked_on via) (map asked_of stored) = read (map asked_of stored) (stored_each m es ks source.beside stored are) in
          let many : length rows ≡ length stored = ap length rows_are ∙ length-map (map asked_of stored) (asked_on via) ∙ length-map stored asked_of in
          ap (λ (xs : List Asked). all_at xs places) rows_are ∙ narrow_places via stored places (subst (λ (n : ℕ). All (λ i. i < n) places) many within);
    })

-- no column is done
pub draft_begun : (m : Contents) (shape : Projection) (via : List ℕ) (base : ℕ) (rows : List Asked) (places : List ℕ) (d : Drafted) → length via ≡ length shape.columns → AreWide (length via) rows → All (λ i. i < length rows) places → d ≡ seen rows places base 0
    → IsDraft m (written_of shape) d
draft_begun m shape via base rows places d long wide within is =
    subst (IsDraft m (written_of shape)) (sym is)
    (record {
      wide = wide_at (length (written_of shape)) rows places (subst (λ (n : ℕ). AreWide n rows) (long ∙ sym (length-map shape.columns written_as)) wide) within;
      columns = λ some i lt inside. absurd (omega (arith, lt));
    })

-- ---- what the entry holds

pub rest_keeps : {D : Type 0} (disk : Ghosts D) {old mid new : D} (shape entry : Projection) (source : Projected) (r : Refreshing) (first later : Option Container) (dels : List (Option ℕ)) (last born next after : ℕ)
    → r.draft.base + file_count (length shape.columns) ≤ next → dels ≡ dels_at (deletes_in source.entry.containers source.beside) r.draft.places
    → ((m l : Contents) → disk.holds old ≡ Some m → disk.holds mid ≡ Some l → Finishes first (written_of shape) (length shape.columns) next r.draft dels m l)
    → AreFinished (length shape.columns) 0 next after r.draft first → Moved disk (Named (vector_file next)) NoName old mid
    → ((n : Contents) → disk.holds new ≡ Some n → HoldsBag n (written_of shape) (listed later) (wanted r.mark r.via source.unsaved)) → Moved disk (DataFrom after) NoName mid new
    → entry ≡ rewritten_to last born (listed first ++ listed later) shape
    → (m n : Contents) → disk.holds old ≡ Some m → disk.holds new ≡ Some n → IsRefreshing m source r → IsDraft m (written_of shape) r.draft → length shape.columns < r.draft.done → RefreshesFrom r.mark r.via m n source entry
rest_keeps disk {old} {mid} {new} shape entry source r first later dels last born next after base dels_are finish finished moved bag second is m n told left refreshing draft done stored (saved, stores, stored_is) =
    let es = written_of shape in
    let places = r.draft.places in
    let taken = rows_at saved places in
    let rows : List Stamped = map (on_columns r.via) taken in
    let (l, told_l, rest) = moved_told disk m told moved in
    let changed : Changed (DataFrom after) NoName l n = between disk l n told_l left second in
    let rows_are : map asked_of rows ≡ r.draft.rows = narrow_asked r.via taken ∙ sym (refreshing.rows saved stores) in
    let now_are : map del_of rows ≡ dels =
    narrow_deletes r.via taken ∙ dels_at_places saved places ∙ ap (λ (ds : List (Option ℕ)). dels_at ds places) (sym (stored_deletes m (written_of source.entry) source.entry.containers source.beside saved stores)) ∙ sym dels_are in
    let output : HoldsRows l es (listed first) rows = finish m l told told_l draft done base rows rows_are now_are in
    let low = finished_below (length shape.columns) 0 next after r.draft first base finished in
    let at_n : HoldsRows n es (listed first) rows = rows_below l n es (listed first) rows after low changed output in
    let (held, holds, as_bag) = bag n left in (
      rows ++ held,
      subst (λ (e : Projection). Holds n e (rows ++ held)) (sym is) (rows_join n es (listed first) (listed later) rows held at_n holds),
      subst (λ (xs : List Stamped). SameBag (retained r.mark (rows ++ held)) (map (on_columns r.via) (retained r.mark xs))) (sym stored_is)
          (all_kept r.mark r.via saved source.unsaved held places (refreshing.taken saved stores) (bag_sym (wanted r.mark r.via source.unsaved) held as_bag)),
    )

-- the same of the job as it is seen
pub rest_at : {D : Type 0} (disk : Ghosts D) {old mid new : D} (shape entry : Projection) (source : Projected) (inside self : Refreshing) (first later : Option Container) (unsaved : List Stamped) (via places : List ℕ) (dels shown : List (Option ℕ)) (last born next after : ℕ)
    → inside ≡ self → via ≡ inside.via → places ≡ inside.draft.places → unsaved ≡ source.unsaved → shown ≡ dels → self.draft.base + file_count (length shape.columns) ≤ next → dels ≡ dels_at (deletes_in source.entry.containers source.beside) places
    → ((m l : Contents) → disk.holds old ≡ Some m → disk.holds mid ≡ Some l → Finishes first (written_of shape) (length shape.columns) next inside.draft shown m l)
    → AreFinished (length shape.columns) 0 next after inside.draft first → Moved disk (Named (vector_file next)) NoName old mid
    → ((n : Contents) → disk.holds new ≡ Some n → HoldsBag n (written_of shape) (listed later) (wanted inside.mark via unsaved)) → Moved disk (DataFrom after) NoName mid new
    → entry ≡ rewritten_to last born (listed first ++ listed later) shape
    → (m n : Contents) → disk.holds old ≡ Some m → disk.holds new ≡ Some n → IsRefreshing m source self → IsDraft m (written_of shape) self.draft → length shape.columns < self.draft.done → RefreshesFrom self.mark self.via m n source entry
rest_at disk {old} {mid} {new} shape entry source inside self first later unsaved via places dels shown last born next after self_is via_is places_is unsaved_is shown_is base dels_are finish finished moved bag second is =
    rest_keeps disk {old = old} {mid = mid} {new = new} shape entry source self first later dels last born next after base
    (dels_are ∙ ap (dels_at (deletes_in source.entry.containers source.beside)) (places_is ∙ ap (λ (r : Refreshing). r.draft.places) self_is))
    (λ m l told told_l.
    subst (λ (ds : List (Option ℕ)). Finishes first (written_of shape) (length shape.columns) next self.draft ds m l) shown_is
    (subst (λ (r : Refreshing). Finishes first (written_of shape) (length shape.columns) next r.draft shown m l) self_is (finish m l told told_l)))
    (subst (λ (r : Refreshing). AreFinished (length shape.columns) 0 next after r.draft first) self_is finished) moved
    (λ n left.
    subst (λ (rows : List Stamped). HoldsBag n (written_of shape) (listed later) (wanted self.mark self.via rows)) unsaved_is
    (subst (λ (r : Refreshing). HoldsBag n (written_of shape) (listed later) (wanted r.mark r.via unsaved)) self_is
    (subst (λ (vs : List ℕ). HoldsBag n (written_of shape) (listed later) (wanted inside.mark vs unsaved)) via_is (bag n left)))) second is

-- ---- its numbers, levels and containers

pub refreshed_count : (last next after : ℕ) (r : Refreshing) (old new : Projection) → IsRefreshed last next after r old new → length new.containers ≤ 2
refreshed_count last next after r old new is =
    let all = ap (λ (e : Projection). length e.containers) is.is in
    let parts = length-append (listed is.first) (listed is.later) in
    let one = short is.first in
    let two = short is.later in
    omega (arith, all, parts, one, two)

weighs : (ks : List Container) → All (λ k. k.level ≡ 0) ks → sum_by (λ k. 4 ^ k.level) ks ≤ length ks
weighs [] all = omega arith
weighs (k ∷ ks) all =
    let here : 4 ^ k.level ≡ 1 = ap (λ (n : ℕ). 4 ^ n) (All-head (λ x. x.level ≡ 0) k ks all) in
    let rest = weighs ks (All-tail (λ x. x.level ≡ 0) k ks all) in
    let sum = sum_by-cons (λ (x : Container). 4 ^ x.level) k ks in
    omega (arith, here, rest, sum)

pub refreshed_levels : (last next after : ℕ) (r : Refreshing) (old new : Projection) → IsRefreshed last next after r old new → All (λ k. k.level ≡ 0) new.containers → sum_by (λ k. 4 ^ k.level) new.containers ≤ new.born
refreshed_levels last next after r old new is all =
    let light = weighs new.containers all in
    let count = ap (λ (e : Projection). length e.containers) is.is in
    let born = ap (λ (e : Projection). e.born) is.is in
    omega (arith, light, count, born)

pub refreshed_rises : (last next after : ℕ) (r : Refreshing) (old new : Projection) → IsRefreshed last next after r old new → next ≤ after
refreshed_rises last next after r old new is =
    let first = (finished_rises (length old.columns) 0 next is.mid r.draft is.first is.output).0 in
    let second = numbers_rise (length old.columns) is.mid after is.later is.numbers in
    omega (arith, first, second)

pub refreshed_below : (last next after : ℕ) (r : Refreshing) (old new : Projection) → r.draft.base + file_count (length old.columns) ≤ next → IsRefreshed last next after r old new → IsListedBelow after new
refreshed_below last next after r old new base is =
    let columns = length old.columns in
    let rise = numbers_rise columns is.mid after is.later is.numbers in
    let first : All (IsBelow after) (listed is.first) =
    All-weaker (IsBelow is.mid) (IsBelow after) (λ k x. wider_below is.mid after k rise x) (listed is.first) (finished_below columns 0 next is.mid r.draft is.first base is.output) in
    let later : All (IsBelow after) (listed is.later) = all_in (IsBelow after) is.later (made_all_below columns is.mid after is.later is.numbers) in
    subst (IsListedBelow after) (sym is.is) (All-append (IsBelow after) (listed is.first) (listed is.later) first later)

pub refreshed_loads : (last next after : ℕ) (r : Refreshing) (old new : Projection) → next < 2 ^ 61 → r.draft.base + file_count (length old.columns) ≤ next → IsRefreshed last next after r old new → All (λ i. i < length old.columns) old.sort → IsLoadable new
refreshed_loads last next after r old new low base is sort =
    let columns = old.columns in
    let first = finished_reads columns 0 next is.mid r.draft is.first low base is.output in
    let later = made_each columns is.mid after is.later is.numbers in
    subst IsLoadable (sym is.is)
    (record {
      files = All-append (IsReadable columns) (listed is.first) (listed is.later) first.0 (all_in (IsReadable columns) is.later later.0);
      vectors = All-append HasVectorNumber (listed is.first) (listed is.later) first.1 (all_in HasVectorNumber is.later later.1);
      sort = sort;
    })

pub all_level : (first later : Option Container) (columns next mid : ℕ) (d : Drafted) → AreFinished columns 0 next mid d first → IfSome later (λ k. k.level ≡ 0) → All (λ k. k.level ≡ 0) (listed first ++ listed later)
all_level first later columns next mid d output level = All-append (λ (k : Container). k.level ≡ 0) (listed first) (listed later) (by first output) (all_in (λ k. k.level ≡ 0) later level)
  where
    by : (o : Option Container) → AreFinished columns 0 next mid d o → All (λ k. k.level ≡ 0) (listed o)
    by None none = All-nil (λ k. k.level ≡ 0)
    by (Some k) one = All-cons (λ x. x.level ≡ 0) k [] one.level (All-nil (λ x. x.level ≡ 0))
