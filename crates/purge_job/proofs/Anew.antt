-- One container without the rows that were deleted at or before a mark.
use Rattle.std.proofs.Common.{◌≡◌, ◌+◌, ◌*◌, ◌<◌, ◌≤◌, ◌^◌, ◌++◌, ℕ, List, [], ◌∷◌, length, map, take, drop, get_or, refl, sym, ◌∙◌, ap, subst, arith}
use Rattle.std.specs.Prelude.{Option, Some, None, IfSome}
use Rattle.std.specs.Option.{option_map_or}
use Rattle.std.specs.List.{All}
use Rattle.std.proofs.lemmas.List.{append-nil, length-take-le}
use Rattle.std.proofs.lemmas.List.Elements.{All-nil, All-cons}
use Rattle.common_laws.specs.Bags.{SameBag}
use Rattle.common_laws.specs.Maps.{Contents}
use Rattle.common_laws.proofs.BagLaws.{bag_refl, bag_sym, bag_map}
use Rattle.col_disk.specs.Moved.{Moved, NoName}
use Rattle.col_disk.specs.declared.disk.Disk.{Ghosts}
use Rattle.col_disk.specs.declared.disk.DiskFault.{DiskFault}
use Rattle.col_disk.specs.declared.disk.DiskFault.TheVariants as disk_fault
use Rattle.col_disk.specs.Faults.{store_fault}
use Rattle.col_disk.proofs.Moving.{moved_told}
use Rattle.col_value.specs.declared.row.Asked.{Asked}
use Rattle.col_value.specs.declared.row.Stamped.{Stamped}
use Rattle.row_history.specs.History.{retained}
use Rattle.catalog_types.specs.declared.catalogue.Container.{Container}
use Rattle.catalog_types.specs.declared.catalogue.ProjColumn.{ProjColumn}
use Rattle.catalog_types.specs.declared.catalogue.Projection.{Projection}
use Rattle.catalog_types.specs.Numbers.{file_count}
use Rattle.ros_container.specs.Encodings.{Written}
use Rattle.ros_container.specs.Held.{HoldsContainer}
use Rattle.ros_container.specs.Readable.{HasDefaultValue, IsOfColumns, IsReadable}
use Rattle.proj_store.specs.Sound.{HasVectorNumber}
use Rattle.del_vector.specs.declared.mark.Mark.{Mark}
use Rattle.stored_rows.specs.Held.{HoldsRows, HoldsMarked, stamped_from}
use Rattle.stored_rows.specs.Stored.{Beside, mark_in}
use Rattle.stored_rows.proofs.OneList.{OneContainer}
use Rattle.container_writer.specs.Writing.{listed, HoldsBag, DataFrom, IsNumbered, AreNumbered}
use Rattle.container_cut.specs.Blamed.{BlamesOne}
use Rattle.container_cut.proofs.Fronts.{full, full_stamped, widen, stamped_full, rows_of_listed}
use Rattle.moveout_job.specs.OnDisk.{IsBelow, IsRemarked, Remarks, beside}
use Rattle.moveout_job.proofs.Renewed.{stamped_same}
use Rattle.moveout_job.proofs.Assembled.{all_listed, files_low, vector_low, made_all_below}
use Rattle.purge_job.specs.Purging.{CanLoad, HoldRetained, HoldsKept, PurgesOne, stamped_with}
use Rattle.purge_job.proofs.Retaining.{all_kept, later_marks, retained_full}

-- ---- all marks are later

pub remarks_purge : (mark next after : ℕ) (es : List Written) (k j : Container) (held fresh : List Mark) (found left : Option Contents) → All (λ e. mark < e.epoch) held → All (λ e. mark < e.epoch) fresh
    → Remarks next after k (beside held fresh) j found left → PurgesOne mark es next after k (beside held fresh) (j ∷ []) found left
remarks_purge mark next after es k j held fresh found left late_held late_fresh remarks m rows told below vector (asked, container, is) =
    let b : Beside = beside held fresh in
    let (n, told_n, one_n, low) = remarks m es rows told below vector (asked, container, is) in
    let kept : retained mark rows ≡ rows = ap (retained mark) is ∙ all_kept mark 0 (mark_in b) asked (later_marks mark b late_held late_fresh) ∙ sym is in (
      n,
      told_n,
      record {
        held = rows;
        are = (one_n.0, rows, [], one_n.1, one_n.2, refl, sym (append-nil rows));
        bag = subst (SameBag rows) (sym kept) (bag_refl rows);
        below = All-cons (IsBelow after) j [] low (All-nil (IsBelow after));
      },
    )

pub remarked_loads : (columns : List ProjColumn) (next after : ℕ) (k j : Container) → IsRemarked next after k j → IsReadable columns k → HasVectorNumber k → All (CanLoad columns) (j ∷ [])
remarked_loads columns next after k j is readable number =
    All-cons (CanLoad columns) j [] (record { files = files_low columns next after k j is readable; vector = vector_low next after k j is number }) (All-nil (CanLoad columns))

-- ---- written anew

pub kept_of : (m : Contents) (es : List Written) (mark : ℕ) (k : Container) (b : Beside) (dels : List (Option ℕ)) (asked : List Asked) (kept : List Stamped) → ((i : ℕ) → get_or dels i None ≡ mark_in b i)
    → HoldsContainer m es k asked → kept ≡ retained mark (stamped_with dels asked) → HoldsKept m es mark k b kept
kept_of m es mark k b dels asked kept same held is =
    (stamped_from 0 (mark_in b) asked, (asked, held, refl), is ∙ ap (retained mark) (stamped_same 0 (λ i. get_or dels i None) (mark_in b) asked same))

numbered_stored : (columns next after : ℕ) (o : Option Container) → AreNumbered columns next after o → IfSome o (λ k. k.stored ≡ columns)
numbered_stored columns next after None are = tt
numbered_stored columns next after (Some k) are = are.stored

pub rewrite_purges : {D : Type 0} (disk : Ghosts D) {old new : D} → OneContainer → (mark next after n : ℕ) (es fs : List Written) (k : Container) (b : Beside) (made : Option Container) (kept : List Stamped) → n ≡ k.stored → k.stored ≤ length es → fs ≡ take k.stored es
    → ((m : Contents) → disk.holds old ≡ Some m → HoldsKept m fs mark k b kept) → ((m : Contents) → disk.holds new ≡ Some m → HoldsBag m fs (listed made) kept)
    → AreNumbered n next after made → Moved disk (DataFrom next) NoName old new → PurgesOne mark es next after k b (listed made) (disk.holds old) (disk.holds new)
rewrite_purges disk one mark next after count es fs k b made kept stored le front found written numbers moved m rows told below vector (asked, container, is) =
    let (l, left, changed) = moved_told disk m told moved in
    let n : ℕ = k.stored in
    let f : Stamped → Stamped = full_stamped es n in
    let (narrow, (narrow_asked, narrow_held, narrow_is), kept_is) = found m told in
    let wide_held = widen m es k narrow_asked le (subst (λ (ws : List Written). HoldsContainer m ws k narrow_asked) front narrow_held) in
    let same : asked ≡ map (full es n) narrow_asked = one m es k asked (map (full es n) narrow_asked) container wide_held in
    let all : rows ≡ map f narrow =
    is ∙ ap (stamped_from 0 (mark_in b)) same ∙ stamped_full es n 0 (mark_in b) narrow_asked ∙ ap (map f) (sym narrow_is) in
    let retains : map f kept ≡ retained mark rows = ap (map f) kept_is ∙ sym (retained_full es n mark narrow) ∙ ap (retained mark) (sym all) in
    let (held, holds, bag) = written l left in
    let at_front : HoldsRows l (take n es) (listed made) held = subst (λ (ws : List Written). HoldsRows l ws (listed made) held) front holds in
    let stores = subst (λ (x : ℕ). IfSome made (λ j. j.stored ≡ x)) stored (numbered_stored count next after made numbers) in (
      l,
      left,
      record {
        held = map f held;
        are = rows_of_listed l es made n held stores le at_front;
        bag = subst (SameBag (map f held)) retains (bag_sym (map f kept) (map f held) (bag_map f kept held bag));
        below = all_listed (IsBelow after) [] made (All-nil (IsBelow after)) (made_all_below count next after made numbers);
      },
    )

one_loads : (columns : List ProjColumn) (count next after : ℕ) (k j : Container) → count ≡ k.stored → IsReadable columns k → IsNumbered count next after j → CanLoad columns j
one_loads columns count next after k j is low made = record {
  files = record {
    of_columns = record {
      rows = made.rows;
      most = let stored = made.stored in let most = of.most in omega (arith, stored, is, most);
      defaults = subst (λ (n : ℕ). All HasDefaultValue (drop n columns)) (sym (made.stored ∙ is)) of.defaults;
    };
    numbers = files j.marks made.ends;
  };
  vector = vector j.marks made.vector made.ends;
} where
  of : IsOfColumns columns k
  of = low.of_columns

  files : (o : Option ℕ) → after ≡ next + (file_count j.stored + option_map_or (λ _. 1) o 0) → j.base + 2 * j.stored + 1 < 2 ^ 62
  files None e = let base = made.base in let below = made.below in omega (arith, e, base, below)
  files (Some v) e = let base = made.base in let below = made.below in omega (arith, e, base, below)

  vector : (o : Option ℕ) → IfSome o (λ v. v ≡ next + file_count count) → after ≡ next + (file_count j.stored + option_map_or (λ _. 1) o 0) → IfSome o (λ v. v < 2 ^ 62)
  vector None v e = tt
  vector (Some n) is_v e = let below = made.below in let stored = made.stored in omega (arith, is_v, e, below, stored)

pub rewritten_loads : (columns : List ProjColumn) (count next after : ℕ) (k : Container) (made : Option Container) → count ≡ k.stored → IsReadable columns k → AreNumbered count next after made → All (CanLoad columns) (listed made)
rewritten_loads columns count next after k None is low numbers = All-nil (CanLoad columns)
rewritten_loads columns count next after k (Some j) is low numbers = All-cons (CanLoad columns) j [] (one_loads columns count next after k j is low numbers) (All-nil (CanLoad columns))

pub listed_level : (level : ℕ) (made : Option Container) → IfSome made (λ k. k.level ≡ level) → All (λ k. k.level ≡ level) (listed made)
listed_level level made is = all_listed (λ k. k.level ≡ level) [] made (All-nil (λ k. k.level ≡ level)) is

pub numbers_later : (count next after : ℕ) (made : Option Container) → AreNumbered count next after made → next ≤ after
numbers_later count next after None are = omega (arith, are)
numbers_later count next after (Some k) are = let e = are.ends in omega (arith, e)

-- a fault of the disk blames no file
pub disk_blames : (p : Projection) (k : Container) (holds : Option Contents) (f : DiskFault) → BlamesOne p k holds (store_fault f)
disk_blames p k holds disk_fault.Failed = tt
disk_blames p k holds disk_fault.Memory = tt
