-- What the entry after a mergeout holds.
use Rattle.std.proofs.Common.{◌≡◌, ℕ, suc, ◌+◌, ◌*◌, ◌<◌, ◌≤◌, ◌^◌, ◌++◌, Bool, true, false, List, [], ◌∷◌, length, map, refl, sym, ap, ap₂, ◌∙◌, arith, subst, inl, inr}
use Rattle.std.specs.Prelude.{Option, Some, None, IfSome, sum_by}
use Rattle.std.specs.Option.{option_map_or}
use Rattle.std.specs.List.{All, AllZip}
use Rattle.std.proofs.lemmas.List.{length-append, append-nil, drop_all, length-map}
use Rattle.std.proofs.Math.Nat.{pow-succ'}
use Rattle.std.proofs.lemmas.List.Sums.{sum_by-cons, sum_by-append}
use Rattle.std.proofs.lemmas.Slice.Zip.{AllZip-long}
use Rattle.std.proofs.lemmas.List.Elements.{All-nil, All-cons, All-append, All-head, All-tail, All-weaker}
use Rattle.common_laws.specs.Maps.{Contents}
use Rattle.col_disk.specs.Moved.{Changed, Moved, NoName, Named}
use Rattle.col_disk.specs.declared.disk.Disk.{Ghosts}
use Rattle.col_disk.proofs.Moving.{moved_told, changed_join}
use Rattle.col_value.specs.declared.row.Asked.{Asked}
use Rattle.col_value.specs.declared.row.Stamped.{Stamped}
use Rattle.catalog_types.specs.declared.catalogue.Container.{Container}
use Rattle.catalog_types.specs.declared.catalogue.ProjColumn.{ProjColumn}
use Rattle.catalog_types.specs.declared.catalogue.Projection.{Projection}
use Rattle.catalog_types.specs.Numbers.{file_count}
use Rattle.ros_container.specs.Encodings.{Written, written_of}
use Rattle.ros_container.specs.Readable.{HasDefaultValue, IsReadable}
use Rattle.stored_rows.specs.Held.{HoldsRows}
use Rattle.stored_rows.specs.Listed.{vector_file}
use Rattle.stored_rows.specs.Stored.{Beside, Projected, mark_in, StoresRows}
use Rattle.stored_rows.proofs.KeptRows.{vector_kept}
use Rattle.stored_rows.proofs.OneList.{OneContainer}
use Rattle.proj_store.specs.Sound.{HasVectorNumber, IsLoadable}
use Rattle.container_writer.specs.Writing.{listed, DataFrom, HoldsBag}
use Rattle.merge_rows.specs.Places.{rows_at, asked_of}
use Rattle.merge_rows.specs.Inputs.{chosen, others, replaced, Merging, IsMerging, KeepsFrom}
use Rattle.merge_rows.proofs.Levels.{weight, weights, sum_replaced, four_weigh}
use Rattle.merge_rows.proofs.Merged.{merge_keeps}
use Rattle.container_draft.specs.Draft.{Drafted, IsDraft}
use Rattle.container_draft.specs.Finished.{IsFinished, AreFinished}
use Rattle.container_draft.specs.Keeping.{dels_at}
use Rattle.container_draft.specs.Reading.{del_of, deletes_in}
use Rattle.container_draft.proofs.Chosen.{stored_deletes}
use Rattle.container_draft.proofs.Flags.{both_chosen}
use Rattle.container_draft.proofs.Joined.{dels_at_places}
use Rattle.moveout_job.specs.OnDisk.{AreSaved, IsBelow, IsListedBelow, IsRemarked, SavesOthers}
use Rattle.moveout_job.proofs.Assembled.{zip_all, vector_low, files_low, made_each, remarked_below, made_all_below, numbers_rise, short}
use Rattle.moveout_job.proofs.Renewed.{between, later_data, same_below, marked_kept, rows_below, vector_data, wider_below}
use Rattle.mergeout_job.specs.Job.{Mergeout}
use Rattle.mergeout_job.specs.Merged.{merged, with_containers, IsMerged}
use Rattle.mergeout_job.specs.Oldest.{AreFour}
use Rattle.mergeout_job.proofs.Put.{all_others, all_replaced}

-- ---- what stays

pub stores_below : (m l : Contents) (es : List Written) (ks : List Container) (bs : List Beside) (rows : List Stamped) (next : ℕ) → All (IsBelow next) ks → Changed (DataFrom next) NoName m l → StoresRows m es ks bs rows → StoresRows l es ks bs rows
stores_below m l es [] [] rows next below changed stores = stores
stores_below m l es [] (b ∷ bs) rows next below changed stores = absurd stores
stores_below m l es (k ∷ ks) [] rows next below changed stores = absurd stores
stores_below m l es (k ∷ ks) (b ∷ bs) rows next below changed (here, more, vector, marked, rest, is) =
    let same = same_below m l next k (All-head (IsBelow next) k ks below) changed in
    (here, more, vector_kept m l k b.held same vector, marked_kept m l es k (mark_in b) here same marked, stores_below m l es ks bs more next (All-tail (IsBelow next) k ks below) changed rest, is)

pub finished_below : (columns level next after : ℕ) (d : Drafted) (made : Option Container) → d.base + file_count columns ≤ next → AreFinished columns level next after d made → All (IsBelow after) (listed made)
finished_below columns level next after d None le is = All-nil (IsBelow after)
finished_below columns level next after d (Some k) le is = All-cons (IsBelow after) k [] one (All-nil (IsBelow after))
  where
    vector : (o : Option ℕ) → IfSome o (λ n. n ≡ next) → after ≡ next + option_map_or (λ _. 1) o 0 → IfSome o (λ n. n < after)
    vector None number ends = tt
    vector (Some n) number ends = omega (arith, number, ends)

    files : (o : Option ℕ) → after ≡ next + option_map_or (λ _. 1) o 0 → k.base + file_count k.stored ≤ after
    files None ends = let base = is.base in let stored = is.stored in omega (arith, base, stored, le, ends)
    files (Some n) ends = let base = is.base in let stored = is.stored in omega (arith, base, stored, le, ends)

    one : IsBelow after k
    one = record { files = files k.marks is.ends; vector = vector k.marks is.vector is.ends }

pub finished_rises : (columns level next after : ℕ) (d : Drafted) (made : Option Container) → AreFinished columns level next after d made → (next ≤ after) × (after ≤ next + 1)
finished_rises columns level next after d None (none, is) = (omega (arith, is), omega (arith, is))
finished_rises columns level next after d (Some k) is = by k.marks is.ends
  where
    by : (o : Option ℕ) → after ≡ next + option_map_or (λ _. 1) o 0 → (next ≤ after) × (after ≤ next + 1)
    by None ends = (omega (arith, ends), omega (arith, ends))
    by (Some n) ends = (omega (arith, ends), omega (arith, ends))

-- ---- what it holds

one_contents : {D : Type 0} (disk : Ghosts D) {now : D} (a b : Contents) → disk.holds now ≡ Some a → disk.holds now ≡ Some b → a ≡ b
one_contents disk a b first second = cc

abbrev pub Finishes : Option Container → List Written → ℕ → ℕ → Drafted → List (Option ℕ) → Contents → Contents → Type 0
Finishes made es columns next d dels m l =
    IsDraft m es d → columns < d.done → d.base + file_count columns ≤ next → (rows : List Stamped) → map asked_of rows ≡ d.rows → map del_of rows ≡ dels → HoldsRows l es (listed made) rows

pub install_keeps : {D : Type 0} (disk : Ghosts D) {old mid new : D} → OneContainer → (p : Projected) (entry : Projection) (j : Mergeout) (made : Option Container) (js : List Container) (memory : Option Container) (next after end : ℕ) (dels : List (Option ℕ))
    → AreFour j.level j.merge.inputs p.entry.containers → j.draft.base + file_count (length p.entry.columns) ≤ next → j.draft.rows ≡ j.merge.rows
    → dels ≡ dels_at (deletes_in (chosen j.merge.inputs p.entry.containers) (chosen j.merge.inputs p.beside)) j.merge.places
    → ((m l : Contents) → disk.holds old ≡ Some m → disk.holds mid ≡ Some l → Finishes made (written_of p.entry) (length p.entry.columns) next j.draft dels m l)
    → AreFinished (length p.entry.columns) (j.level + 1) next after j.draft made → Moved disk (Named (vector_file next)) NoName old mid
    → SavesOthers after j.merge.inputs p js (disk.holds mid) (disk.holds new) → ((n : Contents) → disk.holds new ≡ Some n → HoldsBag n (written_of p.entry) (listed memory) p.unsaved)
    → AreSaved after end (length p.entry.columns) p.entry.containers js memory → Moved disk (DataFrom after) NoName mid new
    → entry ≡ with_containers (merged j made js memory) (length (listed memory)) p.entry
    → (m n : Contents) → disk.holds old ≡ Some m → disk.holds new ≡ Some n → IsListedBelow next p.entry → IsMerging m p j.merge → IsDraft m (written_of p.entry) j.draft → length p.entry.columns < j.draft.done
    → KeepsFrom j.merge.mark m n p entry
install_keeps disk {old} {mid} {new} one p entry j made js memory next after end dels four base same dels_are finish finished first save unsaved saved second is m n told left below merging draft done =
    let es = written_of p.entry in
    let flags = j.merge.inputs in
    let ks = p.entry.containers in
    let rise = finished_rises (length p.entry.columns) (j.level + 1) next after j.draft made finished in
    let (l, told_l, rest) = moved_told disk m told first in
    let written : Changed (DataFrom next) NoName m l = between disk m l told told_l (vector_data disk next first) in
    let changed : Changed (DataFrom after) NoName l n = between disk l n told_l left second in
    let places = j.merge.places in
    let stored = merging.stored in
    let rows_are : map asked_of (rows_at stored places) ≡ j.draft.rows = sym merging.rows ∙ sym same in
    let now_are : map del_of (rows_at stored places) ≡ dels =
    dels_at_places stored places ∙ ap (λ (ds : List (Option ℕ)). dels_at ds places) (sym (stored_deletes m es (chosen flags ks) (chosen flags p.beside) stored merging.are)) ∙ sym dels_are in
    let output : HoldsRows l es (listed made) (rows_at stored places) = finish m l told told_l draft done base (rows_at stored places) rows_are now_are in
    let low = finished_below (length p.entry.columns) (j.level + 1) next after j.draft made base finished in
    let at_n : HoldsRows n es (listed made) (rows_at stored places) = rows_below l n es (listed made) (rows_at stored places) after low changed output in
    let others_low : All (IsBelow next) (others flags ks) = all_others (IsBelow next) flags ks below in
    let others_wide : All (IsBelow after) (others flags ks) = All-weaker (IsBelow next) (IsBelow after) (λ k x. wider_below next after k rise.0 x) (others flags ks) others_low in
    let some : 0 < length (chosen flags js) =
    (let long = both_chosen flags ks js (sym (AllZip-long (IsRemarked after saved.mid) ks js saved.each)) in let count = four.four in omega (arith, long, count)) in
    merge_keeps one m n p entry j.merge (listed made) js (listed memory) merging some at_n
    (λ outs stores. save l n told_l left others_wide outs (stores_below m l es (others flags ks) (others flags p.beside) outs next others_low written stores))
    (unsaved n left) (ap (λ (e : Projection). e.columns) is) (ap (λ (e : Projection). e.containers) is)

-- ---- how many containers

length_parted : {X : Type 0} (flags : List Bool) (xs : List X) → length (chosen flags xs) + length (others flags xs) ≡ length xs
length_parted [] xs = omega arith
length_parted (f ∷ flags) [] = refl
length_parted (true ∷ flags) (x ∷ xs) = let rest = length_parted flags xs in omega (arith, rest)
length_parted (false ∷ flags) (x ∷ xs) = let rest = length_parted flags xs in omega (arith, rest)

length_replaced : (flags : List Bool) (made ks : List Container) → 0 < length (chosen flags ks) → length (replaced flags made ks) + length (chosen flags ks) ≡ length made + length ks
length_replaced [] made ks some = absurd (omega (arith, some))
length_replaced (f ∷ flags) made [] some = absurd (omega (arith, some))
length_replaced (true ∷ flags) made (k ∷ ks) some = let all = length-append made (others flags ks) in let rest = length_parted flags ks in omega (arith, all, rest)
length_replaced (false ∷ flags) made (k ∷ ks) some = let rest = length_replaced flags made ks some in omega (arith, rest)

pub merged_count : (next after : ℕ) (j : Mergeout) (old new : Projection) → AreFour j.level j.merge.inputs old.containers → IsMerged next after j old new → length new.containers + 2 ≤ length old.containers
merged_count next after j old new four is =
    let flags = j.merge.inputs in
    let long = AllZip-long (IsRemarked is.mid is.saved.mid) old.containers is.others is.saved.each in
    let both = both_chosen flags old.containers is.others (sym long) in
    let count = four.four in
    let parts = length_replaced flags (listed is.made) is.others (omega (arith, both, count)) in
    let all = ap (λ (e : Projection). length e.containers) is.is in
    let front = length-append (replaced flags (listed is.made) is.others) (listed is.memory) in
    let one = short is.made in
    let two = short is.memory in
    omega (arith, long, both, count, parts, all, front, one, two)

-- ---- levels

weights_same : (next after : ℕ) (ks js : List Container) → AllZip (IsRemarked next after) ks js → weights js ≡ weights ks
weights_same next after [] [] each = refl
weights_same next after [] (j ∷ js) each = absurd each
weights_same next after (k ∷ ks) [] each = absurd each
weights_same next after (k ∷ ks) (j ∷ js) (one, each) =
    let here : weight j ≡ weight k = ap (λ (n : ℕ). 4 ^ n) one.level in
    let rest = weights_same next after ks js each in
    sum_by-cons weight j js ∙ ap₂ (λ (a b : ℕ). a + b) here rest ∙ sym (sum_by-cons weight k ks)

levels_same : (next after level : ℕ) (flags : List Bool) (ks js : List Container) → AllZip (IsRemarked next after) ks js → All (λ k. k.level ≡ level) (chosen flags ks) → All (λ k. k.level ≡ level) (chosen flags js)
levels_same next after level [] ks js each all = All-nil (λ k. k.level ≡ level)
levels_same next after level (f ∷ flags) [] [] each all = All-nil (λ k. k.level ≡ level)
levels_same next after level (f ∷ flags) [] (j ∷ js) each all = absurd each
levels_same next after level (f ∷ flags) (k ∷ ks) [] each all = absurd each
levels_same next after level (true ∷ flags) (k ∷ ks) (j ∷ js) (one, each) all =
    All-cons (λ x. x.level ≡ level) j (chosen flags js) (one.level ∙ All-head (λ x. x.level ≡ level) k (chosen flags ks) all) (levels_same next after level flags ks js each (All-tail (λ x. x.level ≡ level) k (chosen flags ks) all))
levels_same next after level (false ∷ flags) (k ∷ ks) (j ∷ js) (one, each) all = levels_same next after level flags ks js each all

power_more : (n : ℕ) → 4 ^ (n + 1) ≡ 4 * 4 ^ n
power_more n = let next : n + 1 ≡ suc n = omega arith in ap (λ (k : ℕ). 4 ^ k) next ∙ pow-succ' 4 n

made_weighs : (columns level next after : ℕ) (d : Drafted) (made : Option Container) → AreFinished columns (level + 1) next after d made → weights (listed made) ≤ 4 * 4 ^ level
made_weighs columns level next after d None is = omega arith
made_weighs columns level next after d (Some k) is =
    let here : weight k ≡ 4 * 4 ^ level = ap (λ (n : ℕ). 4 ^ n) is.level ∙ power_more level in
    let all = sum_by-cons weight k [] in
    omega (arith, here, all)

memory_weighs : (memory : Option Container) → IfSome memory (λ k. k.level ≡ 0) → weights (listed memory) ≤ length (listed memory)
memory_weighs None is = omega arith
memory_weighs (Some k) is =
    let here : weight k ≡ 1 = ap (λ (n : ℕ). 4 ^ n) is in
    let all = sum_by-cons weight k [] in
    omega (arith, here, all)

pub merged_levels : (next after : ℕ) (j : Mergeout) (old new : Projection) → AreFour j.level j.merge.inputs old.containers → IsMerged next after j old new → weights old.containers ≤ old.born → weights new.containers ≤ new.born
merged_levels next after j old new four is light =
    let flags = j.merge.inputs in
    let each = is.saved.each in
    let long = AllZip-long (IsRemarked is.mid is.saved.mid) old.containers is.others each in
    let both = both_chosen flags old.containers is.others (sym long) in
    let count = four.four in
    let four_long : length (chosen flags is.others) ≡ 4 = sym both ∙ count in
    let parts = sum_replaced weight flags (listed is.made) is.others (omega (arith, four_long)) in
    let inputs : weights (chosen flags is.others) ≡ 4 * 4 ^ j.level =
    four_weigh j.level (chosen flags is.others) (levels_same is.mid is.saved.mid j.level flags old.containers is.others each four.level) ∙ ap (λ (n : ℕ). n * 4 ^ j.level) four_long in
    let same = weights_same is.mid is.saved.mid old.containers is.others each in
    let output = made_weighs (length old.columns) j.level next is.mid j.draft is.made is.output in
    let one = memory_weighs is.memory is.saved.level in
    let all = ap (λ (e : Projection). weights e.containers) is.is in
    let split = sum_by-append weight (replaced flags (listed is.made) is.others) (listed is.memory) in
    let born = ap (λ (e : Projection). e.born) is.is in
    omega (arith, light, parts, inputs, same, output, one, all, split, born)

-- ---- numbers

pub all_in : (P : Container → Type 0) (o : Option Container) → IfSome o P → All P (listed o)
all_in P None one = All-nil P
all_in P (Some k) one = All-cons P k [] one (All-nil P)

pub merged_rises : (next after : ℕ) (j : Mergeout) (old new : Projection) → IsMerged next after j old new → next ≤ after
merged_rises next after j old new is =
    let first = (finished_rises (length old.columns) (j.level + 1) next is.mid j.draft is.made is.output).0 in
    let second = is.saved.later in
    let third = numbers_rise (length old.columns) is.saved.mid after is.memory is.saved.numbers in
    omega (arith, first, second, third)

pub merged_below : (next after : ℕ) (j : Mergeout) (old new : Projection) → j.draft.base + file_count (length old.columns) ≤ next → IsMerged next after j old new → IsListedBelow next old → IsListedBelow after new
merged_below next after j old new base is below =
    let columns = length old.columns in
    let first = (finished_rises columns (j.level + 1) next is.mid j.draft is.made is.output).0 in
    let second = is.saved.later in
    let third = numbers_rise columns is.saved.mid after is.memory is.saved.numbers in
    let made : All (IsBelow after) (listed is.made) =
    All-weaker (IsBelow is.mid) (IsBelow after) (λ k x. wider_below is.mid after k (omega (arith, second, third)) x) (listed is.made) (finished_below columns (j.level + 1) next is.mid j.draft is.made base is.output) in
    let others_low : All (IsBelow after) is.others =
    zip_all (IsRemarked is.mid is.saved.mid) (IsBelow next) (IsBelow after)
    (λ k x same low. wider_below is.saved.mid after x third (remarked_below is.mid is.saved.mid k x second same (wider_below next is.mid k first low))) old.containers is.others is.saved.each below in
    let memory : All (IsBelow after) (listed is.memory) = all_in (IsBelow after) is.memory (made_all_below columns is.saved.mid after is.memory is.saved.numbers) in
    subst (IsListedBelow after) (sym is.is)
    (All-append (IsBelow after) (replaced j.merge.inputs (listed is.made) is.others) (listed is.memory) (all_replaced (IsBelow after) j.merge.inputs (listed is.made) is.others made others_low) memory)

-- ---- that it can be loaded

pub finished_reads : (columns : List ProjColumn) (level next after : ℕ) (d : Drafted) (made : Option Container) → next < 2 ^ 61 → d.base + file_count (length columns) ≤ next → AreFinished (length columns) level next after d made
    → All (IsReadable columns) (listed made) × All HasVectorNumber (listed made)
finished_reads columns level next after d None low base is = (All-nil (IsReadable columns), All-nil HasVectorNumber)
finished_reads columns level next after d (Some k) low base is = (All-cons (IsReadable columns) k [] reads (All-nil (IsReadable columns)), All-cons HasVectorNumber k [] (vector k.marks is.vector) (All-nil HasVectorNumber))
  where
    vector : (o : Option ℕ) → IfSome o (λ n. n ≡ next) → IfSome o (λ n. n < 2 ^ 62)
    vector None number = tt
    vector (Some n) number = omega (arith, number, low)

    reads : IsReadable columns k
    reads = record {
      of_columns = record {
        rows = is.some;
        most = let stored = is.stored in omega (arith, stored);
        defaults = subst (All HasDefaultValue) (sym (drop_all k.stored columns (let stored = is.stored in omega (arith, stored)))) (All-nil HasDefaultValue);
      };
      numbers = let stored = is.stored in let at = is.base in omega (arith, stored, at, base, low);
    }

pub merged_loads : (next after : ℕ) (j : Mergeout) (old new : Projection) → next < 2 ^ 61 → j.draft.base + file_count (length old.columns) ≤ next → IsMerged next after j old new → IsLoadable old → IsLoadable new
merged_loads next after j old new low base is loadable =
    let columns = old.columns in
    let flags = j.merge.inputs in
    let output = finished_reads columns (j.level + 1) next is.mid j.draft is.made low base is.output in
    let memory = made_each columns is.saved.mid after is.memory is.saved.numbers in
    let files : All (IsReadable columns) is.others =
    zip_all (IsRemarked is.mid is.saved.mid) (IsReadable columns) (IsReadable columns) (files_low columns is.mid is.saved.mid) old.containers is.others is.saved.each loadable.files in
    let vectors : All HasVectorNumber is.others =
    zip_all (IsRemarked is.mid is.saved.mid) HasVectorNumber HasVectorNumber (vector_low is.mid is.saved.mid) old.containers is.others is.saved.each loadable.vectors in
    subst IsLoadable (sym is.is)
    (record {
      files = All-append (IsReadable columns) (replaced flags (listed is.made) is.others) (listed is.memory) (all_replaced (IsReadable columns) flags (listed is.made) is.others output.0 files) (all_in (IsReadable columns) is.memory memory.0);
      vectors = All-append HasVectorNumber (replaced flags (listed is.made) is.others) (listed is.memory) (all_replaced HasVectorNumber flags (listed is.made) is.others output.1 vectors) (all_in HasVectorNumber is.memory memory.1);
      sort = loadable.sort;
    })

-- ---- what the calls answered, of the job as it is seen

output_at : (next mid level : ℕ) (inside self : Mergeout) (shape old : Projection) (made : Option Container) → inside ≡ self → shape ≡ old → level ≡ inside.level + 1 → AreFinished (length shape.columns) level next mid inside.draft made
    → AreFinished (length old.columns) (self.level + 1) next mid self.draft made
output_at next mid level inside self shape old made self_is shape_is level_is output =
    subst (λ (j : Mergeout). AreFinished (length old.columns) (j.level + 1) next mid j.draft made) self_is
    (subst (λ (e : Projection). AreFinished (length e.columns) (inside.level + 1) next mid inside.draft made) shape_is (subst (λ (n : ℕ). AreFinished (length shape.columns) n next mid inside.draft made) level_is output))

entry_at : (inside self : Mergeout) (shape old entry : Projection) (made memory : Option Container) (js shown : List Container) (inputs : List Bool) → inside ≡ self → shape ≡ old → inputs ≡ inside.merge.inputs → shown ≡ js
    → entry ≡ with_containers (replaced inputs (listed made) shown ++ listed memory) (length (listed memory)) shape → entry ≡ with_containers (merged self made js memory) (length (listed memory)) old
entry_at inside self shape old entry made memory js shown inputs self_is shape_is inputs_are shown_is is =
    is ∙ ap (with_containers (replaced inputs (listed made) shown ++ listed memory) (length (listed memory))) shape_is
    ∙ ap (λ (ks : List Container). with_containers (ks ++ listed memory) (length (listed memory)) old) (ap₂ (λ (fs : List Bool) (ks : List Container). replaced fs (listed made) ks) (inputs_are ∙ ap (λ (j : Mergeout). j.merge.inputs) self_is) shown_is)

pub merged_is : (next mid after level : ℕ) (inside self : Mergeout) (shape shape_too old entry : Projection) (made memory : Option Container) (js shown : List Container) (inputs : List Bool) → inside ≡ self → shape ≡ old → shape_too ≡ old → level ≡ inside.level + 1
    → AreFinished (length shape.columns) level next mid inside.draft made → AreSaved mid after (length old.columns) old.containers js memory → inputs ≡ inside.merge.inputs → shown ≡ js
    → entry ≡ with_containers (replaced inputs (listed made) shown ++ listed memory) (length (listed memory)) shape_too → IsMerged next after self old entry
merged_is next mid after level inside self shape shape_too old entry made memory js shown inputs self_is shape_is too_is level_is output saved inputs_are shown_is is = record {
  made = made;
  others = js;
  memory = memory;
  mid = mid;
  output = output_at next mid level inside self shape old made self_is shape_is level_is output;
  saved = saved;
  is = entry_at inside self shape_too old entry made memory js shown inputs self_is too_is inputs_are shown_is is;
}

pub keeps_at : {D : Type 0} (disk : Ghosts D) {old mid new : D} → OneContainer → (p : Projected) (shape shape_too entry : Projection) (inside self : Mergeout) (made memory : Option Container) (js shown : List Container) (next after end level : ℕ)
    (dels dels_shown : List (Option ℕ)) (flags : List Bool) (places : List ℕ) → inside ≡ self → shape ≡ p.entry → shape_too ≡ p.entry → level ≡ inside.level + 1 → AreFour self.level self.merge.inputs p.entry.containers
    → self.draft.base + file_count (length p.entry.columns) ≤ next → inside.draft.rows ≡ inside.merge.rows → flags ≡ inside.merge.inputs → places ≡ inside.merge.places → dels_shown ≡ dels → shown ≡ js
    → dels ≡ dels_at (deletes_in (chosen flags p.entry.containers) (chosen flags p.beside)) places
    → ((m l : Contents) → disk.holds old ≡ Some m → disk.holds mid ≡ Some l → Finishes made (written_of shape) (length shape.columns) next inside.draft dels_shown m l)
    → AreFinished (length shape.columns) level next after inside.draft made → Moved disk (Named (vector_file next)) NoName old mid
    → SavesOthers after flags p js (disk.holds mid) (disk.holds new) → ((n : Contents) → disk.holds new ≡ Some n → HoldsBag n (written_of p.entry) (listed memory) p.unsaved) → AreSaved after end (length p.entry.columns) p.entry.containers js memory
    → Moved disk (DataFrom after) NoName mid new → entry ≡ with_containers (replaced flags (listed made) shown ++ listed memory) (length (listed memory)) shape_too
    → (m n : Contents) → disk.holds old ≡ Some m → disk.holds new ≡ Some n → IsListedBelow next p.entry → IsMerging m p self.merge → IsDraft m (written_of p.entry) self.draft → length p.entry.columns < self.draft.done
    → KeepsFrom self.merge.mark m n p entry
keeps_at disk {old} {mid} {new} one p shape shape_too entry inside self made memory js shown next after end level dels dels_shown flags places self_is shape_is too_is level_is four base rows_same flags_are places_are dels_is shown_is dels_are finish output first save unsaved saved second is =
    let flags_self : flags ≡ self.merge.inputs = flags_are ∙ ap (λ (j : Mergeout). j.merge.inputs) self_is in
    let places_self : places ≡ self.merge.places = places_are ∙ ap (λ (j : Mergeout). j.merge.places) self_is in
    let same : self.draft.rows ≡ self.merge.rows = subst (λ (j : Mergeout). j.draft.rows ≡ j.merge.rows) self_is rows_same in
    let dels_self : dels ≡ dels_at (deletes_in (chosen self.merge.inputs p.entry.containers) (chosen self.merge.inputs p.beside)) self.merge.places =
    dels_are ∙ ap₂ (λ (fs : List Bool) (ps : List ℕ). dels_at (deletes_in (chosen fs p.entry.containers) (chosen fs p.beside)) ps) flags_self places_self in
    install_keeps disk {old = old} {mid = mid} {new = new} one p entry self made js memory next after end dels four base same dels_self
    (λ m l told told_l.
    subst (λ (ds : List (Option ℕ)). Finishes made (written_of p.entry) (length p.entry.columns) next self.draft ds m l) dels_is
    (subst (λ (j : Mergeout). Finishes made (written_of p.entry) (length p.entry.columns) next j.draft dels_shown m l) self_is
    (subst (λ (e : Projection). Finishes made (written_of e) (length e.columns) next inside.draft dels_shown m l) shape_is (finish m l told told_l))))
    (output_at next after level inside self shape p.entry made self_is shape_is level_is output) first
    (subst (λ (fs : List Bool). SavesOthers after fs p js (disk.holds mid) (disk.holds new)) flags_self save) unsaved saved second
    (entry_at inside self shape_too p.entry entry made memory js shown flags self_is too_is flags_are shown_is is)
