-- After a mergeout each container has its delete vector on disk, or is one of those that were there.
use Rattle.std.proofs.Common.{◌≡◌, ◌<◌, ◌≤◌, ◌+◌, ◌++◌, ℕ, Bool, List, [], length, sym, ap, subst, arith}
use Rattle.std.specs.Prelude.{Option, Some, None, IfSome}
use Rattle.std.specs.Option.{option_map_or}
use Rattle.std.specs.List.{All}
use Rattle.std.proofs.lemmas.List.Elements.{All-nil}
use Rattle.common_laws.specs.Maps.{Contents}
use Rattle.col_disk.specs.Moved.{Changed, Moved, NoName}
use Rattle.col_disk.specs.declared.disk.Disk.{Ghosts}
use Rattle.catalog_types.specs.declared.catalogue.Container.{Container}
use Rattle.catalog_types.specs.declared.catalogue.Projection.{Projection}
use Rattle.container_writer.specs.Writing.{listed, DataFrom}
use Rattle.container_draft.specs.Draft.{Drafted}
use Rattle.container_draft.specs.Finished.{AreFinished, HasVector, IsFinished}
use Rattle.merge_rows.specs.Inputs.{replaced}
use Rattle.moveout_job.specs.OnDisk.{AreSaved, HasVectorBelow, HaveVectors, IsKeptOrHasVector}
use Rattle.moveout_job.proofs.Assembled.{all_listed, numbers_rise}
use Rattle.moveout_job.proofs.Vectors.{moved_back, some_kept, vector_later}
use Rattle.mergeout_job.specs.Merged.{with_containers}
use Rattle.mergeout_job.proofs.Put.{all_replaced}

finished_low : (columns level next after : ℕ) (d : Drafted) (k : Container) → IsFinished columns level next after d k → IfSome k.marks (λ v. v < after)
finished_low columns level next after d k is = by k.marks is.vector is.ends
  where
    by : (o : Option ℕ) → IfSome o (λ v. v ≡ next) → after ≡ next + option_map_or (λ _. 1) o 0 → IfSome o (λ v. v < after)
    by None v e = tt
    by (Some n) v e = omega (arith, v, e)

-- the output, whose vector was written before the others
output_vector : (columns level next after end : ℕ) (d : Drafted) (m n : Contents) (made : Option Container) → AreFinished columns level next after d made → after ≤ end → Changed (DataFrom after) NoName m n → IfSome made (HasVector m) → IfSome made (HasVectorBelow end n)
output_vector columns level next after end d m n None are le changed has = tt
output_vector columns level next after end d m n (Some k) are le changed has =
    vector_later m n after end k le changed (record { marks = has.0; held = has.1; low = finished_low columns level next after d k are })

saved_rises : (next after columns : ℕ) (olds js : List Container) (memory : Option Container) → AreSaved next after columns olds js memory → next ≤ after
saved_rises next after columns olds js memory is = let later = is.later in let rise = numbers_rise columns is.mid after memory is.numbers in omega (arith, later, rise)

pub merged_vectors : {D : Type 0} (disk : Ghosts D) {mid new : D} (columns level next after end : ℕ) (d : Drafted) (old shape entry : Projection) (flags : List Bool) (made memory : Option Container) (js shown : List Container)
    → AreFinished columns level next after d made → ((m : Contents) → disk.holds mid ≡ Some m → IfSome made (HasVector m)) → AreSaved after end (length old.columns) old.containers js memory → Moved disk (DataFrom after) NoName mid new
    → ((n : Contents) → disk.holds new ≡ Some n → HaveVectors end n old.containers js memory) → shown ≡ js → entry ≡ with_containers (replaced flags (listed made) shown ++ listed memory) (length (listed memory)) shape
    → (n : Contents) → disk.holds new ≡ Some n → All (IsKeptOrHasVector end n old.containers) entry.containers
merged_vectors disk columns level next after end d old shape entry flags made memory js shown output vector saved moved have shown_is is n told =
    let P : Container → Type 0 = IsKeptOrHasVector end n old.containers in
    let (m, told_m, changed) = moved_back disk n told moved in
    let le : after ≤ end = saved_rises after end (length old.columns) old.containers js memory saved in
    let all = have n told in
    let own = output_vector columns level next after end d m n made output le changed (vector m told_m) in
    subst (All P) (sym (ap (λ (e : Projection). e.containers) is))
    (all_listed P (replaced flags (listed made) shown) memory
    (all_replaced P flags (listed made) shown (all_listed P [] made (All-nil P) (some_kept end n old.containers made own)) (subst (All P) (sym shown_is) all.each))
    (some_kept end n old.containers memory all.last))
