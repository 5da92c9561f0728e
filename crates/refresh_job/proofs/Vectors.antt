-- After a refresh each container has its delete vector on disk.
use Rattle.std.proofs.Common.{◌≡◌, ◌<◌, ◌≤◌, ◌+◌, ◌++◌, ℕ, List, sym, ap, subst, arith}
use Rattle.std.specs.Prelude.{Option, Some, None, IfSome}
use Rattle.std.specs.Option.{option_map_or}
use Rattle.std.specs.List.{All}
use Rattle.std.proofs.lemmas.List.Elements.{All-append}
use Rattle.common_laws.specs.Maps.{Contents}
use Rattle.col_disk.specs.Moved.{Changed, Moved, NoName}
use Rattle.col_disk.specs.declared.disk.Disk.{Ghosts}
use Rattle.col_value.specs.declared.row.Stamped.{Stamped}
use Rattle.catalog_types.specs.declared.catalogue.Container.{Container}
use Rattle.catalog_types.specs.declared.catalogue.Projection.{Projection}
use Rattle.ros_container.specs.Encodings.{Written}
use Rattle.container_writer.specs.Writing.{listed, AreNumbered, DataFrom, HoldsBag}
use Rattle.merge_rows.specs.Rewritten.{rewritten_to}
use Rattle.container_draft.specs.Draft.{Drafted}
use Rattle.container_draft.specs.Finished.{AreFinished, HasVector, IsFinished}
use Rattle.moveout_job.specs.OnDisk.{HasVectorBelow}
use Rattle.moveout_job.proofs.Assembled.{made_all_below, numbers_rise}
use Rattle.moveout_job.proofs.Vectors.{made_vector, moved_back, vector_later}
use Rattle.mergeout_job.proofs.Installed.{all_in}

first_low : (columns next after : ℕ) (d : Drafted) (k : Container) → IsFinished columns 0 next after d k → IfSome k.marks (λ v. v < after)
first_low columns next after d k is = by k.marks is.vector is.ends
  where
    by : (o : Option ℕ) → IfSome o (λ v. v ≡ next) → after ≡ next + option_map_or (λ _. 1) o 0 → IfSome o (λ v. v < after)
    by None v e = tt
    by (Some n) v e = omega (arith, v, e)

-- the first one, whose vector was written before the other
first_vector : (columns next after end : ℕ) (d : Drafted) (m n : Contents) (first : Option Container) → AreFinished columns 0 next after d first → after ≤ end → Changed (DataFrom after) NoName m n → IfSome first (HasVector m) → IfSome first (HasVectorBelow end n)
first_vector columns next after end d m n None are le changed has = tt
first_vector columns next after end d m n (Some k) are le changed has =
    vector_later m n after end k le changed (record { marks = has.0; held = has.1; low = first_low columns next after d k are })

pub refreshed_vectors : {D : Type 0} (disk : Ghosts D) {mid new : D} (columns next after end last born : ℕ) (es : List Written) (d : Drafted) (shape entry : Projection) (first later : Option Container) (rows : List Stamped) → AreFinished columns 0 next after d first
    → ((m : Contents) → disk.holds mid ≡ Some m → IfSome first (HasVector m)) → AreNumbered columns after end later → Moved disk (DataFrom after) NoName mid new → ((n : Contents) → disk.holds new ≡ Some n → HoldsBag n es (listed later) rows)
    → entry ≡ rewritten_to last born (listed first ++ listed later) shape → (n : Contents) → disk.holds new ≡ Some n → All (HasVectorBelow end n) entry.containers
refreshed_vectors disk columns next after end last born es d shape entry first later rows output vector numbers moved bag is n told =
    let (m, told_m, changed) = moved_back disk n told moved in
    let one = first_vector columns next after end d m n first output (numbers_rise columns after end later numbers) changed (vector m told_m) in
    let other = made_vector n end es later rows (bag n told) (made_all_below columns after end later numbers) in
    subst (All (HasVectorBelow end n)) (sym (ap (λ (e : Projection). e.containers) is))
    (All-append (HasVectorBelow end n) (listed first) (listed later) (all_in (HasVectorBelow end n) first one) (all_in (HasVectorBelow end n) later other))
