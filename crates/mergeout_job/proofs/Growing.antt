-- What a commit does to the inputs of a mergeout in flight.
use Rattle.std.proofs.Common.{◌≡◌, ℕ, ◌++◌, List, [], ◌∷◌, length, refl, arith}
use Rattle.common_laws.specs.Maps.{Contents}
use Rattle.col_value.specs.declared.row.Stamped.{Stamped}
use Rattle.catalog_types.specs.declared.catalogue.Container.{Container}
use Rattle.ros_container.specs.Encodings.{Written, written_of}
use Rattle.stored_rows.specs.Stored.{Beside, Projected, with_rows}
use Rattle.proj_store.specs.Marking.{Places, marks_at, all_marked, with_marks}
use Rattle.merge_rows.specs.Inputs.{Grows, GrowsEach, GrowsInto, Merging, IsMerging}
use Rattle.merge_rows.proofs.Taken.{grown_refl}
use Rattle.merge_rows.proofs.Growing.{marks_grow, merging_grows}

-- ---- a commit of deletes

same_grows : (m : Contents) (es : List Written) (k : Container) (b : Beside) → Grows m m es k k b b
same_grows m es k b = record { vector = λ v. v; rows = λ v old was. (old, was, grown_refl old) }

each_grows : (m : Contents) (es : List Written) (epoch : ℕ) (ks : List Container) (bs : List Beside) (each : List (List ℕ)) → length ks ≡ length bs → GrowsEach m m es ks bs ks (all_marked epoch bs each)
each_grows m es epoch [] [] each long = tt
each_grows m es epoch [] (b ∷ bs) each long = absurd (omega (arith, long))
each_grows m es epoch (k ∷ ks) [] each long = absurd (omega (arith, long))
each_grows m es epoch (k ∷ ks) (b ∷ bs) [] long = (same_grows m es k b, rest ks bs (omega (arith, long)))
  where
    rest : (js : List Container) (cs : List Beside) → length js ≡ length cs → GrowsEach m m es js cs js cs
    rest [] [] same = tt
    rest [] (c ∷ cs) same = absurd (omega (arith, same))
    rest (j ∷ js) [] same = absurd (omega (arith, same))
    rest (j ∷ js) (c ∷ cs) same = (same_grows m es j c, rest js cs (omega (arith, same)))
each_grows m es epoch (k ∷ ks) (b ∷ bs) (places ∷ each) long = (marks_grow m es k b (marks_at epoch places), each_grows m es epoch ks bs each (omega (arith, long)))

-- Whatever is deleted, the projection grows.
pub deletes_grow : (m : Contents) (epoch : ℕ) (p : Projected) (ready : Places) → length p.entry.containers ≡ length p.beside → GrowsInto m m p (with_marks epoch ready p)
deletes_grow m epoch p ready long = record { columns = refl; each = each_grows m (written_of p.entry) epoch p.entry.containers p.beside ready.each long }

each_same : (m : Contents) (es : List Written) (ks : List Container) (bs : List Beside) → length ks ≡ length bs → GrowsEach m m es ks bs ks bs
each_same m es [] [] long = tt
each_same m es [] (b ∷ bs) long = absurd (omega (arith, long))
each_same m es (k ∷ ks) [] long = absurd (omega (arith, long))
each_same m es (k ∷ ks) (b ∷ bs) long = (same_grows m es k b, each_same m es ks bs (omega (arith, long)))

-- Whatever is inserted, its containers are the same.
pub inserts_grow : (m : Contents) (rows : List Stamped) (p : Projected) → length p.entry.containers ≡ length p.beside → GrowsInto m m p (with_rows rows p)
inserts_grow m rows p long = record { columns = refl; each = each_same m (written_of p.entry) p.entry.containers p.beside long }

-- So a mergeout in flight stands on.
pub merging_deleted : (m : Contents) (epoch : ℕ) (p : Projected) (ready : Places) (j : Merging) → length p.entry.containers ≡ length p.beside → IsMerging m p j → IsMerging m (with_marks epoch ready p) j
merging_deleted m epoch p ready j long is = merging_grows m m p (with_marks epoch ready p) j (deletes_grow m epoch p ready long) is

pub merging_inserted : (m : Contents) (rows : List Stamped) (p : Projected) (j : Merging) → length p.entry.containers ≡ length p.beside → IsMerging m p j → IsMerging m (with_rows rows p) j
merging_inserted m rows p j long is = merging_grows m m p (with_rows rows p) j (inserts_grow m rows p long) is
