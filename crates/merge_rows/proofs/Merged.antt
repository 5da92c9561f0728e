-- A merge that is installed.
use Rattle.std.proofs.Common.{◌≡◌, ℕ, ◌+◌, ◌<◌, ◌≤◌, ◌++◌, Bool, true, false, List, [], ◌∷◌, length, map, refl, sym, ap, ◌∙◌, arith, subst}
use Rattle.std.proofs.lemmas.List.Elements.{filter-append}
use Rattle.common_laws.specs.Bags.{SameBag}
use Rattle.common_laws.specs.Maps.{Contents}
use Rattle.common_laws.proofs.BagLaws.{bag_refl, bag_sym, bag_trans, bag_append, bag_filter}
use Rattle.col_value.specs.declared.row.Stamped.{Stamped}
use Rattle.row_history.specs.History.{is_retained, retained}
use Rattle.catalog_types.specs.declared.catalogue.Container.{Container}
use Rattle.catalog_types.specs.declared.catalogue.Projection.{Projection}
use Rattle.ros_container.specs.Encodings.{Written, written_as, written_of}
use Rattle.stored_rows.specs.Held.{HoldsRows, Holds}
use Rattle.stored_rows.specs.Stored.{Beside, Projected, StoresRows, Stores}
use Rattle.stored_rows.proofs.OneList.{OneContainer}
use Rattle.merge_rows.proofs.Parts.{one_saved}
use Rattle.merge_rows.specs.Places.{rows_at, TakesPlaces, RetainsSame}
use Rattle.merge_rows.specs.Inputs.{chosen, others, replaced, Merging, IsMerging, KeepsFrom, HoldsSome}
use Rattle.merge_rows.proofs.Taken.{taken_retained}
use Rattle.merge_rows.proofs.Parts.{rows_join, parted, put_back}

pub retains_append : (mark : ℕ) (xs ys us vs : List Stamped) → RetainsSame mark xs us → RetainsSame mark ys vs → RetainsSame mark (xs ++ ys) (us ++ vs)
retains_append mark xs ys us vs first second =
    subst (λ (zs : List Stamped). SameBag zs (retained mark (us ++ vs))) (sym (filter-append (is_retained mark) xs ys))
    (subst (SameBag (retained mark xs ++ retained mark ys)) (sym (filter-append (is_retained mark) us vs)) (bag_append (retained mark xs) (retained mark ys) (retained mark us) (retained mark vs) first second))

pub retains_of_bag : (mark : ℕ) (xs ys : List Stamped) → SameBag xs ys → RetainsSame mark xs ys
retains_of_bag mark xs ys same = bag_filter (is_retained mark) xs ys same

pub retains_join : (mark : ℕ) (xs ys zs : List Stamped) → RetainsSame mark xs ys → RetainsSame mark ys zs → RetainsSame mark xs zs
retains_join mark xs ys zs first second = bag_trans (retained mark xs) (retained mark ys) (retained mark zs) first second

-- The entry in which a merge's inputs gave way to its output, whose marks are those of now, and all else was written as it is, holds
-- from the merge's mark on what the projection stores.
pub merge_keeps : OneContainer → (m n : Contents) (p : Projected) (entry : Projection) (j : Merging) (made js more : List Container) (merging : IsMerging m p j)
    → 0 < length (chosen j.inputs js)
    → HoldsRows n (written_of p.entry) made (rows_at merging.stored j.places)
    → ((outs : List Stamped) → StoresRows m (written_of p.entry) (others j.inputs p.entry.containers) (others j.inputs p.beside) outs → HoldsRows n (written_of p.entry) (others j.inputs js) outs)
    → HoldsSome n (written_of p.entry) more p.unsaved
    → entry.columns ≡ p.entry.columns → entry.containers ≡ replaced j.inputs made js ++ more
    → KeepsFrom j.mark m n p entry
merge_keeps one m n p entry j made js more merging some output each (memory, in_memory, memory_bag) columns is stored (saved, stores, stored_is) =
    let es = written_of p.entry in
    let parts = parted m es j.inputs p.entry.containers p.beside saved stores in
    let ins_are : parts.ins ≡ merging.stored = one_saved one m es (chosen j.inputs p.entry.containers) (chosen j.inputs p.beside) parts.ins merging.stored parts.chosen_are merging.are in
    let (rows, held, bag) = put_back n es j.inputs made js (rows_at merging.stored j.places) parts.outs some output (each parts.outs parts.others_are) in
    let all : HoldsRows n es (replaced j.inputs made js ++ more) (rows ++ memory) = rows_join n es (replaced j.inputs made js) more rows memory held in_memory in
    let taken : RetainsSame j.mark (rows_at merging.stored j.places) merging.stored = taken_retained j.mark merging.stored j.places merging.taken in
    let kept : RetainsSame j.mark (rows_at merging.stored j.places ++ parts.outs) (parts.ins ++ parts.outs) =
    subst (λ (xs : List Stamped). RetainsSame j.mark (rows_at merging.stored j.places ++ parts.outs) (xs ++ parts.outs)) (sym ins_are)
    (retains_append j.mark (rows_at merging.stored j.places) parts.outs merging.stored parts.outs taken (bag_refl (retained j.mark parts.outs))) in
    let front : RetainsSame j.mark rows saved =
    retains_join j.mark rows (rows_at merging.stored j.places ++ parts.outs) saved (retains_of_bag j.mark rows (rows_at merging.stored j.places ++ parts.outs) bag)
    (retains_join j.mark (rows_at merging.stored j.places ++ parts.outs) (parts.ins ++ parts.outs) saved kept (retains_of_bag j.mark (parts.ins ++ parts.outs) saved (bag_sym saved (parts.ins ++ parts.outs) parts.bag))) in (
      rows ++ memory,
      subst (λ (ks : List Container). HoldsRows n (written_of entry) ks (rows ++ memory)) (sym is)
          (subst (λ (fs : List Written). HoldsRows n fs (replaced j.inputs made js ++ more) (rows ++ memory)) (sym (ap (map written_as) columns)) all),
      subst (λ (xs : List Stamped). RetainsSame j.mark (rows ++ memory) xs) (sym stored_is)
          (retains_append j.mark rows memory saved p.unsaved front (retains_of_bag j.mark memory p.unsaved (bag_sym p.unsaved memory memory_bag))),
    )
