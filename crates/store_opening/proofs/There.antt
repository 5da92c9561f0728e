-- What an opening has seen of a folder, and how it leaves one of which it blames a file.
use Rattle.std.proofs.Common.{◌≡◌, ℕ, List, [], ◌∷◌, subst, inl, inr}
use Rattle.std.specs.Prelude.{◌⊎◌, Some}
use Rattle.std.specs.List.{All, AllZip}
use Rattle.std.proofs.lemmas.List.Elements.{All-nil, All-cons}
use Rattle.common_laws.specs.Maps.{Contents}
use Rattle.col_disk.specs.Moved.{Looks}
use Rattle.col_disk.specs.declared.disk.Disk.{Ghosts}
use Rattle.col_disk.specs.declared.disk.StoreFault.{StoreFault}
use Rattle.col_disk.specs.declared.disk.StoreFault.TheVariants.{Disk, Damaged, Memory}
use Rattle.col_disk.proofs.Moving.{looks_join, moved_join, moved_read}
use Rattle.catalog_types.specs.declared.catalogue.Catalogue.{Catalogue}
use Rattle.catalog_types.specs.declared.catalogue.Projection.{Projection}
use Rattle.catalog_types.specs.declared.catalogue.Table.{Table}
use Rattle.catalog_root.specs.declared.found.Found.{Found}
use Rattle.catalog_root.specs.declared.found.Found.TheVariants.{Fresh, Root}
use Rattle.catalog_root.specs.Root.{Opens}
use Rattle.cut_model.specs.Loaded.{IsLoadedEntry, AreLoadedEntries, LoadedStores}
use Rattle.stored_rows.specs.Stored.{Projected, IsUnmarked}
use Rattle.store_opening.specs.Opening.{HasBegunCut, HasFiles, HasVector, IsLeftAlone, IsOpening, IsThere, OfEach, WhereBlamed}

-- ---- the files of a catalogue that was read

zip_first : {X Y : Type 0} (R : X → Y → Type 0) (P : X → Type 0) → ((x : X) (y : Y) → R x y → P x) → (xs : List X) (ys : List Y) → AllZip R xs ys → All P xs
zip_first R P h [] ys zip = All-nil P
zip_first R P h (x ∷ xs) [] zip = absurd zip
zip_first R P h (x ∷ xs) (y ∷ ys) (here, more) = All-cons P x xs (h x y here) (zip_first R P h xs ys more)

vectors_in : (m : Contents) (p : Projection) (q : Projected) → IsLoadedEntry m p q → All (HasVector m) p.containers
vectors_in m p q is = subst (λ (e : Projection). All (HasVector m) e.containers) is.entry (zip_first (IsUnmarked m) (HasVector m) (λ k b kept. (b.held, kept.0)) q.entry.containers q.beside is.loaded.beside)

vectors_of : (m : Contents) (t : Table) (qs : List Projected) → AreLoadedEntries m t qs → All (λ p. All (HasVector m) p.containers) t.projections
vectors_of m t qs are = zip_first (IsLoadedEntry m) (λ p. All (HasVector m) p.containers) (vectors_in m) t.projections qs are

pub all_there : (m : Contents) (c : Catalogue) (stores : List (List Projected)) → OfEach (HasFiles m) c → LoadedStores m c stores → IsThere m c
all_there m c stores files loaded = record { files = files; vectors = zip_first (AreLoadedEntries m) (λ t. All (λ p. All (HasVector m) p.containers) t.projections) (vectors_of m) c.tables stores loaded }

pub fresh_opening : (m : Contents) (f : Found) → f ≡ Fresh → Opens m f → IsOpening m
fresh_opening m f is opens = inl (subst (Opens m) is opens)

pub root_opening : (m : Contents) (v : ℕ) (c : Catalogue) (f : Found) → f ≡ Root v c → Opens m f → IsThere m c → IsOpening m
root_opening m v c f is opens there = inr (v, c, subst (Opens m) is opens, there)

-- ---- a folder of which a file is blamed

pub where_always : (Fact : Type 0) (fault : StoreFault) → Fact → WhereBlamed Fact fault
where_always Fact (Damaged q) is = is
where_always Fact Disk is = tt
where_always Fact Memory is = tt

pub where_wider : (Fact Other : Type 0) (fault : StoreFault) → (Fact → Other) → WhereBlamed Fact fault → WhereBlamed Other fault
where_wider Fact Other (Damaged q) h is = h is
where_wider Fact Other Disk h is = tt
where_wider Fact Other Memory h is = tt

pub left_alone : {D : Type 0} (disk : Ghosts D) {old mid new : D} (v : ℕ) (c : Catalogue) (f : Found) → f ≡ Root v c → ((m : Contents) → disk.holds old ≡ Some m → Opens m f) → Looks disk old mid
    → Looks disk mid new ⊎ HasBegunCut disk c mid new → IsLeftAlone disk old new
left_alone disk v c f is opens looks (inl more) = inl (looks_join disk looks more)
left_alone disk v c f is opens looks (inr begun) = inr (v, c, λ m told. subst (Opens m) is (opens m told), record { past = begun.past; moved = moved_join disk (moved_read disk looks) begun.moved })
