-- The numbers of a catalogue that was opened.
use Rattle.std.proofs.Common.{◌≡◌, ℕ, ◌+◌, ◌<◌, ◌≤◌, List, [], ◌∷◌, length, refl, sym, subst, arith}
use Rattle.std.specs.List.{All, AllZip}
use Rattle.std.proofs.lemmas.List.Elements.{All-cons, All-head, All-nil, All-tail}
use Rattle.common_laws.specs.Maps.{Contents}
use Rattle.col_disk.specs.Moved.{Moved, Looks, NoName}
use Rattle.col_disk.specs.declared.disk.Disk.{Ghosts}
use Rattle.catalog_types.specs.Numbers.{store_count}
use Rattle.catalog_types.specs.Reached.{least_lge}
use Rattle.catalog_types.specs.Valid.{IsValid}
use Rattle.catalog_types.specs.declared.catalogue.Catalogue.{Catalogue}
use Rattle.catalog_types.specs.declared.catalogue.Projection.{Projection}
use Rattle.catalog_types.specs.declared.catalogue.Table as kept
use Rattle.catalog_root.specs.declared.found.Found.{Found}
use Rattle.catalog_root.specs.declared.found.Found.TheVariants.{Fresh, Root}
use Rattle.catalog_root.specs.Root.{IsFresh, IsRoot, Opens}
use Rattle.catalog_root.proofs.Roots.{one_root, not_fresh}
use Rattle.container_writer.specs.Writing.{DataFrom}
use Rattle.container_cut.specs.Cutting.{Between}
use Rattle.cut_job.specs.Cutting.{CutsCatalogue}
use Rattle.cut_model.specs.Cut.{IsCutEntry, IsCutRoot, IsCutTable}
use Rattle.db_model.specs.Database.{Database}
use Rattle.store_commit.specs.Seen.{Seen, seen}
use Rattle.table_store.specs.Drawing.{FewContainers}
use Rattle.store_opening.specs.Opening.{IsOpenedFrom, IsOpenedOf, IsQuietFor}
use Rattle.store_opening.proofs.Recovered.{cut_beside}

module _ {A B : Type 0} (R : A → B → Type 0) (P : A → Type 0) (Q : B → Type 0) (carry : (x : A) (y : B) → R x y → P x → Q y) where
  carried : (xs : List A) (ys : List B) → AllZip R xs ys → All P xs → All Q ys
  carried [] [] zip all = All-nil Q
  carried [] (y ∷ ys) zip all = absurd zip
  carried (x ∷ xs) [] zip all = absurd zip
  carried (x ∷ xs) (y ∷ ys) zip all = All-cons Q y ys (carry x y zip.0 (All-head P x xs all)) (carried xs ys zip.1 (All-tail P x xs all))

abbrev HasFew : ℕ → Projection → Type 0
HasFew n p = length p.containers ≤ n

abbrev HasFewEach : ℕ → kept.Table → Type 0
HasFewEach n t = All (HasFew n) t.projections

-- a cut makes no projection have more containers
few_cut : (m n : Contents) (c r : Catalogue) → IsCutRoot m n c r → (most : ℕ) → FewContainers most c → FewContainers most r
few_cut m n c r cut most few =
    carried (IsCutTable m n c.ahm (least_lge c)) (HasFewEach most) (HasFewEach most)
    (λ t u is. carried (IsCutEntry m n c.ahm (least_lge c)) (HasFew most) (HasFew most) (λ p q entry le. omega (arith, entry.fewer, le)) t.projections u.projections is.projections)
    c.tables r.tables cut.tables few

-- ---- what an opening answers

pub kept_numbers : (c : Catalogue) (s : Seen) (stores : List (List _)) → s ≡ seen c stores → IsOpenedFrom c s.catalogue
kept_numbers c s stores is = subst (λ (z : Seen). IsOpenedFrom c z.catalogue) (sym is) (record { least = omega arith; most = omega arith; few = λ n few. few })

pub cut_numbers : {D : Type 0} (disk : Ghosts D) {old read now : D} (v : ℕ) (c r : Catalogue) (s : Seen) (stores : List (List _)) (d : Database) (m : Contents) → s ≡ seen r stores → c.next < r.next
    → r.next ≤ c.next + store_count c + 1 → IsValid c → Looks disk old read → Moved disk (DataFrom c.next) NoName read now → Between (CutsCatalogue c r) (disk.holds read) (disk.holds now)
    → IsQuietFor disk old v c d m → IsOpenedFrom c s.catalogue
cut_numbers disk {old} {read} {now} v c r s stores d m is later most valid looks moved cuts quiet =
    let (n, beside) = cut_beside disk {old = old} {read = read} {now = now} v c r d m valid looks moved cuts quiet in
    subst (λ (z : Seen). IsOpenedFrom c z.catalogue) (sym is) (record { least = omega (arith, later); most = most; few = few_cut m n c r beside.cut })

pub fresh_numbers : (m : Contents) (s : Seen) (f : Found) → s ≡ seen (record { last = 0; ahm = 0; next = 1; tables = [] }) [] → f ≡ Fresh → Opens m f → IsOpenedOf m s.catalogue
fresh_numbers m s f is none opens =
    let fresh : IsFresh m = subst (Opens m) none opens in
    subst (λ (z : Seen). IsOpenedOf m z.catalogue) (sym is) (record { fresh = λ _. (refl, refl); root = λ v c root. absurd (not_fresh m v c root fresh) })

pub root_numbers : (m : Contents) (s : Seen) (v : ℕ) (c : Catalogue) (f : Found) → f ≡ Root v c → Opens m f → IsOpenedFrom c s.catalogue → IsOpenedOf m s.catalogue
root_numbers m s v c f is opens from =
    let root : IsRoot m v c = subst (Opens m) is opens in
    record {
      fresh = λ fresh. absurd (not_fresh m v c root fresh);
      root = λ w e other. subst (λ (x : Catalogue). IsOpenedFrom x s.catalogue) (one_root m v w c e root other).1 from;
    }
