-- Which file is blamed where a container of a projection can't be read.
use Rattle.catalog_types.specs.Blank.{blank_container as blank}
use Rattle.std.proofs.Common.{◌≡◌, ℕ, zero, suc, List, [], ◌∷◌, length, get_or, refl, sym, ap, ◌∙◌, arith, subst}
use Rattle.std.specs.Prelude.{Option, IsSomeAnd}
use Rattle.std.specs.List.{Any, slice_get}
use Rattle.std.specs.Option.{IfSome}
use Rattle.common_laws.specs.Maps.{Contents}
use Rattle.col_disk.specs.declared.disk.StoreFault.{StoreFault}
use Rattle.col_disk.specs.declared.disk.StoreFault.TheVariants.{Disk, Damaged, Memory}
use Rattle.catalog_types.specs.declared.catalogue.Container.{Container}
use Rattle.catalog_types.specs.declared.catalogue.Projection.{Projection}
use Rattle.ros_container.specs.Encodings.{written_of}
use Rattle.ros_container.specs.Held.{BlamesContainer}
use Rattle.stored_rows.specs.Stored.{Beside, Projected}
use Rattle.proj_store.specs.Reading.{BlamesRows}
use Rattle.exec_scan.specs.Opened.{HasOpened, Opening}
use Rattle.exec_scan.specs.Scanning.{BlamesContainerAt, HasOpenedAt}

any_at : {X : Type 0} (P : X → Type 0) (xs : List X) (i : ℕ) → IsSomeAnd (slice_get xs i) P → Any P xs
any_at P [] i is = absurd is
any_at P (x ∷ xs) zero is = (zero, x, omega arith, refl, is)
any_at P (x ∷ xs) (suc i) is = let (j, y, lt, at, has) = any_at P xs i is in (suc j, y, omega (arith, lt), at, has)

-- a container at a place is one of the projection's
pub blames_at : (p : Projection) (i : ℕ) (holds : Option Contents) (fault : StoreFault) → BlamesContainerAt p i holds fault → BlamesRows p holds fault
blames_at p i holds (Damaged q) at = any_at (λ k. BlamesContainer (written_of p) k holds (Damaged q)) p.containers i at
blames_at p i holds Disk at = tt
blames_at p i holds Memory at = tt

-- what was opened of the container at a place, with its marks
blames_opened : (p : Projected) (i : ℕ) (ps : List (Option ℕ)) (holds : Option Contents) (opened : Opening) (ks : List Container) (bs : List Beside) (fault : StoreFault)
    → IsSomeAnd (slice_get ks i) (λ k. IsSomeAnd (slice_get bs i) (λ b. HasOpened (written_of p.entry) k (length p.entry.columns) b ps holds opened))
    → ((b : Beside) → HasOpened (written_of p.entry) (get_or ks i blank) (length p.entry.columns) b ps holds opened → BlamesContainer (written_of p.entry) (get_or ks i blank) holds fault)
    → IsSomeAnd (slice_get ks i) (λ k. BlamesContainer (written_of p.entry) k holds fault)
blames_opened p i ps holds opened [] bs fault has blames = absurd has
blames_opened p zero ps holds opened (k ∷ ks) [] fault has blames = absurd has
blames_opened p zero ps holds opened (k ∷ ks) (b ∷ bs) fault has blames = blames b has
blames_opened p (suc i) ps holds opened (k ∷ ks) [] fault has blames = absurd (none ks i has)
  where
    none : (js : List Container) (j : ℕ) → IsSomeAnd (slice_get js j) (λ c. ⊥) → ⊥
    none [] j is = is
    none (c ∷ js) zero is = is
    none (c ∷ js) (suc j) is = none js j is
blames_opened p (suc i) ps holds opened (k ∷ ks) (b ∷ bs) fault has blames = blames_opened p i ps holds opened ks bs fault has blames

-- where the container at hand is as its files are, a block of it that can't be read names one of them
pub block_blames : (holds : Option Contents) (p : Projected) (i : ℕ) (ps : List (Option ℕ)) (opened : Opening) (shape : Projection) (ks : List Container) (fault : StoreFault) → shape ≡ p.entry → ks ≡ shape.containers → HasOpenedAt p i ps holds opened
    → ((b : Beside) → HasOpened (written_of shape) (get_or ks i blank) (length shape.columns) b ps holds opened → BlamesContainer (written_of shape) (get_or ks i blank) holds fault) → BlamesRows p.entry holds fault
block_blames holds p i ps opened shape ks fault same are has blames =
    let ks_are : ks ≡ p.entry.containers = are ∙ ap (λ (x : Projection). x.containers) same in
    blames_at p.entry i holds fault
    (blames_opened p i ps holds opened p.entry.containers p.beside fault has
    (subst (λ (js : List Container). (b : Beside) → HasOpened (written_of p.entry) (get_or js i blank) (length p.entry.columns) b ps holds opened → BlamesContainer (written_of p.entry) (get_or js i blank) holds fault) ks_are
    (subst (λ (x : Projection). (b : Beside) → HasOpened (written_of x) (get_or ks i blank) (length x.columns) b ps holds opened → BlamesContainer (written_of x) (get_or ks i blank) holds fault) same blames)))

-- what was at hand is at hand, of columns that are the same
pub at_hand_on : (p : Projected) (i : ℕ) (ps qs : List (Option ℕ)) (o q : Option Opening) (holds : Option Contents) (opened : Opening) → q ≡ o → qs ≡ ps → IfSome o (HasOpenedAt p i ps holds)
    → (IfSome q (HasOpenedAt p i qs holds) → HasOpenedAt p i qs holds opened) → HasOpenedAt p i ps holds opened
at_hand_on p i ps qs o q holds opened same are was on =
    subst (λ (xs : List (Option ℕ)). HasOpenedAt p i xs holds opened) are
    (on (subst (λ (x : Option Opening). IfSome x (HasOpenedAt p i qs holds)) (sym same) (subst (λ (xs : List (Option ℕ)). IfSome o (HasOpenedAt p i xs holds)) (sym are) was)))
