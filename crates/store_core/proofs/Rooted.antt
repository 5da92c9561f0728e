-- A file that a fault named is one that the root lists, where that has the store's tables.
use Rattle.std.proofs.Common.{◌≡◌, ◌∙◌, ℕ, zero, suc, List, [], ◌∷◌, map, sym, ap, subst, refl, arith}
use Rattle.std.specs.Prelude.{Some}
use Rattle.std.specs.List.{Any}
use Rattle.common_laws.specs.Maps.{Contents}
use Rattle.col_disk.specs.declared.disk.Disk.{Ghosts}
use Rattle.col_disk.specs.declared.disk.StoreFault.TheVariants as fault
use Rattle.catalog_types.specs.declared.catalogue.Projection.{Projection}
use Rattle.catalog_types.specs.declared.catalogue.Table as kept
use Rattle.catalog_root.specs.declared.found.Found.{Found}
use Rattle.catalog_root.specs.declared.found.Found.TheVariants.{Fresh, Root}
use Rattle.catalog_root.specs.Root.{Opens}
use Rattle.stored_rows.specs.Stored.{Projected}
use Rattle.table_store.specs.Faults.{BlamesEntry}
use Rattle.store_core.specs.Named.{ListsBad, NamesHeld, NamesListed}
use Rattle.store_core.specs.Rooted.{IsRootWith}
use Rattle.store_core.specs.Running.{Running}

-- what holds of one of the items holds of what it was made
any_mapped : {X Y : Type 0} (f : X → Y) (P : Y → Type 0) (Q : X → Type 0) (xs : List X) → ((x : X) → Q x → P (f x)) → Any Q xs → Any P (map f xs)
any_mapped f P Q [] made (k, x, lt, is, holds) = absurd (omega (arith, lt))
any_mapped f P Q (y ∷ xs) made (zero, x, lt, is, holds) = (zero, f x, omega arith, ap f is, made x holds)
any_mapped f P Q (y ∷ xs) made (suc k, x, lt, is, holds) =
    let (n, z, below, same, has) = any_mapped f P Q xs made (k, x, omega (arith, lt), is, holds) in (suc n, z, omega (arith, below), same, has)

any_made : {X Y : Type 0} (f : X → Y) (P : Y → Type 0) (xs : List X) → Any P (map f xs) → Any (λ x. P (f x)) xs
any_made f P [] (k, y, lt, is, holds) = absurd (omega (arith, lt))
any_made f P (x ∷ xs) (zero, y, lt, is, holds) = (zero, x, omega arith, refl, subst P (sym is) holds)
any_made f P (x ∷ xs) (suc k, y, lt, is, holds) =
    let (n, z, below, same, has) = any_made f P xs (k, y, omega (arith, lt), is, holds) in (suc n, z, omega (arith, below), same, has)

-- a projection of a store has its entry in the catalogue
of_tables : (P : Projection → Type 0) (pss : List (List Projected)) (ts : List kept.Table) → map (λ ps. map (λ p. p.entry) ps) pss ≡ map (λ t. t.projections) ts → Any (λ ps. Any (λ p. P p.entry) ps) pss
    → Any (λ t. Any P t.projections) ts
of_tables P pss ts entries any =
    let own : Any (Any P) (map (λ (ps : List Projected). map (λ (p : Projected). p.entry) ps) pss) =
    any_mapped (λ (ps : List Projected). map (λ (p : Projected). p.entry) ps) (Any P) (λ ps. Any (λ p. P p.entry) ps) pss (λ ps one. any_mapped (λ (p : Projected). p.entry) P (λ p. P p.entry) ps (λ p has. has) one) any in
    any_made (λ (t : kept.Table). t.projections) (Any P) ts (subst (Any (Any P)) entries own)

lists_bad : (q : ℕ) (m : Contents) (tables : List kept.Table) (found : Found) → IsRootWith tables found → Opens m found → Any (λ t. Any (λ p. BlamesEntry p (Some m) (fault.Damaged q)) t.projections) tables → ListsBad q m
lists_bad q m tables Fresh rooted opens blamed = absurd rooted
lists_bad q m tables (Root v c) rooted opens blamed =
    record { version = v; catalogue = c; root = opens; blamed = subst (Any (λ t. Any (λ p. BlamesEntry p (Some m) (fault.Damaged q)) t.projections)) (sym rooted) blamed }

pub named_listed : {D : Type 0} (disk : Ghosts D) (is : Running) (old new : D) (tables : List kept.Table) (found : Found) (q : ℕ) → map (λ ps. map (λ p. p.entry) ps) is.seen.stores ≡ map (λ t. t.projections) tables
    → disk.holds new ≡ disk.holds old → IsRootWith tables found → ((m : Contents) → disk.holds old ≡ Some m → Opens m found) → NamesHeld disk is old (fault.Damaged q) → NamesListed disk q new
named_listed disk is old new tables found q entries kept rooted opens named m told =
    let before = sym kept ∙ told in
    lists_bad q m tables found rooted (opens m before) (of_tables (λ p. BlamesEntry p (Some m) (fault.Damaged q)) is.seen.stores tables entries (named m before))
