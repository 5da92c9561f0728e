-- The entries of two projections with what is left of their containers.
use Rattle.std.proofs.Common.{◌≡◌, ℕ, List, Option, sym, ap, ◌∙◌, subst}
use Rattle.common_laws.specs.Maps.{Contents}
use Rattle.catalog_types.specs.declared.catalogue.Container.{Container}
use Rattle.catalog_types.specs.declared.catalogue.Projection.{Projection}
use Rattle.col_value.specs.declared.row.Stamped.{Stamped}
use Rattle.catch_model.specs.declared.fault.LinkFault.{LinkFault}
use Rattle.proj_store.specs.Sound.{HasVectorNumber, IsLoadable}
use Rattle.ros_container.specs.Encodings.{written_of}
use Rattle.ros_container.specs.Readable.{IsReadable}
use Rattle.stored_rows.specs.Held.{Holds}
use Rattle.catch_files.specs.Parting.{AreParted, Parts}
use Rattle.catch_files.proofs.Splits.{parts_all}
use Rattle.catch_rows.specs.Sharing.{with_containers, IsRestOf, ShortOver, ShortOverBoth}
use Rattle.catch_rows.proofs.Parted.{held_parts}

loadable_parts : (p : Projection) (shared rest : List Container) → Parts p.containers shared rest → IsLoadable p → IsLoadable (with_containers rest p)
loadable_parts p shared rest parts loadable = record {
  files = parts_all (IsReadable p.columns) p.containers shared rest parts loadable.files;
  vectors = parts_all HasVectorNumber p.containers shared rest parts loadable.vectors;
  sort = loadable.sort;
}

pub first_loads : (at from : Option Contents) (e : Projection) (ks js rest other : List Container) → ks ≡ e.containers → IsLoadable e → AreParted at from ks js rest other → IsLoadable (with_containers rest e)
first_loads at from e ks js rest other same loadable parted = loadable_parts e parted.shared rest (subst (λ (xs : List Container). Parts xs parted.shared rest) same parted.first) loadable

pub second_loads : (at from : Option Contents) (e : Projection) (ks js rest other : List Container) → js ≡ e.containers → IsLoadable e → AreParted at from ks js rest other → IsLoadable (with_containers other e)
second_loads at from e ks js rest other same loadable parted = loadable_parts e parted.shared other (subst (λ (xs : List Container). Parts xs parted.shared other) same parted.second) loadable

held_rest : (m : Contents) (p : Projection) (shared rest : List Container) (rows : List Stamped) → Parts p.containers shared rest → Holds m p rows → (left : List Stamped) × Holds m (with_containers rest p) left
held_rest m p shared rest rows parts held = let all = held_parts m (written_of p) p.containers shared rest rows parts held in (all.others, all.second)

-- a fault while the rest behind was read
pub first_short : (at from now : Option Contents) (p q e : Projection) (ks js rest other : List Container) (fault : LinkFault) → now ≡ at → e ≡ p → ks ≡ e.containers → AreParted at from ks js rest other → ShortOver now (with_containers rest e) fault → ShortOverBoth at from p q fault
first_short at from now p q e ks js rest other fault same entry_is ks_are parted short = λ m n xs ys here there fresh also held held_too.
    let is : ks ≡ p.containers = ks_are ∙ ap (λ (x : Projection). x.containers) entry_is in
    let (left, rest_held) = held_rest m p parted.shared rest xs (subst (λ (zs : List Container). Parts zs parted.shared rest) is parted.first) held in
    short m left (same ∙ here) (ap (λ (x : Projection). x.fresh) entry_is ∙ fresh) (subst (λ (x : Projection). Holds m (with_containers rest x) left) (sym entry_is) rest_held)

-- or the rest ahead
pub second_short : (at from now : Option Contents) (p q e : Projection) (ks js rest other : List Container) (fault : LinkFault) → now ≡ from → e ≡ q → js ≡ e.containers → AreParted at from ks js rest other → ShortOver now (with_containers other e) fault → ShortOverBoth at from p q fault
second_short at from now p q e ks js rest other fault same entry_is js_are parted short = λ m n xs ys here there fresh also held held_too.
    let is : js ≡ q.containers = js_are ∙ ap (λ (x : Projection). x.containers) entry_is in
    let (left, rest_held) = held_rest n q parted.shared other ys (subst (λ (zs : List Container). Parts zs parted.shared other) is parted.second) held_too in
    short n left (same ∙ there) (ap (λ (x : Projection). x.fresh) entry_is ∙ also) (subst (λ (x : Projection). Holds n (with_containers other x) left) (sym entry_is) rest_held)

pub rest_of : (holds now : Option Contents) (mark : ℕ) (places shown : List (Option ℕ)) (p e : Projection) (ks : List Container) (out : List Stamped) → now ≡ holds → shown ≡ places → e ≡ p → IsRestOf now mark shown (with_containers ks e) out → IsRestOf holds mark places (with_containers ks p) out
rest_of holds now mark places shown p e ks out same places_are entry_is rest =
    subst (λ (x : Projection). IsRestOf holds mark places (with_containers ks x) out) entry_is
    (subst (λ (ps : List (Option ℕ)). IsRestOf holds mark ps (with_containers ks e) out) places_are (subst (λ (o : Option Contents). IsRestOf o mark shown (with_containers ks e) out) same rest))

pub are_parted : (at from : Option Contents) (ks js first second rest other : List Container) → ks ≡ first → js ≡ second → AreParted at from ks js rest other → AreParted at from first second rest other
are_parted at from ks js first second rest other one two parted =
    subst (λ (xs : List Container). AreParted at from xs second rest other) one (subst (λ (xs : List Container). AreParted at from ks xs rest other) two parted)
