-- An opening of a root that needs no cut writes nothing.
use Rattle.std.proofs.Common.{ℕ, ◌≡◌, false, sym, subst}
use Rattle.common_laws.specs.Maps.{Contents}
use Rattle.col_disk.specs.Moved.{Looks, Moved, NoName}
use Rattle.col_disk.specs.declared.disk.Disk.{Ghosts}
use Rattle.col_disk.proofs.Moving.{moved_join, moved_read}
use Rattle.catalog_types.specs.declared.catalogue.Catalogue.{Catalogue}
use Rattle.catalog_types.specs.Reached.{is_past, least_lge}
use Rattle.catalog_root.specs.declared.found.Found.{Found}
use Rattle.catalog_root.specs.declared.found.Found.TheVariants.{Root}
use Rattle.catalog_root.specs.Listed.{IsUnlisted}
use Rattle.catalog_root.specs.Root.{IsRoot, Opens}
use Rattle.catalog_root.proofs.Roots.{one_root}

pub root_unwritten : {D : Type 0} (disk : Ghosts D) {old mid new : D} (m : Contents) (v w : ℕ) (c found : Catalogue) (what : Found) → what ≡ Root w found → Opens m what → IsRoot m v c
    → is_past c (least_lge c) ≡ false → Looks disk old mid → (is_past found (least_lge found) ≡ false → Moved disk NoName (IsUnlisted w found) mid new) → Moved disk NoName (IsUnlisted v c) old new
root_unwritten disk {old} {mid} {new} m v w c found what is opens root whole looks moved =
    let there : IsRoot m w found = subst (Opens m) is opens in
    let same = one_root m v w c found root there in
    let whole_found = subst (λ (x : Catalogue). is_past x (least_lge x) ≡ false) same.1 whole in
    let named = subst (λ (x : Catalogue). Moved disk NoName (IsUnlisted w x) mid new) (sym same.1) (moved whole_found) in
    let numbered = subst (λ (x : ℕ). Moved disk NoName (IsUnlisted x c) mid new) (sym same.0) named in
    moved_join disk (moved_read disk looks) numbered
