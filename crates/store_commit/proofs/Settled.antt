-- What a commit makes of a store, case by case.
use Rattle.std.proofs.Common.{◌≡◌, ℕ, ◌<◌, ◌≤◌, List, sym, subst, inl, inr, arith}
use Rattle.std.specs.Prelude.{◌⊎◌, Result, Ok, Err, OnOk, IsErrOf}
use Rattle.common_laws.specs.Maps.{Contents}
use Rattle.col_disk.specs.Moved.{Moved, Leaves, NoName, ImageOf}
use Rattle.col_disk.specs.declared.disk.Disk.{Ghosts}
use Rattle.col_disk.specs.declared.disk.DiskFault.{DiskFault}
use Rattle.col_disk.specs.declared.disk.DiskFault.TheVariants.{Failed, Memory}
use Rattle.col_disk.proofs.Moving.{moved_none, leaves_join, leaves_wider}
use Rattle.catalog_types.specs.declared.catalogue.Catalogue.{Catalogue}
use Rattle.catalog_root.specs.declared.found.Found.{Found}
use Rattle.catalog_root.specs.declared.found.Found.TheVariants.{Fresh, Root}
use Rattle.catalog_root.specs.Crash.{RootNames, IsLater, IsRooted, IsOld, IsReplaced, OldOrNew}
use Rattle.catalog_root.specs.Listed.{IsUnlisted}
use Rattle.catalog_root.specs.Quiet.{IsUseless}
use Rattle.catalog_root.proofs.Quieting.{quiet_rooted}
use Rattle.db_model.specs.Database.{Database}
use Rattle.db_model.specs.Epochs.{last_good, cut}
use Rattle.db_model.specs.Sound.{IsSoundDatabase}
use Rattle.stored_rows.specs.Stored.{Projected}
use Rattle.folder_model.specs.Tables.{AreDatabase}
use Rattle.folder_model.specs.Standing.{IsRootOf, StandsFor}
use Rattle.folder_model.specs.Reopening.{Reopens}
use Rattle.folder_model.proofs.Committing.{stands_moved, stands_new, stands_undone, moved_reopens, commit_reopens}
use Rattle.store_commit.specs.Seen.{Seen, Stands, seen}
use Rattle.store_commit.specs.Making.{ReopensToEither, Makes}

abbrev pub failed : DiskFault → Result (Unit {0}) DiskFault
failed f = Err f

-- a number that wasn't drawn is a later version
later_root : (c : Catalogue) (root : Found) (version : ℕ) → IsRootOf c root → c.next ≤ version → IsLater root version
later_root c Fresh version is_root drawn = tt
later_root c (Root v r) version (tables, ahm, below, last) drawn = omega (arith, below, drawn)

pub ready : {D : Type 0} (disk : Ghosts D) {now : D} (was : Seen) (d : Database) (version : ℕ) (stands : Stands disk was now d) → was.catalogue.next ≤ version
    → IsRooted (disk.holds now) (ImageOf disk now) stands.root version stands.files
ready disk {now} was d version stands drawn = quiet_rooted (disk.holds now) (ImageOf disk now) stands.root version stands.files (later_root was.catalogue stands.root version stands.is_root drawn) stands.quiet

-- nothing was done
pub made_nothing : {D : Type 0} (disk : Ghosts D) {now : D} (was is : Seen) (fault : DiskFault) (d e : Database) → Stands disk was now d → Makes disk Memory was is now now (Err fault) d e
made_nothing disk {now} was is fault d e stands = record {
  done = tt;
  undone = λ short. stands;
  any_moment = leaves_wider disk (λ x reopens. inl reopens)
      (moved_reopens disk {W = NoName} {R = NoName} was.catalogue was.stores d stands (λ q none. absurd none) (λ q none. absurd none) (moved_none disk now));
}

-- the commit gave no answer
pub made_not : {D : Type 0} (disk : Ghosts D) {old new : D} (was : Seen) (version : ℕ) (c : Catalogue) (stores : List (List Projected)) (fault : DiskFault) (d e : Database)
    → (stands : Stands disk was old d) → AreDatabase stands.files c stores e → IsSoundDatabase e → version < c.next
    → Leaves disk (OldOrNew stands.root version c (ImageOf disk old) stands.files) old new
    → (IsErrOf (failed fault) Memory → (x : Contents) → ImageOf disk new x → IsOld stands.root version (ImageOf disk old) x)
    → Moved disk (RootNames version) NoName old new
    → Makes disk Memory was (seen c stores) old new (Err fault) d e
made_not disk {old} {new} was version c stores fault d e stands are sound drawn moment memory moved = record {
  done = tt;
  undone = λ short. stands_undone disk version was.catalogue was.stores d stands moved (memory short);
  any_moment = leaves_wider disk (λ x is. commit_reopens was.catalogue c was.stores stores (disk.holds old) (ImageOf disk old) version d e stands are sound drawn x is) moment;
}

-- the commit is done, and then other files went
pub made_then : {D : Type 0} (disk : Ghosts D) {old mid new : D} (was : Seen) (version : ℕ) (c : Catalogue) (stores : List (List Projected)) (result : Result (Unit {0}) DiskFault) (d e : Database)
    → (stands : Stands disk was old d) → AreDatabase stands.files c stores e → IsSoundDatabase e → version < c.next
    → Leaves disk (OldOrNew stands.root version c (ImageOf disk old) stands.files) old mid
    → IsReplaced (disk.holds mid) (ImageOf disk mid) version c stands.files
    → (IsErrOf result Memory → ⊥)
    → Moved disk NoName (IsUnlisted version c) mid new
    → Makes disk Memory was (seen c stores) old new result d e
made_then {D} disk {old} {mid} {new} was version c stores result d e stands are sound drawn moment replaced none moved = record {
  done = on_good result (stands_moved disk {W = NoName} {R = IsUnlisted version c} c stores e then (λ q no. absurd no) useless moved);
  undone = λ short. absurd (none short);
  any_moment =
      leaves_join disk
      (leaves_wider disk (λ x is. commit_reopens was.catalogue c was.stores stores (disk.holds old) (ImageOf disk old) version d e stands are sound drawn x is) moment)
      (leaves_wider disk (λ x reopens. inr reopens) (moved_reopens disk {W = NoName} {R = IsUnlisted version c} c stores e then (λ q no. absurd no) useless moved));
}
  where
    new_root : (s : StandsFor c stores (disk.holds mid) (ImageOf disk mid) e) × (s.root ≡ Root version c)
    new_root = stands_new (disk.holds mid) (ImageOf disk mid) version c stores stands.files e are sound drawn replaced

    then : StandsFor c stores (disk.holds mid) (ImageOf disk mid) e
    then = new_root.0

    useless : (q : ℕ) → IsUnlisted version c q → IsUseless then.root q
    useless q is = subst (λ (r : Found). IsUseless r q) (sym new_root.1) is

    on_good : {P : Type 0} (r : Result (Unit {0}) DiskFault) → P → OnOk r P
    on_good (Ok done) p = p
    on_good (Err fault) p = tt
