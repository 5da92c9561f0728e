-- What a commit makes of a quiet disk, case by case.
use Rattle.std.proofs.Common.{◌≡◌, ℕ, refl, sym, ◌∙◌, inl, inr, arith}
use Rattle.std.specs.Prelude.{◌⊎◌, Result, Ok, Err, OnOk, IsErrOf}
use Rattle.std.specs.FinMap.{get}
use Rattle.common_laws.specs.Maps.{Contents}
use Rattle.col_disk.specs.Moved.{Changed, Moved, Leaves, NoName, ImageOf}
use Rattle.col_disk.specs.declared.disk.Disk.{Ghosts}
use Rattle.col_disk.specs.declared.disk.DiskFault.{DiskFault}
use Rattle.col_disk.specs.declared.disk.DiskFault.TheVariants.{Failed, Memory}
use Rattle.col_disk.proofs.Moving.{changed_kept, moved_none, moved_told, leaves_join, leaves_wider}
use Rattle.catalog_types.specs.declared.catalogue.Catalogue.{Catalogue}
use Rattle.catalog_root.specs.declared.found.Found.{Found}
use Rattle.catalog_root.specs.declared.found.Found.TheVariants.{Fresh, Root}
use Rattle.catalog_root.specs.Root.{data_file, Opens}
use Rattle.catalog_root.specs.Crash.{RootNames, IsLater, IsRooted, IsOld, IsNew, IsReplaced, OldOrNew}
use Rattle.catalog_root.specs.Listed.{IsListed, IsUnlisted}
use Rattle.catalog_root.specs.Quiet.{SameListed, KeepsRoot, Quiet}
use Rattle.catalog_root.proofs.Quieting.{quiet_rooted, quiet_replaced, quiet_moved, quiet_leaves, listed_stay}
use Rattle.store_commit.specs.Replacing.{IsSettled, Replaces}
use Rattle.store_commit.proofs.Settled.{failed}

-- no data file is a body or a gate
not_root : (version i : ℕ) → RootNames version (data_file i) → ⊥
not_root version i (inl is) = omega (arith, is)
not_root version i (inr is) = omega (arith, is)

data_same : (version : ℕ) (m n : Contents) (k : ℕ) → Changed (RootNames version) NoName m n → get n (data_file k) ≡ get m (data_file k)
data_same version m n k changed = changed_kept (RootNames version) NoName m n (data_file k) (not_root version k) (λ r. r) changed

listed_same : (version : ℕ) (m n : Contents) (root : Found) → Changed (RootNames version) NoName m n → SameListed m n root
listed_same version m n Fresh changed = tt
listed_same version m n (Root v c) changed = λ k listed. data_same version m n k changed

listed_itself : (m : Contents) (root : Found) → SameListed m m root
listed_itself m Fresh = tt
listed_itself m (Root v c) = λ k listed. refl

pub rooted : {D : Type 0} (disk : Ghosts D) {now : D} (m : Contents) (was : Found) (version : ℕ) → IsLater was version → Quiet (disk.holds now) (ImageOf disk now) was m → IsRooted (disk.holds now) (ImageOf disk now) was version m
rooted disk {now} m was version later quiet = quiet_rooted (disk.holds now) (ImageOf disk now) was version m later quiet

-- nothing was done
pub replaced_nothing : {D : Type 0} (disk : Ghosts D) {now : D} (m : Contents) (was : Found) (version : ℕ) (c : Catalogue) (f : DiskFault) → Quiet (disk.holds now) (ImageOf disk now) was m
    → Replaces disk m was version c now now (Err f)
replaced_nothing disk {now} m was version c f quiet = record {
  done = tt;
  undone = λ short. (m, quiet, listed_itself m was);
  any_moment = leaves_wider disk (λ x is. inl is) (quiet_leaves disk {W = NoName} {R = NoName} {old = now} {new = now} was m (λ q no. absurd no) (λ q no. absurd no) (moved_none disk now) quiet);
}

-- an image at a moment of the commit
old_image : (m x y : Contents) (was : Found) (version : ℕ) → KeepsRoot m was y → Opens x was → Changed (RootNames version) NoName y x → KeepsRoot m was x
old_image m x y Fresh version quiet opens like = record { opens = opens; same = tt }
old_image m x y (Root v r) version quiet opens like = record { opens = opens; same = λ k listed. data_same version y x k like ∙ quiet.same k listed }

new_image : (m x : Contents) (version : ℕ) (c : Catalogue) → IsNew version c m x → KeepsRoot m (Root version c) x
new_image m x version c new = record { opens = new.written.root; same = λ k listed. data_same version m x k new.like }

at_moment : {D : Type 0} (disk : Ghosts D) {now : D} (m : Contents) (was : Found) (version : ℕ) (c : Catalogue) → Quiet (disk.holds now) (ImageOf disk now) was m
    → (x : Contents) → OldOrNew was version c (ImageOf disk now) m x → KeepsRoot m was x ⊎ KeepsRoot m (Root version c) x
at_moment disk m was version c quiet x (inl old) = let (y, is, like) = old.like in inl (old_image m x y was version (quiet.every y is) old.opens like)
at_moment disk m was version c quiet x (inr new) = inr (new_image m x version c new)

-- the commit gave no answer
undone_image : (m n x y : Contents) (was : Found) (version : ℕ) → Changed (RootNames version) NoName m n → KeepsRoot m was y → Opens x was → Changed (RootNames version) NoName y x → KeepsRoot n was x
undone_image m n x y Fresh version told quiet opens like = record { opens = opens; same = tt }
undone_image m n x y (Root v r) version told quiet opens like = record { opens = opens; same = λ k listed. data_same version y x k like ∙ quiet.same k listed ∙ sym (data_same version m n k told) }

pub replaced_not : {D : Type 0} (disk : Ghosts D) {old new : D} (m : Contents) (was : Found) (version : ℕ) (c : Catalogue) (f : DiskFault) → Quiet (disk.holds old) (ImageOf disk old) was m
    → Leaves disk (OldOrNew was version c (ImageOf disk old) m) old new
    → (IsErrOf (failed f) Memory → (x : Contents) → ImageOf disk new x → IsOld was version (ImageOf disk old) x)
    → Moved disk (RootNames version) NoName old new → Replaces disk m was version c old new (Err f)
replaced_not disk {old} {new} m was version c f quiet moment memory moved = record {
  done = tt;
  undone = λ short.
      let (n, told, changed) = moved_told disk m quiet.told_is moved in
      (n, record { told_is = told; every = λ x is. by n changed x (memory short x is) }, listed_same version m n was changed);
  any_moment = leaves_wider disk (λ x is. at_moment disk m was version c quiet x is) moment;
}
  where
    by : (n : Contents) → Changed (RootNames version) NoName m n → (x : Contents) → IsOld was version (ImageOf disk old) x → KeepsRoot n was x
    by n changed x before = let (y, is, like) = before.like in undone_image m n x y was version changed (quiet.every y is) before.opens like

-- the commit is done, and then other files went
pub replaced_then : {D : Type 0} (disk : Ghosts D) {old mid new : D} (m : Contents) (was : Found) (version : ℕ) (c : Catalogue) (result : Result (Unit {0}) DiskFault) → Quiet (disk.holds old) (ImageOf disk old) was m
    → Leaves disk (OldOrNew was version c (ImageOf disk old) m) old mid → IsReplaced (disk.holds mid) (ImageOf disk mid) version c m → (IsErrOf result Memory → ⊥)
    → Moved disk NoName (IsUnlisted version c) mid new → Replaces disk m was version c old new result
replaced_then {D} disk {old} {mid} {new} m was version c result quiet moment replaced none moved = record {
  done = on_good result settled;
  undone = λ short. absurd (none short);
  any_moment =
      leaves_join disk (leaves_wider disk (λ x is. at_moment disk m was version c quiet x is) moment)
      (leaves_wider disk (λ x is. inr (from x is)) (quiet_leaves disk {W = NoName} {R = IsUnlisted version c} {old = mid} {new = new} (Root version c) there.0 (λ q no. absurd no) (λ q is. is) moved there.1));
}
  where
    there : (n : Contents) × Quiet (disk.holds mid) (ImageOf disk mid) (Root version c) n × IsNew version c m n
    there = quiet_replaced (disk.holds mid) (ImageOf disk mid) version c m replaced

    from : (x : Contents) → KeepsRoot there.0 (Root version c) x → KeepsRoot m (Root version c) x
    from x is = record { opens = is.opens; same = λ k listed. is.same k listed ∙ data_same version m there.0 k there.2.like }

    settled : IsSettled disk m (Root version c) new
    settled =
        let (n, still, changed) = quiet_moved disk {W = NoName} {R = IsUnlisted version c} {old = mid} {new = new} (Root version c) there.0 (λ q no. absurd no) (λ q is. is) moved there.1 in
        (n, still, λ k listed. listed_stay NoName (IsUnlisted version c) there.0 n version c (λ q no. absurd no) (λ q is. is) changed k listed ∙ data_same version m there.0 k there.2.like)

    on_good : {P : Type 0} (r : Result (Unit {0}) DiskFault) → P → OnOk r P
    on_good (Ok done) p = p
    on_good (Err f) p = tt
