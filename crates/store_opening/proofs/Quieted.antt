-- A disk that is quiet on a root, while it is opened.
use Rattle.std.proofs.Common.{◌≡◌, ℕ, ◌<◌, List, [], refl, sym, ◌∙◌, subst, inl, inr, arith}
use Rattle.std.specs.Prelude.{◌⊎◌, Some}
use Rattle.common_laws.specs.Maps.{Contents}
use Rattle.col_disk.specs.Moved.{Moved, Looks, Leaves, NoName, ImageOf}
use Rattle.col_disk.specs.declared.disk.Disk.{Ghosts}
use Rattle.col_disk.proofs.Moving.{leaves_join, leaves_wider}
use Rattle.catalog_types.specs.declared.catalogue.Catalogue.{Catalogue}
use Rattle.catalog_types.specs.Reached.{least_lge}
use Rattle.catalog_root.specs.declared.found.Found.{Found}
use Rattle.catalog_root.specs.declared.found.Found.TheVariants.{Fresh, Root}
use Rattle.catalog_root.specs.Root.{IsFresh, IsRoot, Opens}
use Rattle.catalog_root.specs.Listed.{IsUnlisted}
use Rattle.catalog_root.specs.Quiet.{KeepsRoot}
use Rattle.catalog_root.proofs.Roots.{one_root, not_fresh}
use Rattle.catalog_root.proofs.Quieting.{quiet_moved, quiet_leaves, quiet_settled, listed_stay}
use Rattle.db_model.specs.Database.{Database, empty_database}
use Rattle.db_model.specs.Sound.{IsSoundDatabase}
use Rattle.stored_rows.specs.Stored.{Projected}
use Rattle.folder_model.specs.Tables.{AreDatabase}
use Rattle.folder_model.specs.Reopening.{IsCutOf, ReopensBy, Reopens}
use Rattle.folder_model.proofs.ListedFiles.{tables_same}
use Rattle.folder_model.proofs.Committing.{database_moved}
use Rattle.cut_model.proofs.Staying.{tables_stay}
use Rattle.store_commit.specs.Seen.{Seen, Stands, seen}
use Rattle.store_opening.specs.Opening.{IsQuietFor}

-- by the files that the root lists the folder reopens to the database
pub quiet_reopens : (m x : Contents) (v : ℕ) (c : Catalogue) (d : Database) → IsCutOf m c d → IsSoundDatabase d → KeepsRoot m (Root v c) x → Reopens x d
quiet_reopens m x v c d is sound quiet = record {
  root = Root v c;
  opens = quiet.opens;
  is_cut = record { last = is.last; ahm = is.ahm; tables = tables_stay m x c.ahm (least_lge c) c.tables d.tables (tables_same m x c quiet.same) is.tables };
  sound = sound;
}

pub images_reopen : {D : Type 0} (disk : Ghosts D) {now : D} (v : ℕ) (c : Catalogue) (d : Database) (m : Contents) → IsQuietFor disk now v c d m → (x : Contents) → ImageOf disk now x → Reopens x d
images_reopen disk v c d m quiet x is = quiet_reopens m x v c d quiet.is_cut quiet.sound (quiet.quiet.every x is)

-- ---- a call that only looks

pub leaves_looked : {D : Type 0} (disk : Ghosts D) {P : Contents → Type 0} {old new : D} → ((x : Contents) → ImageOf disk old x → P x) → Looks disk old new → Leaves disk P old new
leaves_looked disk {P} {old} {new} h looks = record {
  later = looks.time.later;
  since_then = λ x is. here x (looks.time.each (disk.clock old) x (omega arith) is);
  each = λ t x le is. came t x (looks.time.each t x le is);
}
  where
    here : (x : Contents) → disk.since old (disk.clock old) x ⊎ ImageOf disk new x → P x
    here x (inl before) = h x before
    here x (inr now) = h x (looks.images x now)

    came : (t : ℕ) (x : Contents) → disk.since old t x ⊎ ImageOf disk new x → disk.since old t x ⊎ P x
    came t x (inl before) = inl before
    came t x (inr now) = inr (h x (looks.images x now))

pub quiet_looked : {D : Type 0} (disk : Ghosts D) {old new : D} (v : ℕ) (c : Catalogue) (d : Database) (m : Contents) → Looks disk old new → IsQuietFor disk old v c d m → IsQuietFor disk new v c d m
quiet_looked disk v c d m looks quiet = record {
  quiet = record { told_is = looks.contents ∙ quiet.quiet.told_is; every = λ x is. quiet.quiet.every x (looks.images x is) };
  is_cut = quiet.is_cut;
  sound = quiet.sound;
}

pub looked_reopens : {D : Type 0} (disk : Ghosts D) {old new : D} (v : ℕ) (c : Catalogue) (d : Database) (m : Contents) → Looks disk old new → IsQuietFor disk old v c d m
    → Leaves disk (λ x. Reopens x d) old new
looked_reopens disk {old} {new} v c d m looks quiet = leaves_looked disk {old = old} {new = new} (images_reopen disk v c d m quiet) looks

-- ---- a catalogue that needs no cut

pub kept_stands : {D : Type 0} (disk : Ghosts D) {old mid new : D} (v : ℕ) (c : Catalogue) (stores : List (List Projected)) (d : Database) (m : Contents) → v < c.next → Looks disk old mid
    → Moved disk NoName (IsUnlisted v c) mid new → AreDatabase m c stores d → IsQuietFor disk old v c d m → Stands disk (seen c stores) new d
kept_stands disk {old} {mid} {new} v c stores d m below looks moved are quiet =
    let there = quiet_looked disk {old = old} {new = mid} v c d m looks quiet in
    let (n, still, changed) = quiet_moved disk {W = NoName} {R = IsUnlisted v c} {old = mid} {new = new} (Root v c) m (λ q no. absurd no) (λ q is. is) moved there.quiet in
    record {
      files = n;
      are = database_moved m n c stores d (tables_same m n c (λ k listed. listed_stay NoName (IsUnlisted v c) m n v c (λ q no. absurd no) (λ q is. is) changed k listed)) are;
      sound = quiet.sound;
      root = Root v c;
      is_root = (refl, refl, below, λ none. refl);
      quiet = still;
    }

pub tidied_reopens : {D : Type 0} (disk : Ghosts D) {old mid new : D} (v : ℕ) (c : Catalogue) (d : Database) (m : Contents) → Looks disk old mid → Moved disk NoName (IsUnlisted v c) mid new
    → IsQuietFor disk old v c d m → Leaves disk (λ x. Reopens x d) old new
tidied_reopens disk {old} {mid} {new} v c d m looks moved quiet =
    let there = quiet_looked disk {old = old} {new = mid} v c d m looks quiet in
    leaves_join disk (looked_reopens disk {old = old} {new = mid} v c d m looks quiet)
    (leaves_wider disk (λ x is. quiet_reopens m x v c d quiet.is_cut quiet.sound is)
    (quiet_leaves disk {W = NoName} {R = IsUnlisted v c} {old = mid} {new = new} (Root v c) m (λ q no. absurd no) (λ q is. is) moved there.quiet))

-- ---- what the disk opens to

fresh_database : (m : Contents) (d : Database) → IsFresh m → Reopens m d → d ≡ empty_database
fresh_database m d fresh r = by r.root r.opens r.is_cut
  where
    by : (root : Found) → Opens m root → ReopensBy m root d → d ≡ empty_database
    by Fresh opens is = is
    by (Root v c) opens is = absurd (not_fresh m v c opens fresh)

root_cut : (m : Contents) (v : ℕ) (c : Catalogue) (d : Database) → IsRoot m v c → Reopens m d → IsCutOf m c d
root_cut m v c d root r = by r.root r.opens r.is_cut
  where
    by : (found : Found) → Opens m found → ReopensBy m found d → IsCutOf m c d
    by Fresh opens is = absurd (not_fresh m v c root opens)
    by (Root w e) opens is = let one = one_root m v w c e root opens in subst (λ (x : Catalogue). IsCutOf m x d) (sym one.1) is

abbrev empty_root : Catalogue
empty_root = record { last = 0; ahm = 0; next = 1; tables = [] }

empty_are : (m : Contents) → AreDatabase m empty_root [] empty_database
empty_are m = record { last = refl; ahm = refl; tables = tt }

pub fresh_stands : {D : Type 0} (disk : Ghosts D) {old now : D} (s : Seen) (f : Found) (m : Contents) (d : Database) → s ≡ seen empty_root [] → f ≡ Fresh → disk.holds old ≡ Some m
    → disk.holds now ≡ disk.holds old → Opens m f → ((x : Contents) → ImageOf disk now x → x ≡ m) → Reopens m d → Stands disk s now d
fresh_stands disk {old} {now} s f m d is none told kept opens only r =
    let fresh : IsFresh m = subst (Opens m) none opens in
    subst (λ (z : Seen). Stands disk z now d) (sym is) (record {
      files = m;
      are = subst (AreDatabase m empty_root []) (sym (fresh_database m d fresh r)) (empty_are m);
      sound = r.sound;
      root = Fresh;
      is_root = (refl, refl, refl);
      quiet = quiet_settled (disk.holds now) (ImageOf disk now) Fresh m (kept ∙ told) fresh only;
    })

pub opened_quiet : {D : Type 0} (disk : Ghosts D) {old now : D} (v : ℕ) (c : Catalogue) (f : Found) (m : Contents) (d : Database) → f ≡ Root v c → disk.holds old ≡ Some m → disk.holds now ≡ disk.holds old
    → Opens m f → ((x : Contents) → ImageOf disk now x → x ≡ m) → Reopens m d → IsQuietFor disk now v c d m
opened_quiet disk {old} {now} v c f m d is told kept opens only r =
    let root : IsRoot m v c = subst (Opens m) is opens in
    record {
      quiet = quiet_settled (disk.holds now) (ImageOf disk now) (Root v c) m (kept ∙ told) root only;
      is_cut = root_cut m v c d root r;
      sound = r.sound;
    }
