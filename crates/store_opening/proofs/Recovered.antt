-- A catalogue that is cut, and what the disk is quiet on after that.
use Rattle.std.proofs.Common.{◌≡◌, ℕ, ◌<◌, ◌≤◌, List, refl, sym, subst, inl, inr}
use Rattle.std.specs.Prelude.{◌⊎◌, Some, Result, Ok}
use Rattle.common_laws.specs.Maps.{Contents}
use Rattle.col_disk.specs.Moved.{Moved, Looks, Leaves, NoName, ImageOf}
use Rattle.col_disk.specs.declared.disk.Disk.{Ghosts}
use Rattle.col_disk.specs.declared.disk.DiskFault.{DiskFault}
use Rattle.col_disk.proofs.Moving.{changed_wider, leaves_join, leaves_wider}
use Rattle.catalog_types.specs.declared.catalogue.Catalogue.{Catalogue}
use Rattle.catalog_types.specs.Valid.{IsValid}
use Rattle.catalog_types.specs.Reached.{least_lge}
use Rattle.catalog_root.specs.declared.found.Found.{Found}
use Rattle.catalog_root.specs.declared.found.Found.TheVariants.{Root}
use Rattle.catalog_root.specs.Crash.{IsLater}
use Rattle.catalog_root.specs.Quiet.{KeepsRoot, Quiet, IsSpare, IsUseless}
use Rattle.catalog_root.proofs.Quieting.{quiet_moved, quiet_leaves}
use Rattle.db_model.specs.Database.{Database}
use Rattle.db_model.specs.Sound.{IsSoundDatabase}
use Rattle.stored_rows.specs.Stored.{Projected}
use Rattle.container_writer.specs.Writing.{DataFrom}
use Rattle.container_cut.specs.Cutting.{Between}
use Rattle.folder_model.specs.Tables.{AreDatabase}
use Rattle.folder_model.specs.Reopening.{IsCutOf, Reopens}
use Rattle.folder_model.proofs.ListedFiles.{tables_same}
use Rattle.folder_model.proofs.Committing.{database_moved}
use Rattle.cut_model.specs.Cut.{IsCutRoot}
use Rattle.cut_model.specs.Loaded.{LoadedStores}
use Rattle.cut_model.proofs.Least.{mark_reached}
use Rattle.cut_model.proofs.Staying.{cut_stays, undrawn_spare}
use Rattle.cut_job.specs.Cutting.{CutsCatalogue}
use Rattle.store_commit.specs.Seen.{Stands, seen}
use Rattle.store_commit.specs.Replacing.{IsSettled, Replaces}
use Rattle.store_opening.specs.Opening.{IsQuietFor}
use Rattle.store_opening.proofs.Quieted.{quiet_reopens, quiet_looked, looked_reopens}

-- numbers that weren't drawn are not listed
spare : (v : ℕ) (c : Catalogue) → IsValid c → (q : ℕ) → DataFrom c.next q → IsSpare (Root v c) q
spare v c valid q (n, from, is) = subst (IsSpare (Root v c)) (sym is) (undrawn_spare v n c valid from)

-- the disk is quiet as before after a cut, and the new catalogue is cut from the old one
pub record IsCutBeside {D : Type 0} (disk : Ghosts D) (now : D) (v : ℕ) (c r : Catalogue) (d : Database) (m n : Contents) : Type 0 where
  pub before : IsCutOf m c d
  pub quiet : IsQuietFor disk now v c d n
  pub cut : IsCutRoot m n c r

pub cut_beside : {D : Type 0} (disk : Ghosts D) {old read now : D} (v : ℕ) (c r : Catalogue) (d : Database) (m : Contents) → IsValid c → Looks disk old read → Moved disk (DataFrom c.next) NoName read now
    → Between (CutsCatalogue c r) (disk.holds read) (disk.holds now) → IsQuietFor disk old v c d m → (n : Contents) × IsCutBeside disk now v c r d m n
cut_beside disk {old} {read} {now} v c r d m valid looks moved cuts quiet =
    let there = quiet_looked disk {old = old} {new = read} v c d m looks quiet in
    let (n, still, changed) = quiet_moved disk {W = DataFrom c.next} {R = NoName} {old = read} {new = now} (Root v c) m (spare v c valid) (λ q no. absurd no) moved there.quiet in (
      n,
      record {
        before = quiet.is_cut;
        quiet = record {
          quiet = still;
          is_cut = cut_stays m n v c d (changed_wider (DataFrom c.next) NoName (IsSpare (Root v c)) (IsUseless (Root v c)) m n (spare v c valid) (λ q no. absurd no) changed) quiet.is_cut;
          sound = quiet.sound;
        };
        cut = cuts m n there.quiet.told_is still.told_is;
      },
    )

-- whatever a crash leaves of that reopens to the database
pub cut_leaves : {D : Type 0} (disk : Ghosts D) {old read now : D} (v : ℕ) (c : Catalogue) (d : Database) (m : Contents) → IsValid c → Looks disk old read → Moved disk (DataFrom c.next) NoName read now
    → IsQuietFor disk old v c d m → Leaves disk (λ x. Reopens x d) old now
cut_leaves disk {old} {read} {now} v c d m valid looks moved quiet =
    let there = quiet_looked disk {old = old} {new = read} v c d m looks quiet in
    leaves_join disk (looked_reopens disk {old = old} {new = read} v c d m looks quiet)
    (leaves_wider disk (λ x is. quiet_reopens m x v c d quiet.is_cut quiet.sound is)
    (quiet_leaves disk {W = DataFrom c.next} {R = NoName} {old = read} {new = now} (Root v c) m (spare v c valid) (λ q no. absurd no) moved there.quiet))

-- and so does what a crash leaves while the new projections are read
pub again_leaves : {D : Type 0} (disk : Ghosts D) {old read now again : D} (v : ℕ) (c r : Catalogue) (d : Database) (m : Contents) → IsValid c → Looks disk old read
    → Moved disk (DataFrom c.next) NoName read now → Between (CutsCatalogue c r) (disk.holds read) (disk.holds now) → Looks disk now again → IsQuietFor disk old v c d m
    → Leaves disk (λ x. Reopens x d) old again
again_leaves disk {old} {read} {now} {again} v c r d m valid looks moved cuts looked quiet =
    let (n, beside) = cut_beside disk {old = old} {read = read} {now = now} v c r d m valid looks moved cuts quiet in
    leaves_join disk (cut_leaves disk {old = old} {read = read} {now = now} v c d m valid looks moved quiet) (looked_reopens disk {old = now} {new = again} v c d n looked beside.quiet)

-- ---- the new catalogue is committed

-- the laws of the cut: by the new catalogue the folder reopens to the same database, and its projections, once read, are it
abbrev pub CutReopens : Type 0
CutReopens = (m n : Contents) (c r : Catalogue) (d : Database) → IsCutRoot m n c r → c.ahm ≤ least_lge c → IsCutOf m c d → IsCutOf n r d

abbrev pub CutLoads : Type 0
CutLoads = (m n : Contents) (c r : Catalogue) (stores : List (List Projected)) (d : Database) → IsCutRoot m n c r → IsCutOf m c d → LoadedStores n r stores → AreDatabase n r stores d

abbrev pub done_well : Unit {0} → Result (Unit {0}) DiskFault
done_well done = Ok done

abbrev pub ReplacesAny : {D : Type 0} → Ghosts D → ℕ → Catalogue → D → D → Result (Unit {0}) DiskFault → Type 0
ReplacesAny disk version r again new result = (was : Found) (m : Contents) → IsLater was version → Quiet (disk.holds again) (ImageOf disk again) was m → Replaces disk m was version r again new result

settled_at : {D : Type 0} (disk : Ghosts D) {now : D} (n : Contents) (version : ℕ) (r : Catalogue) (stores : List (List Projected)) (d : Database) → version < r.next → IsSoundDatabase d
    → AreDatabase n r stores d → IsSettled disk n (Root version r) now → Stands disk (seen r stores) now d
settled_at disk n version r stores d below sound are (k, quiet, same) = record {
  files = k;
  are = database_moved n k r stores d (tables_same n k r same) are;
  sound = sound;
  root = Root version r;
  is_root = (refl, refl, below, λ none. refl);
  quiet = quiet;
}

pub settled_stands : {D : Type 0} (disk : Ghosts D) {old read now again new : D} (law : CutLoads) (v version : ℕ) (c r : Catalogue) (stores : List (List Projected)) (d : Database) (m : Contents) (done : Unit {0})
    → IsValid c → v < version → version < r.next → Looks disk old read → Moved disk (DataFrom c.next) NoName read now → Between (CutsCatalogue c r) (disk.holds read) (disk.holds now)
    → ((n : Contents) → disk.holds now ≡ Some n → LoadedStores n r stores) → Looks disk now again → ReplacesAny disk version r again new (done_well done) → IsQuietFor disk old v c d m
    → Stands disk (seen r stores) new d
settled_stands disk {old} {read} {now} {again} {new} law v version c r stores d m done valid later below looks moved cuts loaded looked replaces quiet =
    let (n, beside) = cut_beside disk {old = old} {read = read} {now = now} v c r d m valid looks moved cuts quiet in
    let there = quiet_looked disk {old = now} {new = again} v c d n looked beside.quiet in
    settled_at disk n version r stores d below quiet.sound (law m n c r stores d beside.cut beside.before (loaded n beside.quiet.quiet.told_is)) (replaces (Root v c) n later there.quiet).done

replaced_leaves : {D : Type 0} (disk : Ghosts D) {mid again new : D} (law : CutReopens) (v version : ℕ) (c r : Catalogue) (d : Database) (m n : Contents) (result : Result (Unit {0}) DiskFault) → IsValid c
    → IsCutBeside disk mid v c r d m n → Replaces disk n (Root v c) version r again new result → Leaves disk (λ x. Reopens x d) again new
replaced_leaves disk {mid} {again} {new} law v version c r d m n result valid beside replaces = leaves_wider disk either replaces.any_moment
  where
    either : (x : Contents) → KeepsRoot n (Root v c) x ⊎ KeepsRoot n (Root version r) x → Reopens x d
    either x (inl is) = quiet_reopens n x v c d beside.quiet.is_cut beside.quiet.sound is
    either x (inr is) = quiet_reopens n x version r d (law m n c r d beside.cut (mark_reached c valid) beside.before) beside.quiet.sound is

pub settled_leaves : {D : Type 0} (disk : Ghosts D) {old read now again new : D} (law : CutReopens) (v version : ℕ) (c r : Catalogue) (d : Database) (m : Contents) (result : Result (Unit {0}) DiskFault)
    → IsValid c → v < version → Looks disk old read → Moved disk (DataFrom c.next) NoName read now → Between (CutsCatalogue c r) (disk.holds read) (disk.holds now) → Looks disk now again
    → ReplacesAny disk version r again new result → IsQuietFor disk old v c d m → Leaves disk (λ x. Reopens x d) old new
settled_leaves disk {old} {read} {now} {again} {new} law v version c r d m result valid later looks moved cuts looked replaces quiet =
    let (n, beside) = cut_beside disk {old = old} {read = read} {now = now} v c r d m valid looks moved cuts quiet in
    let there = quiet_looked disk {old = now} {new = again} v c d n looked beside.quiet in
    leaves_join disk (again_leaves disk {old = old} {read = read} {now = now} {again = again} v c r d m valid looks moved cuts looked quiet)
    (replaced_leaves disk {mid = now} {again = again} {new = new} law v version c r d m n result valid beside (replaces (Root v c) n later there.quiet))
