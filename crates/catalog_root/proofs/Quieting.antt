-- The laws of a quiet disk: it stays quiet while others work beside its root, and a commit makes it quiet on the new one.
use Rattle.std.proofs.Common.{◌≡◌, ℕ, ◌∙◌, refl, sym, ap, subst, inl, inr, arith}
use Rattle.std.specs.Prelude.{Option, Some, Result, Ok, Err, OnOk}
use Rattle.std.specs.FinMap.{get}
use Rattle.common_laws.specs.Maps.{Contents}
use Rattle.col_disk.specs.Moved.{Changed, LikeOne, Moved, Leaves, ImageOf}
use Rattle.col_disk.specs.declared.disk.Disk.{Ghosts}
use Rattle.col_disk.proofs.Moving.{changed_kept, moved_told, leaves_moved}
use Rattle.catalog_types.specs.declared.catalogue.Catalogue.{Catalogue}
use Rattle.catalog_root.specs.declared.found.Found.{Found}
use Rattle.catalog_root.specs.declared.found.Found.TheVariants.{Fresh, Root}
use Rattle.catalog_root.specs.Root.{data_file, body_file, gate_file, IsRoot, Opens}
use Rattle.catalog_root.specs.Listed.{IsListed, IsStray, IsUnlisted}
use Rattle.catalog_root.specs.Crash.{IsLater, IsRooted, IsNew, IsReplaced}
use Rattle.catalog_root.specs.Quiet.{SameListed, KeepsRoot, Quiet, IsSpare, IsUseless}
use Rattle.catalog_root.proofs.Roots.{root_kept}

-- what holds of any result holds of a good one
pub on_all : {T E P : Type 0} (r : Result T E) → P → OnOk r P
on_all (Ok x) p = p
on_all (Err e) p = tt

-- a root stands where only files that it has no use for moved
pub root_stays : (W R : ℕ → Type 0) (m n : Contents) (v : ℕ) (c : Catalogue) → ((q : ℕ) → W q → IsStray (IsListed c) q) → ((q : ℕ) → R q → IsUnlisted v c q)
    → Changed W R m n → IsRoot m v c → IsRoot n v c
root_stays W R m n v c written removed changed root =
    root_kept W R m n v c changed (λ w is. let at = (written (gate_file w) is).1 in omega (arith, at)) (λ is. let at = (written (body_file v) is).1 in omega (arith, at))
    (λ r. gate_stays (removed (gate_file v) r)) (λ r. body_stays (removed (body_file v) r)) root
  where
    gate_stays : IsUnlisted v c (gate_file v) → ⊥
    gate_stays (inl (i, is, stray)) = omega (arith, is)
    gate_stays (inr (w, other, inl is)) = omega (arith, is)
    gate_stays (inr (w, other, inr is)) = other (omega (arith, is))

    body_stays : IsUnlisted v c (body_file v) → ⊥
    body_stays (inl (i, is, stray)) = omega (arith, is)
    body_stays (inr (w, other, inl is)) = other (omega (arith, is))
    body_stays (inr (w, other, inr is)) = omega (arith, is)

-- and so do the files that it lists
pub listed_stay : (W R : ℕ → Type 0) (m n : Contents) (v : ℕ) (c : Catalogue) → ((q : ℕ) → W q → IsStray (IsListed c) q) → ((q : ℕ) → R q → IsUnlisted v c q)
    → Changed W R m n → (k : ℕ) → IsListed c k → get n (data_file k) ≡ get m (data_file k)
listed_stay W R m n v c written removed changed k listed = changed_kept W R m n (data_file k) (λ w. stray (written (data_file k) w)) (λ r. unlisted (removed (data_file k) r)) changed
  where
    stray : IsStray (IsListed c) (data_file k) → ⊥
    stray (i, is, out) = let same : k ≡ i = omega (arith, is) in out (subst (IsListed c) same listed)

    unlisted : IsUnlisted v c (data_file k) → ⊥
    unlisted (inl out) = stray out
    unlisted (inr (w, other, inl is)) = omega (arith, is)
    unlisted (inr (w, other, inr is)) = omega (arith, is)

quiet_image : (W R : ℕ → Type 0) (m n d c : Contents) (root : Found) → ((q : ℕ) → W q → IsSpare root q) → ((q : ℕ) → R q → IsUseless root q)
    → Changed W R m n → Changed W R d c → KeepsRoot m root d → KeepsRoot n root c
quiet_image W R m n d c Fresh written removed told changed quiet = record {
  opens = record {
    closed = λ w is. quiet.opens.closed w (sym (same (gate_file w)) ∙ is);
    blank = λ k. same (data_file k) ∙ quiet.opens.blank k;
  };
  same = tt;
}
  where
    same : (q : ℕ) → get c q ≡ get d q
    same q = changed_kept W R d c q (written q) (removed q) changed
quiet_image W R m n d c (Root v catalogue) written removed told changed quiet = record {
  opens = root_stays W R d c v catalogue written removed changed quiet.opens;
  same = λ k listed. listed_stay W R d c v catalogue written removed changed k listed ∙ quiet.same k listed ∙ sym (listed_stay W R m n v catalogue written removed told k listed);
}

-- A quiet disk stays quiet where only data files that its root doesn't list are written, and only files that it has no use for removed:
-- such data files, and bodies and gates of other versions.
pub quiet_moved : {D : Type 0} (disk : Ghosts D) {W R : ℕ → Type 0} {old new : D} (root : Found) (m : Contents) → ((q : ℕ) → W q → IsSpare root q) → ((q : ℕ) → R q → IsUseless root q)
    → Moved disk W R old new → Quiet (disk.holds old) (ImageOf disk old) root m → (n : Contents) × Quiet (disk.holds new) (ImageOf disk new) root n × Changed W R m n
quiet_moved disk {W} {R} {old} {new} root m written removed moved quiet =
    let (n, told, changed) = moved_told disk m quiet.told_is moved in
    (n, record { told_is = told; every = λ c is. by n changed c (moved.now c is) }, changed)
  where
    by : (n : Contents) → Changed W R m n → (c : Contents) → LikeOne W R (ImageOf disk old) c → KeepsRoot n root c
    by n told c (d, is, changed) = quiet_image W R m n d c root written removed told changed (quiet.every d is)

-- and a crash at any moment of it leaves the root with its files
pub quiet_leaves : {D : Type 0} (disk : Ghosts D) {W R : ℕ → Type 0} {old new : D} (root : Found) (m : Contents) → ((q : ℕ) → W q → IsSpare root q) → ((q : ℕ) → R q → IsUseless root q)
    → Moved disk W R old new → Quiet (disk.holds old) (ImageOf disk old) root m → Leaves disk (KeepsRoot m root) old new
quiet_leaves disk {W} {R} {old} {new} root m written removed moved quiet = leaves_moved disk {W = W} {R = R} here moved
  where
    here : (c : Contents) → LikeOne W R (disk.since old (disk.clock old)) c → KeepsRoot m root c
    here c (d, is, changed) = quiet_image W R m m d c root written removed (λ q other. inl refl) changed (quiet.every d is)

-- after a good commit the disk is quiet on the new root
pub quiet_replaced : (told : Option Contents) (image : Contents → Type 0) (version : ℕ) (c : Catalogue) (m : Contents) → IsReplaced told image version c m
    → (n : Contents) × Quiet told image (Root version c) n × IsNew version c m n
quiet_replaced told image version c m replaced = (
  replaced.now,
  record {
    told_is = replaced.told_is;
    every = λ x is. let same = replaced.only x is in record { opens = subst (λ (y : Contents). IsRoot y version c) (sym same) replaced.new.written.root; same = λ k listed. ap (λ (y : Contents). get y (data_file k)) same };
  },
  replaced.new,
)

-- what was opened, and made to last
pub quiet_settled : (told : Option Contents) (image : Contents → Type 0) (root : Found) (m : Contents) → told ≡ Some m → Opens m root → ((c : Contents) → image c → c ≡ m) → Quiet told image root m
quiet_settled told image root m told_is opens only = record {
  told_is = told_is;
  every = λ c is. let same = only c is in record { opens = subst (λ (y : Contents). Opens y root) (sym same) opens; same = subst (λ (y : Contents). SameListed m y root) (sym same) (itself root) };
}
  where
    itself : (r : Found) → SameListed m m r
    itself Fresh = tt
    itself (Root v c) = λ k listed. refl

-- a quiet disk is ready for a commit of a later version
pub quiet_rooted : (told : Option Contents) (image : Contents → Type 0) (root : Found) (version : ℕ) (m : Contents) → IsLater root version → Quiet told image root m → IsRooted told image root version m
quiet_rooted told image root version m later quiet = record { told_is = quiet.told_is; opens = λ c is. (quiet.every c is).opens; later = later }
