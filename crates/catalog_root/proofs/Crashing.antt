-- A crash in a commit.
use Rattle.std.proofs.Common.{◌≡◌, Bool, true, ℕ, ◌<◌, List, [], ◌∷◌, refl, sym, ◌∙◌, ap, ap₂, subst, inl, inr}
use Rattle.std.specs.Prelude.{Option, Some, Result, Ok, Err, OnOk, IsErrOf}
use Rattle.std.specs.Option.{option_map}
use Rattle.col_disk.specs.declared.disk.DiskFault.{DiskFault}
use Rattle.col_disk.specs.declared.disk.DiskFault.TheVariants.{Failed, Memory}
use Rattle.std.specs.FinMap.{insert}
use Rattle.common_laws.specs.Maps.{Contents}
use Rattle.col_disk.specs.Moved.{Changed, NoName, Named, LikeOne, Moved, Leaves}
use Rattle.col_disk.specs.declared.disk.Disk.{Ghosts}
use Rattle.col_disk.specs.Crashes.{Laws, NoneCame, Settles, StepLeaves}
use Rattle.col_disk.proofs.Moving.{leaves_moved, leaves_join, changed_wider, changed_join, changed_elsewhere, insert_elsewhere}
use Rattle.catalog_types.specs.declared.catalogue.Catalogue.{Catalogue}
use Rattle.catalog_types.specs.Valid.{IsValid}
use Rattle.catalog_bytes.specs.declared.form.Form.TheVariants.{Two}
use Rattle.catalog_bytes.specs.Spelling.{spelling, Fits}
use Rattle.catalog_root.specs.declared.found.Found.{Found}
use Rattle.catalog_root.specs.declared.found.Found.TheVariants.{Fresh, Root}
use Rattle.catalog_root.specs.Root.{body_file, gate_file, IsAbove, Opens, OpensAsBefore, NewOrOld}
use Rattle.catalog_root.specs.Crash.{RootNames, IsLater, IsRooted, IsOld, OldOrNew, IsReplaced}
use Rattle.catalog_root.proofs.Commits.{body_same, gate_torn, both_put}
use Rattle.catalog_root.proofs.Roots.{root_below, fresh_below}

above : (was : Found) (version : ℕ) (c : Contents) → IsLater was version → Opens c was → IsAbove version c
above Fresh version c later opens = fresh_below c version opens
above (Root v d) version c later opens = root_below c v version d opens later

as_before : (was : Found) (m n : Contents) → OpensAsBefore m n → Opens m was → Opens n was
as_before Fresh m n same opens = same.fresh opens
as_before (Root v d) m n same opens = same.root v d opens

in_root : (version q : ℕ) → Named (body_file version) q → RootNames version q
in_root version q is = inl is

gate_in_root : (version q : ℕ) → Named (gate_file version) q → RootNames version q
gate_in_root version q is = inr is

-- the body alone was touched: each image opens as before
body_left : (was : Found) (version : ℕ) (told : Option Contents) (image : Contents → Type 0) (m : Contents) → IsRooted told image was version m
    → (c : Contents) → LikeOne (Named (body_file version)) NoName image c → IsOld was version image c
body_left was version told image m rooted c (d, is, changed) = record {
  opens = as_before was d c (body_same version d c (above was version d rooted.later (rooted.opens d is)) changed) (rooted.opens d is);
  like = (d, is, changed_wider (Named (body_file version)) NoName (RootNames version) NoName d c (in_root version) (λ q r. r) changed);
}

-- the body is there, and the gate alone was touched since: each image opens as before or to the new version
gate_left : (was : Found) (version : ℕ) (catalogue : Catalogue) (image : Contents → Type 0) (m : Contents) → IsValid catalogue → Fits Two catalogue → version < catalogue.next → IsLater was version → image m → Opens m was
    → (c : Contents) → Changed (Named (gate_file version)) NoName (insert m (body_file version) (spelling Two catalogue)) c → OldOrNew was version catalogue image m c
gate_left was version catalogue image m valid fits below later is opens c changed = known (gate_torn version catalogue m c valid fits below (above was version m later opens) changed)
  where
    whole : Changed (RootNames version) NoName m c
    whole = changed_join (RootNames version) NoName m (insert m (body_file version) (spelling Two catalogue)) c
        (changed_elsewhere (RootNames version) NoName (body_file version) m (insert m (body_file version) (spelling Two catalogue)) (inl refl) (insert_elsewhere m (body_file version) (spelling Two catalogue)))
        (changed_wider (Named (gate_file version)) NoName (RootNames version) NoName (insert m (body_file version) (spelling Two catalogue)) c (gate_in_root version) (λ q r. r) changed)

    known : NewOrOld version catalogue m c → OldOrNew was version catalogue image m c
    known (inl written) = inr (record { written = written; like = whole })
    known (inr same) = inl (record { opens = as_before was m c same opens; like = (m, is, whole) })

module _ {D : Type 0} (disk : Ghosts D) (was : Found) (version : ℕ) (catalogue : Catalogue) (m : Contents) where
  -- nothing was called, or the body alone was touched
  pub left_at_body : {old mid : D} → IsRooted (disk.holds old) (disk.since old (disk.clock old)) was version m → Moved disk (Named (body_file version)) NoName old mid
      → Leaves disk (OldOrNew was version catalogue (disk.since old (disk.clock old)) m) old mid
  left_at_body {old} {mid} rooted moved = leaves_moved disk (λ c like. inl (body_left was version (disk.holds old) (disk.since old (disk.clock old)) m rooted c like)) moved

  -- the body was put, and then the gate was touched
  pub left_at_gate : {old mid new : D} → Laws disk.holds disk.since disk.clock → IsValid catalogue → Fits Two catalogue → version < catalogue.next
      → IsRooted (disk.holds old) (disk.since old (disk.clock old)) was version m → Moved disk (Named (body_file version)) NoName old mid
      → ((c : Contents) → disk.since mid (disk.clock mid) c → c ≡ insert m (body_file version) (spelling Two catalogue)) → Moved disk (Named (gate_file version)) NoName mid new
      → Leaves disk (OldOrNew was version catalogue (disk.since old (disk.clock old)) m) old new
  left_at_gate {old} {mid} {new} laws valid fits below rooted first only second =
      let shown : disk.since old (disk.clock old) m = laws.shows old m rooted.told_is in
      leaves_join disk (left_at_body rooted first)
      (leaves_moved disk (λ c like. by shown c like) second)
    where
      by : disk.since old (disk.clock old) m → (c : Contents) → LikeOne (Named (gate_file version)) NoName (disk.since mid (disk.clock mid)) c → OldOrNew was version catalogue (disk.since old (disk.clock old)) m c
      by shown c (d, is, changed) =
          gate_left was version catalogue (disk.since old (disk.clock old)) m valid fits below rooted.later shown (rooted.opens m shown) c
          (subst (λ (x : Contents). Changed (Named (gate_file version)) NoName x c) (only d is) changed)

-- ---- one file that is put

abbrev pub Only : {D : Type 0} → Ghosts D → D → Contents → Type 0
Only disk now m = (c : Contents) → disk.since now (disk.clock now) c → c ≡ m

pub put_only : (name : ℕ) (bytes : List ℕ) (before mid : Option Contents) (image : Contents → Type 0) (changed : Bool) (result : Result (Unit {0}) DiskFault)
    → mid ≡ option_map (λ (m : Contents). insert m name bytes) before → Settles mid image changed result
    → OnOk result ((m : Contents) → before ≡ Some m → (c : Contents) → image c → c ≡ insert m name bytes)
put_only name bytes before mid image changed (Ok done) written settles = λ m told c is. settles (insert m name bytes) (written ∙ ap (option_map (λ (x : Contents). insert x name bytes)) told) c is
put_only name bytes before mid image changed (Err fault) written settles = tt

pub put_memory : (mid : Option Contents) (before image : Contents → Type 0) (changed : Bool) (result : Result (Unit {0}) DiskFault) → changed ≡ true → Settles mid image changed result → IsErrOf result Memory → NoneCame before image
put_memory mid before image changed (Ok done) is settles failed = absurd (cc)
put_memory mid before image changed (Err Failed) is settles failed = absurd (cc)
put_memory mid before image changed (Err Memory) is settles failed = absurd (cc)

pub not_written : (step : Contents → Contents → Type 0) (before image : Contents → Type 0) (fault : DiskFault) → StepLeaves step before image (Err fault) → IsErrOf {T = Unit {0}} (Err fault) Memory → NoneCame before image
not_written step before image Failed leaves is = absurd (cc)
not_written step before image Memory leaves is = leaves

-- ---- the whole commit

module _ {D : Type 0} (disk : Ghosts D) (was : Found) (version : ℕ) (catalogue : Catalogue) (m : Contents) (old mid new : D)
    (rooted : IsRooted (disk.holds old) (disk.since old (disk.clock old)) was version m) where
  pub replaced : (result : Result (Unit {0}) DiskFault) → IsValid catalogue → Fits Two catalogue → version < catalogue.next → Laws disk.holds disk.since disk.clock
      → disk.holds mid ≡ Some (insert m (body_file version) (spelling Two catalogue))
      → OnOk result (disk.holds new ≡ option_map (λ (x : Contents). insert x (gate_file version) (86 ∷ [])) (disk.holds mid))
      → OnOk result ((x : Contents) → disk.holds mid ≡ Some x → (c : Contents) → disk.since new (disk.clock new) c → c ≡ insert x (gate_file version) (86 ∷ []))
      → OnOk result (IsReplaced (disk.holds new) (disk.since new (disk.clock new)) version catalogue m)
  replaced (Err fault) valid fits below laws told done only = tt
  replaced (Ok u) valid fits below laws told done only = record {
    now = insert (insert m (body_file version) (spelling Two catalogue)) (gate_file version) (86 ∷ []);
    told_is = done ∙ ap (option_map (λ (x : Contents). insert x (gate_file version) (86 ∷ []))) told;
    only = only (insert m (body_file version) (spelling Two catalogue)) told;
    new = record {
      written = both_put version catalogue m valid fits below (above was version m rooted.later (rooted.opens m (laws.shows old m rooted.told_is)));
      like = changed_join (RootNames version) NoName m (insert m (body_file version) (spelling Two catalogue)) _
          (changed_elsewhere (RootNames version) NoName (body_file version) m (insert m (body_file version) (spelling Two catalogue)) (inl refl) (insert_elsewhere m (body_file version) (spelling Two catalogue)))
          (changed_elsewhere (RootNames version) NoName (gate_file version) (insert m (body_file version) (spelling Two catalogue)) _ (inr refl) (insert_elsewhere (insert m (body_file version) (spelling Two catalogue)) (gate_file version) (86 ∷ [])));
    };
  }

  -- want of memory at the gate: each image has the body, and opens as before
  pub still_old : Laws disk.holds disk.since disk.clock → ((c : Contents) → disk.since mid (disk.clock mid) c → c ≡ insert m (body_file version) (spelling Two catalogue))
      → NoneCame (disk.since mid (disk.clock mid)) (disk.since new (disk.clock new)) → (x : Contents) → disk.since new (disk.clock new) x → IsOld was version (disk.since old (disk.clock old)) x
  still_old laws only none x is =
      body_left was version (disk.holds old) (disk.since old (disk.clock old)) m rooted x (
        m,
        laws.shows old m rooted.told_is,
        subst (λ (c : Contents). Changed (Named (body_file version)) NoName m c) (sym (only x (none x is)))
            (changed_elsewhere (Named (body_file version)) NoName (body_file version) m (insert m (body_file version) (spelling Two catalogue)) refl (insert_elsewhere m (body_file version) (spelling Two catalogue))),
      )

-- nothing came: each image is one from before
pub old_still : (was : Found) (version : ℕ) (told : Option Contents) (before now : Contents → Type 0) (m : Contents) → IsRooted told before was version m → NoneCame before now → (x : Contents) → now x → IsOld was version before x
old_still was version told before now m rooted none x is = record { opens = rooted.opens x (none x is); like = (x, none x is, λ q other. inl refl) }

pub moved_named : {D : Type 0} (disk : Ghosts D) {name file : ℕ} {old new : D} → name ≡ file → Moved disk (Named name) NoName old new → Moved disk (Named file) NoName old new
moved_named disk {old = old} {new = new} is moved = subst (λ (q : ℕ). Moved disk (Named q) NoName old new) is moved

pub only_body : {D : Type 0} (disk : Ghosts D) {mid : D} (m : Contents) {name file : ℕ} {bytes held : List ℕ} → name ≡ file → bytes ≡ held
    → ((c : Contents) → disk.since mid (disk.clock mid) c → c ≡ insert m name bytes) → (c : Contents) → disk.since mid (disk.clock mid) c → c ≡ insert m file held
only_body disk m is same only c image = only c image ∙ ap₂ (λ (q : ℕ) (b : List ℕ). insert m q b) is same
