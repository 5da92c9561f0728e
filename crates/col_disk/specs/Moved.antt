-- What a piece of work may have changed on a disk between two moments.
use Rattle.std.specs.Prelude.{◌≡◌, ◌⊎◌, ◌≤◌, ℕ, List, Option, None, Contains}
use Rattle.std.specs.FinMap.{get}
use Rattle.common_laws.specs.Maps.{Contents}
use Rattle.col_disk.specs.Calls.{Stepped, Keeps}
use Rattle.col_disk.specs.Crashes.{Image}
use Rattle.col_disk.specs.declared.disk.Disk.{Ghosts}

-- a name that isn't written is as it was, or it is one of those to remove and is absent
abbrev pub Changed : (ℕ → Type 0) → (ℕ → Type 0) → Contents → Contents → Type 0
Changed Written Removed old new = (q : ℕ) → (Written q → ⊥) → (get new q ≡ get old q) ⊎ (Removed q × (get new q ≡ None))

-- the image is one of these, changed on these names alone
abbrev pub LikeOne : (ℕ → Type 0) → (ℕ → Type 0) → (Contents → Type 0) → Contents → Type 0
LikeOne Written Removed before c = (d : Contents) × before d × Changed Written Removed d c

-- Between two moments a disk changed on these names alone: its contents, and each image now and since is an earlier image changed so.
-- Its count of faults didn't fall.
pub record MovedOnly {D : Type 0} (holds : D → Option Contents) (faults : D → ℕ) (since : D → ℕ → Contents → Type 0) (clock : D → ℕ) (Written Removed : ℕ → Type 0) (old new : D) : Type 0 where
  pub contents : Stepped (Changed Written Removed) (holds old) (holds new)
  pub counted : faults old ≤ faults new
  pub later : clock old ≤ clock new
  pub now : (c : Contents) → Image since clock new c → LikeOne Written Removed (Image since clock old) c
  pub each : (t : ℕ) (c : Contents) → t ≤ clock old → since new t c → since old t c ⊎ LikeOne Written Removed (Image since clock old) c

-- the same, of a disk as one value
abbrev pub Moved : {D : Type 0} → Ghosts D → (ℕ → Type 0) → (ℕ → Type 0) → D → D → Type 0
Moved disk Written Removed old new = MovedOnly disk.holds disk.faults disk.since disk.clock Written Removed old new

-- what a crash may leave of a disk now
abbrev pub ImageOf : {D : Type 0} → Ghosts D → D → Contents → Type 0
ImageOf disk now = Image disk.since disk.clock now

-- a crash at any moment since old leaves what has P
pub record LeavesOnly {D : Type 0} (since : D → ℕ → Contents → Type 0) (clock : D → ℕ) (P : Contents → Type 0) (old new : D) : Type 0 where
  pub later : clock old ≤ clock new
  pub since_then : (c : Contents) → since new (clock old) c → P c
  -- for a piece of work that began earlier
  pub each : (t : ℕ) (c : Contents) → t ≤ clock old → since new t c → since old t c ⊎ P c

abbrev pub Leaves : {D : Type 0} → Ghosts D → (Contents → Type 0) → D → D → Type 0
Leaves disk P old new = LeavesOnly disk.since disk.clock P old new

-- a call that only looks
abbrev pub Looks : {D : Type 0} → Ghosts D → D → D → Type 0
Looks disk old new = Keeps disk.holds disk.faults disk.since disk.clock disk.changed old new

-- no name, one name, and the names of a list
abbrev pub NoName : ℕ → Type 0
NoName q = ⊥

abbrev pub Named : ℕ → ℕ → Type 0
Named name q = q ≡ name

abbrev pub Among : List ℕ → ℕ → Type 0
Among names q = Contains names q

-- one or the other
abbrev pub Either : (ℕ → Type 0) → (ℕ → Type 0) → ℕ → Type 0
Either P Q q = P q ⊎ Q q
