-- What a crash may leave, now and since a moment.
use Rattle.std.specs.Prelude.{◌≡◌, ◌⊎◌, ◌≤◌, ℕ, Bool, true, false, Option, Some, None, Result, Ok, Err}
use Rattle.common_laws.specs.Maps.{Contents}
use Rattle.col_disk.specs.declared.disk.DiskFault.{DiskFault}
use Rattle.col_disk.specs.declared.disk.DiskFault.TheVariants.{Failed, Memory}

-- what a crash now may leave: what it may leave since this moment
abbrev pub Image : {D : Type 0} → (D → ℕ → Contents → Type 0) → (D → ℕ) → D → Contents → Type 0
Image since clock disk c = since disk (clock disk) c

-- Time goes on: what a crash since an earlier moment may have left it might have left before, or may leave now.
pub record TimePasses {D : Type 0} (since : D → ℕ → Contents → Type 0) (clock : D → ℕ) (old new : D) : Type 0 where
  pub later : clock old ≤ clock new
  pub each : (t : ℕ) (c : Contents) → t ≤ clock old → since new t c → since old t c ⊎ Image since clock new c

-- each image after a step is one from before it, changed by the step
abbrev pub Follows : (Contents → Contents → Type 0) → (Contents → Type 0) → (Contents → Type 0) → Type 0
Follows step before now = (c : Contents) → now c → (d : Contents) × before d × step d c

-- no image came
abbrev pub NoneCame : (Contents → Type 0) → (Contents → Type 0) → Type 0
NoneCame before now = (c : Contents) → now c → before c

-- after a write or a removal, whatever it answered; want of memory changes nothing
abbrev pub StepLeaves : (Contents → Contents → Type 0) → (Contents → Type 0) → (Contents → Type 0) → Result (Unit {0}) DiskFault → Type 0
StepLeaves step before now (Ok done) = Follows step before now
StepLeaves step before now (Err Failed) = Follows step before now
StepLeaves step before now (Err Memory) = NoneCame before now

-- a write or a removal that was more than want of memory is remembered
abbrev pub Remembers : Bool → Bool → Result (Unit {0}) DiskFault → Type 0
Remembers before now (Ok done) = now ≡ true
Remembers before now (Err Failed) = now ≡ true
Remembers before now (Err Memory) = now ≡ before

-- after a sync that answered Ok the only image is the contents; want of memory comes only where nothing was ever written or removed
abbrev pub Settles : Option Contents → (Contents → Type 0) → Bool → Result (Unit {0}) DiskFault → Type 0
Settles holds now changed (Ok done) = (m : Contents) → holds ≡ Some m → (c : Contents) → now c → c ≡ m
Settles holds now changed (Err Failed) = Unit {0}
Settles holds now changed (Err Memory) = changed ≡ false

-- The laws of a disk: what it tells is an image, and what a crash may leave since a moment it may have left since an earlier one.
pub record Laws {D : Type 0} (holds : D → Option Contents) (since : D → ℕ → Contents → Type 0) (clock : D → ℕ) : Type 0 where
  pub shows : (disk : D) (m : Contents) → holds disk ≡ Some m → Image since clock disk m
  pub reaches : (disk : D) (t u : ℕ) (c : Contents) → t ≤ u → u ≤ clock disk → since disk u c → since disk t c
