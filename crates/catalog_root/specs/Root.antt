-- Which catalogue a disk opens to.
use Rattle.std.specs.Prelude.{◌≡◌, ◌⊎◌, ◌<◌, ◌≤◌, ◌+◌, ◌*◌, ℕ, List, [], ◌∷◌, Option, Some, None, IsSome, IsSomeAnd}
use Rattle.std.specs.FinMap.{get}
use Rattle.common_laws.specs.Maps.{Contents}
use Rattle.col_disk.specs.declared.disk.StoreFault.{StoreFault}
use Rattle.col_disk.specs.declared.disk.StoreFault.TheVariants.{Disk, Damaged, Memory}
use Rattle.catalog_types.specs.declared.catalogue.Catalogue.{Catalogue}
use Rattle.catalog_types.specs.Valid.{IsValid}
use Rattle.catalog_bytes.specs.declared.form.Form.TheVariants.{Two}
use Rattle.catalog_bytes.specs.Spelling.{spelling, Spells}
use Rattle.catalog_root.specs.declared.found.Found.{Found}
use Rattle.catalog_root.specs.declared.found.Found.TheVariants.{Fresh, Root}

-- the file of data number n, and the two of a catalogue's version
abbrev pub data_file : ℕ → ℕ
data_file n = 4 * n

abbrev pub body_file : ℕ → ℕ
body_file v = 4 * v + 1

abbrev pub gate_file : ℕ → ℕ
gate_file v = 4 * v + 2

-- a gate is open where its file is exactly the byte 86
abbrev pub IsOpenGate : Contents → ℕ → Type 0
IsOpenGate m v = get m (gate_file v) ≡ Some (86 ∷ [])

abbrev pub AllClosed : Contents → Type 0
AllClosed m = (v : ℕ) → IsOpenGate m v → ⊥

pub record IsGreatestGate (m : Contents) (v : ℕ) : Type 0 where
  pub is_open : IsOpenGate m v
  pub greatest : (w : ℕ) → IsOpenGate m w → w ≤ v

-- the greatest open gate, where one is open
abbrev pub IsGreatestOf : Contents → Option ℕ → Type 0
IsGreatestOf m None = AllClosed m
IsGreatestOf m (Some v) = IsGreatestGate m v

-- the name is that of an open gate
abbrev pub NamesOpenGate : Contents → ℕ → Type 0
NamesOpenGate m name = (v : ℕ) × (name ≡ gate_file v) × IsOpenGate m v

-- a body is there, and its bytes spell this catalogue, in either version of the format
abbrev pub HoldsBody : Option (List ℕ) → Catalogue → Type 0
HoldsBody held c = IsSomeAnd held (λ bytes. Spells bytes c)

-- the disk opens to this version, and its body is this catalogue
pub record IsRoot (m : Contents) (v : ℕ) (c : Catalogue) : Type 0 where
  pub gate : IsGreatestGate m v
  pub body : HoldsBody (get m (body_file v)) c
  pub valid : IsValid c
  pub below : v < c.next

-- the same, and its body is written in version 2 of the format
pub record IsWritten (m : Contents) (v : ℕ) (c : Catalogue) : Type 0 where
  pub root : IsRoot m v c
  pub body : get m (body_file v) ≡ Some (spelling Two c)

-- nothing was ever stored: no gate is open, and no data file is there
pub record IsFresh (m : Contents) : Type 0 where
  pub closed : AllClosed m
  pub blank : (n : ℕ) → get m (data_file n) ≡ None

-- the version is above every open gate
abbrev pub IsAbove : ℕ → Contents → Type 0
IsAbove version m = (w : ℕ) → IsOpenGate m w → w < version

-- what the disk opened to, it opens to still
pub record OpensAsBefore (old new : Contents) : Type 0 where
  pub root : (v : ℕ) (c : Catalogue) → IsRoot old v c → IsRoot new v c
  pub fresh : IsFresh old → IsFresh new

-- what a commit leaves, whatever it answers: the disk opens to the new version, written, or as before
abbrev pub NewOrOld : ℕ → Catalogue → Contents → Contents → Type 0
NewOrOld version c old new = IsWritten new version c ⊎ OpensAsBefore old new

-- what an opening found
abbrev pub Opens : Contents → Found → Type 0
Opens m Fresh = IsFresh m
Opens m (Root v c) = IsRoot m v c

-- a body of a version: a valid catalogue, of which the version is a number that was drawn
pub record IsBody (v : ℕ) (c : Catalogue) : Type 0 where
  pub valid : IsValid c
  pub below : v < c.next

-- the body of a version is absent, or spells none
abbrev pub HasNoBody : Option (List ℕ) → ℕ → Type 0
HasNoBody held v = (c : Catalogue) → IsBody v c → HoldsBody held c → ⊥

-- what an opening gives on any disk
abbrev pub IsUsable : Found → Type 0
IsUsable Fresh = Unit {0}
IsUsable (Root v c) = IsBody v c

-- the least data file that is there
pub record IsLeastData (m : Contents) (n : ℕ) : Type 0 where
  pub there : IsSome (get m (data_file n))
  pub least : (k : ℕ) → IsSome (get m (data_file k)) → n ≤ k

-- a file that keeps a disk from opening: the body of the greatest open gate, or a data file where no gate is open
abbrev pub IsDamage : Contents → ℕ → Type 0
IsDamage m q =
    ((v : ℕ) × (q ≡ body_file v) × IsGreatestGate m v × HasNoBody (get m (body_file v)) v)
    ⊎ ((n : ℕ) × (q ≡ data_file n) × AllClosed m × IsLeastData m n)

-- a Damaged names a file that keeps the disk from opening; no other fault says anything
abbrev pub BlamesRoot : Option Contents → StoreFault → Type 0
BlamesRoot holds (Damaged q) = (m : Contents) → holds ≡ Some m → IsDamage m q
BlamesRoot holds Disk = Unit {0}
BlamesRoot holds Memory = Unit {0}

-- the same of the body alone: a Damaged names it, and it is absent or spells no catalogue
abbrev pub BlamesHeld : ℕ → Option (List ℕ) → StoreFault → Type 0
BlamesHeld v held (Damaged q) = (q ≡ body_file v) × HasNoBody held v
BlamesHeld v held Disk = Unit {0}
BlamesHeld v held Memory = Unit {0}

abbrev pub BlamesBody : ℕ → Option Contents → StoreFault → Type 0
BlamesBody v holds (Damaged q) = (m : Contents) → holds ≡ Some m → (q ≡ body_file v) × HasNoBody (get m (body_file v)) v
BlamesBody v holds Disk = Unit {0}
BlamesBody v holds Memory = Unit {0}
