-- Containers that two folders hold in the same files, and the others.
use Rattle.std.specs.Prelude.{ℕ, ◌≡◌, ◌<◌, ◌+◌, ◌*◌, ◌^◌, ◌++◌, ◌⊎◌, List, [], ◌∷◌, Option, Some, IfSome, length, take, drop}
use Rattle.std.specs.List.{All}
use Rattle.std.specs.Option.{option_map}
use Rattle.std.specs.FinMap.{get}
use Rattle.common_laws.specs.Maps.{Contents}
use Rattle.catalog_types.specs.declared.catalogue.Container.{Container}
use Rattle.ros_container.specs.Files.{IsFileOf}
use Rattle.stored_rows.specs.Listed.{IsVectorFile, SameFiles}
use Rattle.catch_model.specs.declared.fault.LinkFault.{LinkFault}
use Rattle.catch_model.specs.declared.fault.LinkFault.TheVariants.{SchemaDiffers, NotBehind, HistoryGone, Differs, Gap, TooMany, NumbersSpent, BehindDisk, AheadDisk, Damaged, Memory}

-- a disk failed, or memory was short
abbrev pub IsShort : LinkFault → Type 0
IsShort (SchemaDiffers name) = ⊥
IsShort (NotBehind behind ahead) = ⊥
IsShort (HistoryGone at ahm) = ⊥
IsShort (Differs table row) = ⊥
IsShort (Gap n) = ⊥
IsShort (TooMany n) = ⊥
IsShort NumbersSpent = ⊥
IsShort BehindDisk = Unit {0}
IsShort AheadDisk = Unit {0}
IsShort (Damaged name) = ⊥
IsShort Memory = Unit {0}

-- so it is of the contents of two disks, where both tell them
abbrev pub OnBoth : Option Contents → Option Contents → (Contents → Contents → Type 0) → Type 0
OnBoth behind ahead P = (m n : Contents) → behind ≡ Some m → ahead ≡ Some n → P m n

-- a file is the same in both
abbrev pub SameFile : ℕ → Contents → Contents → Type 0
SameFile name m n = get n name ≡ get m name

-- the piece of a file from a place on is
abbrev pub SamePiece : ℕ → ℕ → Contents → Contents → Type 0
SamePiece name place m n = option_map (λ bytes. take 1048576 (drop place bytes)) (get m name) ≡ option_map (λ bytes. take 1048576 (drop place bytes)) (get n name)

-- a file has so many bytes
abbrev pub IsLong : ℕ → ℕ → Contents → Type 0
IsLong name len m = Some len ≡ option_map length (get m name)

-- the files of a container's columns are the same in both, and its delete vector is
abbrev pub SameColumns : Container → Contents → Contents → Type 0
SameColumns k m n = (q : ℕ) → IsFileOf k.base k.stored q → SameFile q m n

abbrev pub SameVector : Container → Contents → Contents → Type 0
SameVector k m n = (q : ℕ) → IsVectorFile k.marks q → SameFile q m n

-- the files of a container have names
pub record CanName (k : Container) : Type 0 where
  pub numbers : k.base + 2 * k.stored + 1 < 2 ^ 62
  pub vector : IfSome k.marks (λ n. n < 2 ^ 62)

-- containers are some that are shared and the rest, each in their order
abbrev pub Parts : List Container → List Container → List Container → Type 0
Parts [] shared rest = (shared ≡ []) × (rest ≡ [])
Parts (k ∷ ks) shared rest =
    ((more : List Container) × (shared ≡ k ∷ more) × Parts ks more rest) ⊎ ((more : List Container) × (rest ≡ k ∷ more) × Parts ks shared more)

-- The containers of two lists are some that both have, whose files are the same on both disks, and the rest of each.
pub record AreParted (at from : Option Contents) (ks js behind ahead : List Container) : Type 0 where
  pub shared : List Container
  pub first : Parts ks shared behind
  pub second : Parts js shared ahead
  pub same : OnBoth at from (λ m n. All (SameFiles m n) shared)

-- One container more is parted: of the other list some are gone over, and the rest of each list has come behind what was there.
pub record Turns (at from : Option Contents) (k : Container) (rest left behind ahead next further : List Container) : Type 0 where
  pub gone : List Container
  pub shared : List Container
  pub own : List Container
  pub other : List Container
  pub is : rest ≡ gone ++ left
  pub first : Parts (k ∷ []) shared own
  pub second : Parts gone shared other
  pub same : OnBoth at from (λ m n. All (SameFiles m n) shared)
  pub behind_is : next ≡ behind ++ own
  pub ahead_is : further ≡ ahead ++ other
