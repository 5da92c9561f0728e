-- A projection all of whose rows and marks are on disk.
use Rattle.std.specs.Prelude.{ℕ, ◌≡◌, ◌⊎◌, ◌≤◌, ◌<◌, ◌+◌, ◌^◌, ◌++◌, Bool, true, false, List, length, Contains, Option, Some, IfSome}
use Rattle.std.specs.List.{All, AllZip}
use Rattle.common_laws.specs.Bags.{SameBag}
use Rattle.common_laws.specs.Maps.{Contents}
use Rattle.col_value.specs.declared.row.Stamped.{Stamped}
use Rattle.catalog_types.specs.declared.catalogue.Container.{Container}
use Rattle.catalog_types.specs.declared.catalogue.Projection.{Projection}
use Rattle.catalog_types.specs.Numbers.{file_count}
use Rattle.del_vector.specs.declared.mark.Mark.{Mark}
use Rattle.stored_rows.specs.Held.{HoldsVector, HoldsMarked, HoldsRows, Holds}
use Rattle.stored_rows.specs.Stored.{Beside, Projected, mark_in, StoresRows, Stores}
use Rattle.container_writer.specs.Writing.{listed, HoldsOne, AreNumbered}
use Rattle.ros_container.specs.Encodings.{Written, written_of}
use Rattle.merge_rows.specs.Inputs.{others}

-- the numbers of a container are below this one
pub record IsBelow (next : ℕ) (k : Container) : Type 0 where
  pub files : k.base + file_count k.stored ≤ next
  pub vector : IfSome k.marks (λ n. n < next)

-- all numbers that an entry lists are below this one
abbrev pub IsListedBelow : ℕ → Projection → Type 0
IsListedBelow next p = All (IsBelow next) p.containers

-- a number that was drawn, from `next` up to `after`
pub record IsNewNumber (next after n : ℕ) : Type 0 where
  pub from : next ≤ n
  pub upto : n < after
  pub low : n < 2 ^ 62

-- the entry of a container whose delete vector is the old one, or has a number that was drawn
pub record IsRemarked (next after : ℕ) (old new : Container) : Type 0 where
  pub base : new.base ≡ old.base
  pub rows : new.rows ≡ old.rows
  pub level : new.level ≡ old.level
  pub stored : new.stored ≡ old.stored
  pub marks : ((new.marks ≡ old.marks) × (new.greatest_mark ≡ old.greatest_mark)) ⊎ IfSome new.marks (IsNewNumber next after)

-- the entry with these containers and one more behind them, if one was made, which has all rows up to an epoch
abbrev pub moved_to : ℕ → List Container → Option Container → Projection → Projection
moved_to last remarked made old = record old { fresh = true; lge = last; born = old.born + length (listed made); containers = remarked ++ listed made }

-- The entry of a projection that was moved out up to an epoch, with numbers from `next` up to `after`: its containers with their
-- delete vectors, and behind them one more, where there were rows in memory.
pub record IsMovedOut (last next after : ℕ) (old new : Projection) : Type 0 where
  pub remarked : List Container
  pub made : Option Container
  pub mid : ℕ
  pub is : new ≡ moved_to last remarked made old
  pub each : AllZip (IsRemarked next mid) old.containers remarked
  pub numbers : AreNumbered (length old.columns) mid after made
  pub level : IfSome made (λ k. k.level ≡ 0)
  pub later : next ≤ mid

-- containers that hold these rows, with numbers below this one
pub record AreHeld (m : Contents) (written : List Written) (next : ℕ) (ks : List Container) (rows : List Stamped) : Type 0 where
  pub held : HoldsRows m written ks rows
  pub below : All (IsBelow next) ks

-- what a container held with these marks, its new entry holds, with numbers below `after`
abbrev pub Remarks : ℕ → ℕ → Container → Beside → Container → Option Contents → Option Contents → Type 0
Remarks next after k b j found left =
    (m : Contents) (written : List Written) (rows : List Stamped) → found ≡ Some m → IsBelow next k → HoldsVector m k b.held → HoldsMarked m written k (mark_in b) rows
    → (n : Contents) × (left ≡ Some n) × HoldsOne n written j rows × IsBelow after j

-- the same where the container isn't left out; one that is left out stays, and nothing else changes
abbrev pub RemarksIf : Bool → ℕ → ℕ → Container → Beside → Container → Option Contents → Option Contents → Type 0
RemarksIf true next after k b j found left = (after ≡ next) × (left ≡ found)
RemarksIf false next after k b j found left = Remarks next after k b j found left

-- the same of some containers
abbrev pub RemarksEach : List Written → ℕ → ℕ → List Container → List Beside → List Container → Option Contents → Option Contents → Type 0
RemarksEach written next after ks bs js found left =
    (m : Contents) (rows : List Stamped) → found ≡ Some m → All (IsBelow next) ks → StoresRows m written ks bs rows
    → (n : Contents) × (left ≡ Some n) × AreHeld n written after js rows

-- a container has its delete vector on disk, of a number below this one
pub record HasVectorBelow (after : ℕ) (n : Contents) (k : Container) : Type 0 where
  pub marks : List Mark
  pub held : HoldsVector n k marks
  pub low : IfSome k.marks (λ v. v < after)

-- a container is the one before it, or has its delete vector on disk
abbrev pub KeepsOrHasVector : ℕ → Contents → Container → Container → Type 0
KeepsOrHasVector after n old new = (new ≡ old) ⊎ HasVectorBelow after n new

-- a container is one of these, or has its delete vector on disk
abbrev pub IsKeptOrHasVector : ℕ → Contents → List Container → Container → Type 0
IsKeptOrHasVector after n olds k = Contains olds k ⊎ HasVectorBelow after n k

-- so it is of each of some containers, and of one more, if one was made
pub record HaveVectors (after : ℕ) (n : Contents) (olds news : List Container) (made : Option Container) : Type 0 where
  pub each : All (IsKeptOrHasVector after n olds) news
  pub last : IfSome made (HasVectorBelow after n)

-- what a projection stored, its new entry holds, in some order
abbrev pub KeepsStored : ℕ → Projected → Projection → Option Contents → Option Contents → Type 0
KeepsStored next p entry found left =
    (m n : Contents) → found ≡ Some m → left ≡ Some n → IsListedBelow next p.entry → (stored : List Stamped) → Stores m p stored
    → (held : List Stamped) × Holds n entry held × SameBag stored held

-- marks of two lists, those of the first before those of the second
abbrev pub beside : List Mark → List Mark → Beside
beside held fresh = record { held = held; fresh = fresh }

-- what containers stored that aren't left out, their new entries hold
abbrev pub SavesOthers : ℕ → List Bool → Projected → List Container → Option Contents → Option Contents → Type 0
SavesOthers next left_out p js found left =
    (m n : Contents) → found ≡ Some m → left ≡ Some n → All (IsBelow next) (others left_out p.entry.containers) → (rows : List Stamped)
    → StoresRows m (written_of p.entry) (others left_out p.entry.containers) (others left_out p.beside) rows → HoldsRows n (written_of p.entry) (others left_out js) rows

-- Containers with their delete vectors, and one more, where there were rows in memory, with numbers from `next` up to `after`.
pub record AreSaved (next after columns : ℕ) (old js : List Container) (memory : Option Container) : Type 0 where
  pub mid : ℕ
  pub later : next ≤ mid
  pub each : AllZip (IsRemarked next mid) old js
  pub numbers : AreNumbered columns mid after memory
  pub level : IfSome memory (λ k. k.level ≡ 0)
