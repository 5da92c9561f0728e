-- What each call of a disk answers, and what it makes of the contents.
use Rattle.std.specs.Prelude.{Bool, ◌≡◌, ◌⊎◌, ◌↔◌, ◌≤◌, ℕ, List, length, take, drop, Option, Some, None, IsSome, Ok, Err, Result, Vec, Contains}
use Rattle.std.specs.List.Sorted.{IsStrictlyIncreasing}
use Rattle.std.specs.Option.{option_map}
use Rattle.std.specs.FinMap.{get, insert, remove}
use Rattle.std.specs.declared.alloc.Global.{Global}
use Rattle.common_laws.specs.Maps.{Contents}
use Rattle.col_disk.specs.Crashes.{Image, TimePasses, NoneCame, StepLeaves, Remembers}
use Rattle.col_disk.specs.declared.disk.DiskFault.{DiskFault}
use Rattle.col_disk.specs.declared.disk.DiskFault.TheVariants.{Failed, Memory}

-- the answer is the length of what the name holds, and None where it is absent
abbrev pub AnswersSize : ℕ → Option Contents → Option ℕ → Type 0
AnswersSize name holds answer = (m : Contents) → holds ≡ Some m → answer ≡ option_map length (get m name)

-- the answer is at most `len` of the bytes that the name holds, from byte `at` on: fewer only at their end; None where it is absent
abbrev pub AnswersPart : ℕ → ℕ → ℕ → Option Contents → Option (Vec ℕ Global) → Type 0
AnswersPart name at len holds answer =
    (m : Contents) → holds ≡ Some m → option_map (λ v. v.items) answer ≡ option_map (λ bytes. take len (drop at bytes)) (get m name)

-- the answer is all the bytes that the name holds, and None where it is absent
abbrev pub AnswersWhole : ℕ → Option Contents → Option (Vec ℕ Global) → Type 0
AnswersWhole name holds answer = (m : Contents) → holds ≡ Some m → option_map (λ v. v.items) answer ≡ get m name

-- the names are those that are there, each below the next
pub record ListsNames (m : Contents) (names : List ℕ) : Type 0 where
  pub rising : IsStrictlyIncreasing names
  pub there : (q : ℕ) → Contains names q ↔ IsSome (get m q)

abbrev pub AnswersNames : Option Contents → List ℕ → Type 0
AnswersNames holds names = (m : Contents) → holds ≡ Some m → ListsNames m names

-- a call that only looks: what is told is told on, no image comes, and the count of faults never falls
pub record Keeps {D : Type 0} (holds : D → Option Contents) (faults : D → ℕ) (since : D → ℕ → Contents → Type 0) (clock : D → ℕ) (changed : D → Bool) (old new : D) : Type 0 where
  pub contents : holds new ≡ holds old
  pub counted : faults old ≤ faults new
  pub images : NoneCame (Image since clock old) (Image since clock new)
  pub time : TimePasses since clock old new
  pub remembered : changed new ≡ changed old

-- a step of the contents where they are told; those that aren't stay untold
abbrev pub Stepped : (Contents → Contents → Type 0) → Option Contents → Option Contents → Type 0
Stepped step None None = Unit {0}
Stepped step (Some old) (Some new) = step old new
Stepped step None (Some new) = ⊥
Stepped step (Some old) None = ⊥

-- every name but this one is as it was
abbrev pub Elsewhere : ℕ → Contents → Contents → Type 0
Elsewhere name old new = (q : ℕ) → (q ≡ name → ⊥) → get new q ≡ get old q

-- after a write: the name holds these bytes; after one that failed it is absent or holds anything; want of memory changes nothing
abbrev pub WriteLeaves : ℕ → List ℕ → Option Contents → Option Contents → Result (Unit {0}) DiskFault → Type 0
WriteLeaves name bytes old new (Ok done) = new ≡ option_map (λ m. insert m name bytes) old
WriteLeaves name bytes old new (Err Failed) = Stepped (Elsewhere name) old new
WriteLeaves name bytes old new (Err Memory) = new ≡ old

-- the name went, or all is as it was
abbrev pub GoneOrKept : ℕ → Contents → Contents → Type 0
GoneOrKept name old new = (new ≡ remove old name) ⊎ (new ≡ old)

-- after a removal: the name is absent; after one that failed it is absent or as it was; want of memory changes nothing
abbrev pub RemoveLeaves : ℕ → Option Contents → Option Contents → Result (Unit {0}) DiskFault → Type 0
RemoveLeaves name old new (Ok done) = new ≡ option_map (λ m. remove m name) old
RemoveLeaves name old new (Err Failed) = Stepped (GoneOrKept name) old new
RemoveLeaves name old new (Err Memory) = new ≡ old

-- a call that writes
pub record Writes {D : Type 0} (holds : D → Option Contents) (faults : D → ℕ) (since : D → ℕ → Contents → Type 0) (clock : D → ℕ) (changed : D → Bool)
    (name : ℕ) (bytes : List ℕ) (old new : D) (result : Result (Unit {0}) DiskFault) : Type 0 where
  pub contents : WriteLeaves name bytes (holds old) (holds new) result
  pub counted : faults old ≤ faults new
  pub images : StepLeaves (Elsewhere name) (Image since clock old) (Image since clock new) result
  pub time : TimePasses since clock old new
  pub remembered : Remembers (changed old) (changed new) result

-- a call that removes
pub record Removes {D : Type 0} (holds : D → Option Contents) (faults : D → ℕ) (since : D → ℕ → Contents → Type 0) (clock : D → ℕ) (changed : D → Bool)
    (name : ℕ) (old new : D) (result : Result (Unit {0}) DiskFault) : Type 0 where
  pub contents : RemoveLeaves name (holds old) (holds new) result
  pub counted : faults old ≤ faults new
  pub images : StepLeaves (GoneOrKept name) (Image since clock old) (Image since clock new) result
  pub time : TimePasses since clock old new
  pub remembered : Remembers (changed old) (changed new) result
