-- A disk in memory, as it is seen.
use Rattle.std.specs.Prelude.{◌==◌, ◌+◌, ◌-◌, ◌^◌, ◌||◌, min, ℕ, Bool, false, not, List, [], Option, Some, None, if◌then◌else◌}
use Rattle.std.specs.Bool.{nat_lt}
use Rattle.std.specs.List.{list_any}
use Rattle.common_laws.specs.Maps.{Contents}
use Rattle.col_disk.specs.declared.did.Did.{Did}
use Rattle.col_disk.specs.Dids.{contents_of}

pub record Memory : Type 0 where
  -- what was done to it, the first first
  pub done : List Did
  -- whether something was ever written or removed
  pub changed : Bool
  -- how many calls it has had; the next one has this number
  pub calls : ℕ
  -- the numbers of the calls that fail
  pub failing : List ℕ
  -- the number from which every call fails
  pub failing_from : Option ℕ
  pub faults : ℕ

-- what it holds
abbrev pub held_by : Memory → Contents
held_by m = contents_of m.done

-- no name, no call, no fault
abbrev pub blank : Memory
blank = record { done = []; changed = false; calls = 0; failing = []; failing_from = None; faults = 0 }

-- one more, up to 2^64 - 1
abbrev pub one_more : ℕ → ℕ
one_more n = min (n + 1) (2 ^ 64 - 1)

-- whether a count has come so far
abbrev pub is_reached : Option ℕ → ℕ → Bool
is_reached None n = false
is_reached (Some from) n = not (nat_lt n from)

-- whether the next call fails
abbrev pub fails_next : Memory → Bool
fails_next m = list_any (λ n. n == m.calls) m.failing || is_reached m.failing_from m.calls

-- a call begins: it is counted, and its fault where it fails
abbrev pub began : Memory → Memory
began m = record m { calls = one_more m.calls; faults = if fails_next m then one_more m.faults else m.faults }
