-- What the binder answers where it refuses.
use Rattle.std.specs.Prelude.{◌≡◌, ℕ, List, Option, Some}
use Rattle.sql_tree.specs.declared.refusal.Refusal.{Refusal}
use Rattle.name_binder.specs.declared.fault.BindFault.{BindFault}
use Rattle.name_binder.specs.declared.naming.Naming.{Naming}

-- a refusal is the one that there is; want of memory tells nothing
abbrev pub RefusesBy : Option Refusal → BindFault → Type 0
RefusesBy why (BindFault.Refused r) = why ≡ Some r
RefusesBy why BindFault.Memory = Unit {0}

-- the refusal of a name
abbrev pub refusal_named : Naming → List ℕ → Refusal
refusal_named Naming.UnknownTable = Refusal.UnknownTable
refusal_named Naming.UnknownColumn = Refusal.UnknownColumn
refusal_named Naming.Ambiguous = Refusal.Ambiguous
refusal_named Naming.Exists = Refusal.Exists
refusal_named Naming.IntegerOutOfRange = Refusal.IntegerOutOfRange
refusal_named Naming.TextTooLong = Refusal.TextTooLong
refusal_named Naming.NullRefused = Refusal.NullRefused
refusal_named Naming.BadProjection = Refusal.BadProjection
refusal_named Naming.BadEncoding = Refusal.BadEncoding
