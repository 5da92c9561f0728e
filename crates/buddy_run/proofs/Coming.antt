-- What a catch-up comes to.
use Rattle.std.proofs.Common.{◌≤◌, inl, inr, ℕ, List, refl, sym, ap, subst, arith}
use Rattle.std.specs.Prelude.{Result, Ok, Err, IsErrOf}
use Rattle.common_laws.specs.Causes.{HasCause}
use Rattle.common_laws.specs.Bags.{SameBag}
use Rattle.db_model.specs.Database.{Database}
use Rattle.db_model.specs.Sound.{IsSoundDatabase}
use Rattle.db_model.specs.State.{State}
use Rattle.catch_model.specs.Caught.{history, later_mark, IsCaughtUp}
use Rattle.catch_model.specs.Refused.{IsOlderIn, IsRefused}
use Rattle.catch_model.specs.declared.fault.LinkFault.{LinkFault}
use Rattle.catch_model.specs.declared.fault.LinkFault.TheVariants as fault
use Rattle.catch_laws.proofs.Committed.{whole_history}
use Rattle.catch_files.specs.Parting.{IsShort}
use Rattle.buddy_link.specs.Linking.{Ends, LeavesBehind}
use Rattle.buddy_run.specs.Ends.{StopsBy}

-- ---- why it stops

pub refused_stops : (a b : Database) (f : LinkFault) → IsRefused a b a.last f → StopsBy a b f
refused_stops a b (fault.SchemaDiffers name) is = inl is
refused_stops a b (fault.NotBehind behind ahead) is = inl is
refused_stops a b (fault.HistoryGone at ahm) is = inl is
refused_stops a b (fault.Differs table row) is = inl is
refused_stops a b (fault.Gap n) is = inl is
refused_stops a b (fault.TooMany n) is = inl is
refused_stops a b fault.NumbersSpent is = absurd is
refused_stops a b fault.BehindDisk is = tt
refused_stops a b fault.AheadDisk is = tt
refused_stops a b (fault.Damaged name) is = absurd is
refused_stops a b fault.Memory is = tt

pub short_stops : (a b : Database) (f : LinkFault) → IsShort f → StopsBy a b f
short_stops a b (fault.SchemaDiffers name) is = absurd is
short_stops a b (fault.NotBehind behind ahead) is = absurd is
short_stops a b (fault.HistoryGone at ahm) is = absurd is
short_stops a b (fault.Differs table row) is = absurd is
short_stops a b (fault.Gap n) is = absurd is
short_stops a b (fault.TooMany n) is = absurd is
short_stops a b fault.NumbersSpent is = absurd is
short_stops a b fault.BehindDisk is = tt
short_stops a b fault.AheadDisk is = tt
short_stops a b (fault.Damaged name) is = absurd is
short_stops a b fault.Memory is = tt

pub ends_stops : (a b : Database) (f : LinkFault) → Ends a b a.last f → StopsBy a b f
ends_stops a b f (inl refused) = refused_stops a b f refused
ends_stops a b f (inr short) = short_stops a b f short

pub left_stops : (a b : Database) (Here : State → Type 0) (mark : ℕ) (s : State) (d : Database) (f : LinkFault) → LeavesBehind Here mark s d f → StopsBy a b f
left_stops a b Here mark s d (fault.SchemaDiffers name) is = absurd is
left_stops a b Here mark s d (fault.NotBehind behind ahead) is = absurd is
left_stops a b Here mark s d (fault.HistoryGone at ahm) is = absurd is
left_stops a b Here mark s d (fault.Differs table row) is = absurd is
left_stops a b Here mark s d (fault.Gap n) is = absurd is
left_stops a b Here mark s d (fault.TooMany n) is = absurd is
left_stops a b Here mark s d fault.NumbersSpent is = inr refl
left_stops a b Here mark s d fault.BehindDisk is = tt
left_stops a b Here mark s d fault.AheadDisk is = absurd is
left_stops a b Here mark s d (fault.Damaged name) is = absurd is
left_stops a b Here mark s d fault.Memory is = tt

-- the fault of one call is that of another
pub fault_is : {T U : Type 0} (f g : LinkFault) → IsErrOf {T = T} (Err f) g → IsErrOf {T = U} (Err f) g
fault_is {T} {U} f g is = ap err (ap fault_of is)
  where
    err : LinkFault → Result U LinkFault
    err h = Err h

    fault_of : Result T LinkFault → LinkFault
    fault_of (Ok b) = f
    fault_of (Err h) = h

-- a fault that isn't this one has no cause to name
pub not_caused : {T U : Type 0} (f g : LinkFault) (before now : ℕ) → before ≤ now → (IsErrOf {T = T} (Err f) g → ⊥) → HasCause {T = U} g before now (Err f)
not_caused {T} {U} f g before now le not = record { later = le; failed = λ is. absurd (not (fault_is {T = U} {U = T} f g is)) }

-- a call that comes behind another
pub caused_later : {T : Type 0} (f : LinkFault) (r : Result T LinkFault) (before mid now : ℕ) → before ≤ mid → HasCause f mid now r → HasCause f before now r
caused_later f r before mid now le cause = record { later = let later = cause.later in omega (arith, le, later); failed = λ is. let rose = cause.failed is in omega (arith, le, rose) }

-- ---- a database that has caught up

same_older : (a b : Database) (name : List ℕ) → IsSoundDatabase b → IsCaughtUp (later_mark a b) a b → IsOlderIn a b b.last name
same_older a b name sound caught = subst (SameBag (history (later_mark a b) name a)) (sym (whole_history (later_mark a b) name b sound)) (caught.rows name)

-- nothing is in the way of one that has caught up
pub nothing_left : (a b : Database) (f : LinkFault) → IsSoundDatabase b → IsCaughtUp (later_mark a b) a b → IsRefused a b b.last f → ⊥
nothing_left a b (fault.SchemaDiffers name) sound caught is = is.bad (caught.tables name)
nothing_left a b (fault.NotBehind behind ahead) sound caught (tables, before, first, second) = let same = caught.last in absurd (omega (arith, same, before))
nothing_left a b (fault.HistoryGone at ahm) sound caught (tables, before, gone, first, second) = let mark = sound.mark in absurd (omega (arith, mark, gone))
nothing_left a b (fault.Differs table row) sound caught (ahead, least, found) = least.bad (same_older a b table sound caught)
nothing_left a b (fault.Gap n) sound caught (ahead, older, least) = let later = least.later in let closed = least.closed in absurd (omega (arith, later, closed))
nothing_left a b (fault.TooMany n) sound caught (ahead, older, none, least) = let later = least.later in let closed = least.closed in absurd (omega (arith, later, closed))
nothing_left a b fault.NumbersSpent sound caught is = is
nothing_left a b fault.BehindDisk sound caught is = is
nothing_left a b fault.AheadDisk sound caught is = is
nothing_left a b (fault.Damaged name) sound caught is = is
nothing_left a b fault.Memory sound caught is = is
