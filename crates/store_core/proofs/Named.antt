-- Which file a fault names, over what the disk holds behind an event.
use Rattle.std.proofs.Common.{◌≡◌, List, ◌∙◌, sym, subst, inl}
use Rattle.std.specs.Prelude.{Option, Some, Result, Ok, Err, IfErr, OnErr}
use Rattle.std.specs.List.{Any}
use Rattle.common_laws.specs.Maps.{Contents}
use Rattle.col_disk.specs.declared.disk.Disk.{Ghosts}
use Rattle.col_disk.specs.declared.disk.StoreFault.{StoreFault}
use Rattle.col_disk.specs.declared.disk.StoreFault.TheVariants as store
use Rattle.stored_rows.specs.Stored.{Projected}
use Rattle.proj_store.specs.Reading.{BlamesRows}
use Rattle.store_commit.specs.Seen.{Seen}
use Rattle.table_store.specs.Faults.{BlamesEntry, BlamesHeld, BlamesParts, BlamesStored}
use Rattle.store_query.specs.Faults.{BlamesRead}
use Rattle.store_query.specs.declared.fault.SelectFault.{SelectFault}
use Rattle.store_query.specs.declared.fault.SelectFault.TheVariants as select
use Rattle.store_core.specs.Named.{NamesHeld, NamesRead}
use Rattle.store_core.specs.Running.{Running}

any_weaker : {X : Type 0} (P Q : X → Type 0) (xs : List X) → ((x : X) → P x → Q x) → Any P xs → Any Q xs
any_weaker P Q xs weak (k, x, lt, is, has) = (k, x, lt, is, weak x has)

-- a file of a container that holds no rows is one of those that are named
stored_held : (pss : List (List Projected)) (holds : Option Contents) (fault : StoreFault) → BlamesStored pss holds fault → BlamesHeld pss holds fault
stored_held pss holds (store.Damaged q) blames =
    any_weaker (λ ps. BlamesParts ps holds (store.Damaged q)) (λ ps. Any (λ p. BlamesEntry p.entry holds (store.Damaged q)) ps) pss
    (λ ps of. any_weaker (λ p. BlamesRows p.entry holds (store.Damaged q)) (λ p. BlamesEntry p.entry holds (store.Damaged q)) ps (λ p rows. inl rows) of) blames
stored_held pss holds store.Disk blames = tt
stored_held pss holds store.Memory blames = tt

-- a call that writes nothing
pub stored_named : {D : Type 0} (disk : Ghosts D) (is : Running) (old new : D) (fault : StoreFault) → disk.holds new ≡ disk.holds old → BlamesStored is.seen.stores (disk.holds old) fault → NamesHeld disk is new fault
stored_named disk is old new fault kept blames = λ m told. stored_held is.seen.stores (Some m) fault (subst (λ (h : Option Contents). BlamesStored is.seen.stores h fault) (sym kept ∙ told) blames)

pub read_named : {D : Type 0} (disk : Ghosts D) (is : Running) (old new : D) (fault : SelectFault) → disk.holds new ≡ disk.holds old → BlamesRead is.seen.stores (disk.holds old) fault → NamesRead disk is new fault
read_named disk is old new select.SumOutOfRange kept blames = tt
read_named disk is old new select.Disk kept blames = tt
read_named disk is old new (select.Damaged q) kept blames = stored_named disk is old new (store.Damaged q) kept blames
read_named disk is old new select.Memory kept blames = tt

-- where a fault left the tables as they were
pub still_held : {D : Type 0} (disk : Ghosts D) (was : Seen) (is : Running) (now : D) (fault : StoreFault) → ((m : Contents) → disk.holds now ≡ Some m → BlamesHeld was.stores (Some m) fault) → is.seen ≡ was → NamesHeld disk is now fault
still_held disk was is now fault named same = subst (λ (s : Seen). (m : Contents) → disk.holds now ≡ Some m → BlamesHeld s.stores (Some m) fault) (sym same) named

pub still_named : {D T : Type 0} (disk : Ghosts D) (was : Seen) (is : Running) (now : D) (result : Result T StoreFault)
    → IfErr result (λ fault. (m : Contents) → disk.holds now ≡ Some m → BlamesHeld was.stores (Some m) fault) → OnErr result (is.seen ≡ was) → IfErr result (NamesHeld disk is now)
still_named disk was is now (Ok done) named same = tt
still_named disk was is now (Err fault) named same = still_held disk was is now fault named same
