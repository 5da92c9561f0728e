-- How the three calls of a link bring a store up to another.
use Rattle.std.proofs.Common.{◌≡◌, ◌⊎◌, inl, inr, ℕ, sym, ◌∙◌, ap, arith, subst}
use Rattle.std.specs.Prelude.{max, Result, Ok, Err}
use Rattle.common_laws.specs.Maps.{Contents}
use Rattle.col_disk.specs.Moved.{ImageOf, Leaves, Moved, NoName}
use Rattle.col_disk.specs.declared.disk.Disk.{Ghosts}
use Rattle.col_disk.specs.declared.disk.StoreFault.TheVariants as store
use Rattle.col_disk.proofs.Moving.{leaves_join, leaves_wider}
use Rattle.db_model.specs.Database.{Database}
use Rattle.db_model.specs.Epochs.{cut, last_good}
use Rattle.db_model.specs.State.{State}
use Rattle.folder_model.specs.Reopening.{Reopens}
use Rattle.folder_model.proofs.Committing.{stands_reopens}
use Rattle.store_commit.specs.Making.{ReopensToEither}
use Rattle.table_store.proofs.Standing.{reads_only}
use Rattle.buddy_link.specs.Running.{Running, IsState}
use Rattle.catch_model.specs.Caught.{later_mark, IsCaughtUp}
use Rattle.catch_model.specs.Refused.{IsAccepted}
use Rattle.catch_model.specs.declared.fault.LinkFault.{LinkFault}
use Rattle.catch_model.specs.declared.fault.LinkFault.TheVariants as fault
use Rattle.buddy_link.specs.Linked.{Linked, Tells}
use Rattle.catch_files.specs.Parting.{IsShort}
use Rattle.buddy_link.specs.Linking.{Ends, GoesOn, IsReplayed, LeavesBehind, MayGoOn, MayReplay, ReopensBehindOrCaught}
use Rattle.buddy_run.specs.Ends.{brought, BringsUp, HasCaughtUp, HasStayed, IsOpened, ReopensEither, StandsRefused, StopsBy}
use Rattle.buddy_run.specs.declared.linking.Brought.{Brought}
use Rattle.buddy_run.proofs.Coming.{left_stops, nothing_left, short_stops}

-- ---- what a crash leaves

-- of a store that was only read
pub read_leaves : {D : Type 0} (disk : Ghosts D) {old new : D} (r : Running) (s : State) → IsState disk r old s → last_good s.database ≡ s.database.last → Moved disk NoName NoName old new
    → Leaves disk (λ x. Reopens x (cut s.database.last s.database)) old new
read_leaves disk {old} {new} r s here good moved =
    leaves_wider disk (λ x reopens. subst (λ (k : ℕ). Reopens x (cut k s.database)) good (either x reopens)) (reads_only disk r.seen r.seen store.Memory s.database s.database here.database moved).any_moment
  where
    either : (x : Contents) → ReopensToEither s.database s.database x → Reopens x (cut (last_good s.database) s.database)
    either x (inl before) = before
    either x (inr before) = before

caught_as : (mark : ℕ) (a b d : Database) → mark ≡ later_mark a b → IsCaughtUp mark d b → IsCaughtUp (later_mark a b) d b
caught_as mark a b d same caught = subst (λ (n : ℕ). IsCaughtUp n d b) same caught

-- of one that has caught up
pub replayed_leaves : {D : Type 0} (disk : Ghosts D) (now : D) (mark : ℕ) (r : Running) (s : State) (a b : Database) → mark ≡ later_mark a b → IsState disk r now s → IsReplayed mark b s → HasCaughtUp disk now a b
replayed_leaves disk now mark r s a b same here replayed = λ x is.
    (s.database, caught_as mark a b s.database same replayed.caught, subst (λ (k : ℕ). Reopens x (cut k s.database)) replayed.good (stands_reopens r.seen.catalogue r.seen.stores _ _ s.database here.database x is))

-- of the first replay
pub first_leaves : (mark : ℕ) (a : State) (b : Database) (x : Contents) → mark ≡ later_mark a.database b → ReopensBehindOrCaught mark a b x → ReopensEither a.database b x
first_leaves mark a b x same (inl before) = inl before
first_leaves mark a b x same (inr (new, caught, reopens)) = inr (new.database, caught_as mark a.database b new.database same caught, reopens)

-- of the second, which starts from a state that has caught up
pub second_leaves : (a mid : State) (b : Database) (x : Contents) → later_mark mid.database b ≡ later_mark a.database b → IsCaughtUp (later_mark a.database b) mid.database b
    → ReopensBehindOrCaught (later_mark mid.database b) mid b x → ReopensEither a.database b x
second_leaves a mid b x same caught (inl before) = inr (mid.database, caught, subst (λ (k : ℕ). Reopens x (cut k mid.database)) caught.last before)
second_leaves a mid b x same caught (inr (new, after, reopens)) = inr (new.database, caught_as (later_mark mid.database b) a.database b new.database same after, reopens)

-- ---- the first call

pub may_replay : (link : Linked) (a b : State) {D : Type 0} (disk : Ghosts D) (r : Running) (now : D) → IsState disk r now b → IsOpened a → IsAccepted a.database b.database a.database.last → Tells link a.database b.database
    → MayReplay link.mark link.e link.f link.tables a b.database
may_replay link a b disk r now there opened accepted tells = record {
  accepted = subst (IsAccepted a.database b.database) (sym tells.e) accepted;
  after_is = tells.e;
  last_is = tells.f;
  mark_is = tells.mark;
  told = tells.tables;
  sound = there.sound.database;
  idle = opened.idle;
  good = opened.good;
}

-- ---- the second

-- what a first replay made
pub record IsFirst (a b : State) (mid : State) : Type 0 where
  pub caught : IsCaughtUp (later_mark a.database b.database) mid.database b.database
  pub good : last_good mid.database ≡ b.database.last
  pub mark : later_mark mid.database b.database ≡ later_mark a.database b.database
  pub may : MayGoOn b.database.last mid

pub first_made : (mark : ℕ) (a b mid : State) → mark ≡ later_mark a.database b.database → IsReplayed mark b.database mid → mid.database.ahm ≡ a.database.ahm → IsFirst a b mid
first_made mark a b mid same replayed ahm = record {
  caught = caught_as mark a.database b.database mid.database same replayed.caught;
  good = replayed.good;
  mark = ap (λ (n : ℕ). max n b.database.ahm) ahm;
  may = record { last = replayed.caught.last; idle = replayed.idle; good = replayed.good ∙ sym replayed.caught.last };
}

-- ---- the third

abbrev pub done : ℕ → Result ℕ LinkFault
done n = Ok n

abbrev pub left : LinkFault → Result ℕ LinkFault
left f = Err f

abbrev brought_up : Brought → Result Brought LinkFault
brought_up b = Ok b

abbrev stopped : LinkFault → Result Brought LinkFault
stopped f = Err f

pub brings_done : {D : Type 0} (disk : Ghosts D) (now : D) (is : Running) (a b mid : State) (first second last : ℕ) → IsFirst a b mid → first ≡ a.database.last → second ≡ b.database.last
    → GoesOn disk b.database.last is now (done last) mid b.database → BringsUp disk now a.database b.database (brought_up (brought first second last))
brings_done disk now is a b mid first second last made one two goes =
    let (same, accepted, new, here, replayed, ahm) = goes.done in
    record {
      done = (
        ap (λ (n : ℕ). brought n second last) one ∙ (ap (λ (n : ℕ). brought a.database.last n last) two ∙ ap (brought a.database.last b.database.last) same),
        replayed_leaves disk now (later_mark mid.database b.database) is new a.database b.database made.mark here replayed,
      );
      stopped = tt;
      stands = tt;
    }

-- ---- what stands where it is refused

-- what a crash leaves at each moment, it leaves at last
pub image_leaves : {D : Type 0} (disk : Ghosts D) {P : Contents → Type 0} {old new : D} → Leaves disk P old new → (x : Contents) → ImageOf disk new x → P x
image_leaves disk {P} {old} {new} leaves x is = leaves.since_then x (disk.laws.reaches new (disk.clock old) (disk.clock new) x leaves.later (omega arith) is)

pub short_stands : {D : Type 0} (disk : Ghosts D) (now : D) (a b : Database) (f : LinkFault) → IsShort f → StandsRefused disk now a b f
short_stands disk now a b (fault.SchemaDiffers name) is = absurd is
short_stands disk now a b (fault.NotBehind behind ahead) is = absurd is
short_stands disk now a b (fault.HistoryGone at ahm) is = absurd is
short_stands disk now a b (fault.Differs table row) is = absurd is
short_stands disk now a b (fault.Gap n) is = absurd is
short_stands disk now a b (fault.TooMany n) is = absurd is
short_stands disk now a b fault.NumbersSpent is = absurd is
short_stands disk now a b fault.BehindDisk is = tt
short_stands disk now a b fault.AheadDisk is = tt
short_stands disk now a b (fault.Damaged name) is = tt
short_stands disk now a b fault.Memory is = tt

-- before anything is committed
pub stayed_stands : {D : Type 0} (disk : Ghosts D) (now : D) (a b : Database) (f : LinkFault) → HasStayed disk now a → StandsRefused disk now a b f
stayed_stands disk now a b (fault.SchemaDiffers name) stayed = stayed
stayed_stands disk now a b (fault.NotBehind behind ahead) stayed = stayed
stayed_stands disk now a b (fault.HistoryGone at ahm) stayed = stayed
stayed_stands disk now a b (fault.Differs table row) stayed = stayed
stayed_stands disk now a b (fault.Gap n) stayed = stayed
stayed_stands disk now a b (fault.TooMany n) stayed = stayed
stayed_stands disk now a b fault.NumbersSpent stayed = λ x is. inl (stayed x is)
stayed_stands disk now a b fault.BehindDisk stayed = tt
stayed_stands disk now a b fault.AheadDisk stayed = tt
stayed_stands disk now a b (fault.Damaged name) stayed = tt
stayed_stands disk now a b fault.Memory stayed = tt

-- behind a replay that stopped
pub left_stands : {D : Type 0} (disk : Ghosts D) {old now : D} (a b : Database) (Here : State → Type 0) (mark : ℕ) (s : State) (d : Database) (f : LinkFault) → LeavesBehind Here mark s d f → Leaves disk (ReopensEither a b) old now → StandsRefused disk now a b f
left_stands disk {old} {now} a b Here mark s d (fault.SchemaDiffers name) is leaves = absurd is
left_stands disk {old} {now} a b Here mark s d (fault.NotBehind behind ahead) is leaves = absurd is
left_stands disk {old} {now} a b Here mark s d (fault.HistoryGone at ahm) is leaves = absurd is
left_stands disk {old} {now} a b Here mark s d (fault.Differs table row) is leaves = absurd is
left_stands disk {old} {now} a b Here mark s d (fault.Gap n) is leaves = absurd is
left_stands disk {old} {now} a b Here mark s d (fault.TooMany n) is leaves = absurd is
left_stands disk {old} {now} a b Here mark s d fault.NumbersSpent is leaves = image_leaves disk leaves
left_stands disk {old} {now} a b Here mark s d fault.BehindDisk is leaves = tt
left_stands disk {old} {now} a b Here mark s d fault.AheadDisk is leaves = tt
left_stands disk {old} {now} a b Here mark s d (fault.Damaged name) is leaves = tt
left_stands disk {old} {now} a b Here mark s d fault.Memory is leaves = tt

pub first_stands : {D : Type 0} (disk : Ghosts D) {old now : D} (r : Running) (a : State) (b : Database) (f : LinkFault) → IsState disk r old a → IsOpened a → Moved disk NoName NoName old now → StandsRefused disk now a.database b f
first_stands disk {old} {now} r a b f here opened moved = stayed_stands disk now a.database b f (image_leaves disk (read_leaves disk r a here opened.good moved))

pub brings_stopped : {D : Type 0} (disk : Ghosts D) {old : D} (now : D) (is : Running) (a b mid : State) (f : LinkFault) → IsFirst a b mid → {E : Type 0} (ahead : Ghosts E) (r : Running) (at : E) → IsState ahead r at b
    → Leaves disk (ReopensEither a.database b.database) old now → GoesOn disk b.database.last is now (left f) mid b.database → BringsUp disk now a.database b.database (stopped f)
brings_stopped disk {old} now is a b mid f made ahead r at there leaves goes = record { done = tt; stopped = by goes.left; stands = stands goes.left }
  where
    stands : (Ends mid.database b.database b.database.last f × IsState disk is now mid) ⊎ LeavesBehind (IsState disk is now) (later_mark mid.database b.database) mid b.database f → StandsRefused disk now a.database b.database f
    stands (inl (inl refused, here)) = absurd (nothing_left mid.database b.database f there.sound.database (subst (λ (n : ℕ). IsCaughtUp n mid.database b.database) (sym made.mark) made.caught) refused)
    stands (inl (inr short, here)) = short_stands disk now a.database b.database f short
    stands (inr left) = left_stands disk a.database b.database (IsState disk is now) (later_mark mid.database b.database) mid b.database f left leaves

    ended : Ends mid.database b.database b.database.last f → StopsBy a.database b.database f
    ended (inl refused) = absurd (nothing_left mid.database b.database f there.sound.database (subst (λ (n : ℕ). IsCaughtUp n mid.database b.database) (sym made.mark) made.caught) refused)
    ended (inr short) = short_stops a.database b.database f short

    by : (Ends mid.database b.database b.database.last f × IsState disk is now mid) ⊎ LeavesBehind (IsState disk is now) (later_mark mid.database b.database) mid b.database f → StopsBy a.database b.database f
    by (inl (ends, here)) = ended ends
    by (inr left) = left_stops a.database b.database (IsState disk is now) (later_mark mid.database b.database) mid b.database f left

-- ---- what a crash leaves at any moment

-- of the first call
pub moment_first : {D : Type 0} (disk : Ghosts D) {old mid : D} (r : Running) (a : State) (b : Database) → IsState disk r old a → IsOpened a → Moved disk NoName NoName old mid → Leaves disk (ReopensEither a.database b) old mid
moment_first disk r a b here opened moved = leaves_wider disk (λ x reopens. inl reopens) (read_leaves disk r a here opened.good moved)

-- of the second
pub moment_second : {D : Type 0} (disk : Ghosts D) {old mid new : D} (mark : ℕ) (r : Running) (a : State) (b : Database) → mark ≡ later_mark a.database b → IsState disk r old a → IsOpened a → Moved disk NoName NoName old mid
    → Leaves disk (ReopensBehindOrCaught mark a b) mid new → Leaves disk (ReopensEither a.database b) old new
moment_second disk {old} {mid} {new} mark r a b same here opened moved leaves =
    leaves_join disk {mid = mid} (moment_first disk r a b here opened moved) (leaves_wider disk (λ x reopens. first_leaves mark a b x same reopens) leaves)

-- of the third
pub moment_third : {D : Type 0} (disk : Ghosts D) {old mid new : D} (a b mid_state : State) → IsFirst a b mid_state → Leaves disk (ReopensEither a.database b.database) old mid
    → Leaves disk (ReopensBehindOrCaught (later_mark mid_state.database b.database) mid_state b.database) mid new → Leaves disk (ReopensEither a.database b.database) old new
moment_third disk {old} {mid} {new} a b mid_state made before leaves =
    leaves_join disk {mid = mid} before (leaves_wider disk (λ x reopens. second_leaves a mid_state b.database x made.mark made.caught reopens) leaves)
