-- What an event of the tables makes of a running store.
use Rattle.std.proofs.Common.{◌≡◌, ◌+◌, ◌*◌, ◌≤◌, inl, inr, ℕ, List, Option, Some, None, refl, sym, ◌∙◌, subst, arith}
use Rattle.std.specs.Prelude.{Result, Ok, Err, OnOk}
use Rattle.common_laws.specs.Maps.{Contents}
use Rattle.col_disk.specs.declared.disk.Disk.{Ghosts}
use Rattle.col_disk.proofs.Moving.{leaves_wider}
use Rattle.catalog_types.specs.declared.catalogue.Catalogue.{Catalogue}
use Rattle.db_model.specs.State.{State, Changes}
use Rattle.db_model.specs.Numbers.{most_drawn, IsDrawn}
use Rattle.db_model.specs.Sound.{IsSound}
use Rattle.store_commit.specs.Seen.{Seen, Stands}
use Rattle.store_commit.specs.Making.{ReopensToEither, Makes}
use Rattle.table_store.specs.Drawing.{FewContainers, DrawsOne}
use Rattle.alike_laws.specs.Reordered.{AreAlikeSessions}
use Rattle.table_jobs.specs.declared.work.Work.{Work}
use Rattle.store_core.specs.Running.{running, unworked, HasWork, IsState, Mover, Running}
use Rattle.store_core.specs.Events.{BeforeOrAfter, Does}

-- a state with other numbers of the storage
abbrev pub numbered : State → ℕ → ℕ → State
numbered s next parts = record s { next = next; parts = parts }

-- the numbers of a new catalogue, against those of a state
pub record Grown (state : State) (is : Seen) (parts : ℕ) : Type 0 where
  pub from : state.next ≤ is.catalogue.next
  pub upto : is.catalogue.next ≤ state.next + most_drawn state.parts
  pub few : FewContainers parts is.catalogue
  pub most : parts ≤ state.parts + 2

-- the sessions and the rest of a state that an event makes
pub record Beside (made : State) (others : List (List Changes)) (own : ℕ) (mover : Mover) : Type 0 where
  pub sessions : AreAlikeSessions others made.sessions
  pub current : made.current ≡ own
  pub asked : made.asked ≡ mover.asked
  pub busy : made.busy ≡ mover.busy
  pub free : mover.work ≡ None
  pub sound : (next parts : ℕ) → IsSound (numbered made next parts)

pub no_work : {D : Type 0} (disk : Ghosts D) (work : Option Work) (now : D) → work ≡ None → HasWork disk work now
no_work disk work now none = subst (λ (o : Option Work). HasWork disk o now) (sym none) tt

-- what is written stays while the files do
pub work_kept : {D : Type 0} (disk : Ghosts D) (work : Option Work) (old new : D) → disk.holds new ≡ disk.holds old → HasWork disk work old → HasWork disk work new
work_kept disk None old new same has = tt
work_kept disk (Some w) old new same has = λ m told. has m (sym same ∙ told)

made_state : {D : Type 0} (disk : Ghosts D) (now : D) (is : Seen) (others : List (List Changes)) (current : ℕ) (mover : Mover) (state made : State) (parts : ℕ) → Stands disk is now made.database → Grown state is parts → Beside made others current mover
    → (after : State) × IsDrawn state made after × IsState disk (running is others current mover) now after
made_state disk now is others current mover state made parts stands grown beside = (
  numbered made is.catalogue.next parts,
  record { same = refl; drawn = record { from = grown.from; to = grown.upto; parts = grown.most } },
  record {
    database = stands;
    sessions = beside.sessions;
    current = beside.current;
    asked = beside.asked;
    next = refl;
    busy = beside.busy;
    parts = grown.few;
    work = no_work disk mover.work now beside.free;
    sound = beside.sound is.catalogue.next parts;
  },
)

done_of : {D F : Type 0} (disk : Ghosts D) (now : D) (is : Seen) (others : List (List Changes)) (current : ℕ) (mover : Mover) (result : Result (Unit {0}) F) (state made : State) (parts : ℕ) → OnOk result (Stands disk is now made.database) → OnOk result (Grown state is parts)
    → Beside made others current mover → OnOk result ((after : State) × IsDrawn state made after × IsState disk (running is others current mover) now after)
done_of disk now is others current mover (Ok u) state made parts stands grown beside = made_state disk now is others current mover state made parts stands grown beside
done_of disk now is others current mover (Err f) state made parts stands grown beside = tt

-- the state as it was, but for the work
pub still : {D : Type 0} (disk : Ghosts D) (r : Running) (old new : D) (state : State) → IsState disk r old state → Stands disk r.seen new state.database → IsState disk (unworked r) new state
still disk r old new state here stands = record {
  database = stands;
  sessions = here.sessions;
  current = here.current;
  asked = here.asked;
  next = here.next;
  busy = here.busy;
  parts = here.parts;
  work = tt;
  sound = here.sound;
}

pub without_work : {D : Type 0} (disk : Ghosts D) (r : Running) (now : D) (state : State) → IsState disk r now state → IsState disk (unworked r) now state
without_work disk r now state here = still disk r now now state here here.database

-- an event over the state without its work is one over the state
pub behind_work : {D R F : Type 0} (disk : Ghosts D) {short : F} (was half is : Running) {old new : D} (result : Result R F) (state : State) (After : State → Type 0) → half ≡ unworked was → IsState disk was old state
    → (IsState disk half old state → Does disk short half is old new result state After) → Does disk short was is old new result state After
behind_work disk was half is {old} {new} result state After same here does =
    let there : IsState disk half old state = subst (λ (r : Running). IsState disk r old state) (sym same) (without_work disk was old state here) in
    let made = does there in
    record {
      done = made.done;
      undone = λ wants. subst (λ (r : Running). IsState disk (unworked r) new state) same (made.undone wants);
      any_moment = made.any_moment;
    }

pub drawn_does : {D F : Type 0} (disk : Ghosts D) (short : F) {old new : D} (was is : Seen) (sessions others : List (List Changes)) (current : ℕ) (mover after : Mover) (result : Result (Unit {0}) F) (state made : State) (parts : ℕ)
    → IsState disk (running was sessions current mover) old state → Makes disk short was is old new result state.database made.database → OnOk result (Grown state is parts) → Beside made others current after
    → Does disk short (running was sessions current mover) (running is others current after) old new result state (IsDrawn state made)
drawn_does disk short {old} {new} was is sessions others current mover after result state made parts here makes grown beside = record {
  done = done_of disk new is others current after result state made parts makes.done grown beside;
  undone = λ wants. still disk (running was sessions current mover) old new state here (makes.undone wants);
  any_moment = leaves_wider disk (λ x reopens. by x reopens) makes.any_moment;
}
  where
    by : (x : Contents) → ReopensToEither state.database made.database x → BeforeOrAfter state (IsDrawn state made) x
    by x (inl before) = inl before
    by x (inr later) = inr (
      numbered made state.next state.parts,
      record { same = refl; drawn = record { from = omega arith; to = omega arith; parts = omega arith } },
      later,
    )

abbrev fault_of : {R F : Type 0} → F → Result R F
fault_of f = Err f

-- of a fault nothing is said of the store as it is
pub does_failed : {D R F : Type 0} (disk : Ghosts D) (short : F) {old new : D} (was is other : Running) (f : F) (state : State) (After : State → Type 0) → Does disk short was is old new (fault_of {R = R} f) state After → Does disk short was other old new (fault_of {R = R} f) state After
does_failed {D} {R} disk short was is other f state After does = record { done = tt; undone = does.undone; any_moment = does.any_moment }

-- ---- numbers

one_drawn : (parts : ℕ) → 1 ≤ most_drawn parts
one_drawn parts = let least : 1 ≤ (parts + 3) * (parts + 3) = squares parts in omega (arith, least)
  where
    squares : (n : ℕ) → 1 ≤ (n + 3) * (n + 3)
    squares n = grind arith

pub grown_one : (state : State) (was is : Catalogue) (stores : List _) → state.next ≡ was.next → FewContainers state.parts was → DrawsOne was is → Grown state (record { catalogue = is; stores = stores }) state.parts
grown_one state was is stores next few draws =
    let now = draws.next in
    let more = one_drawn state.parts in
    record { from = omega (arith, now, next); upto = omega (arith, now, next, more); few = draws.few state.parts few; most = omega arith }
