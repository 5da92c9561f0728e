-- Jobs of a statement one after the other, over a running store.
use Rattle.std.proofs.Common.{◌≡◌, ◌<◌, ◌≤◌, ◌+◌, ◌*◌, inl, inr, ℕ, zero, suc, Bool, true, false, refl, sym, ◌∙◌, ap, subst, arith}
use Rattle.std.specs.Prelude.{nat_le, Result, Ok, Err, IsErrOf}
use Rattle.std.proofs.Math.Nat.{le-mul_of_pos_right}
use Rattle.common_laws.specs.Maps.{Contents}
use Rattle.col_disk.specs.Faults.{IsUnblamed}
use Rattle.col_disk.specs.Moved.{Leaves}
use Rattle.col_disk.specs.declared.disk.Disk.{Ghosts}
use Rattle.col_disk.specs.declared.disk.StoreFault.{StoreFault}
use Rattle.col_disk.specs.declared.disk.StoreFault.TheVariants as fault
use Rattle.col_disk.proofs.Moving.{leaves_join, leaves_wider, moved_none}
use Rattle.catalog_types.specs.declared.catalogue.Catalogue.{Catalogue}
use Rattle.db_model.specs.Mover.{given_up, Jobs}
use Rattle.db_model.specs.Numbers.{are_spent, most_drawn, DrawsWithin, IsDrawn}
use Rattle.db_model.specs.State.{State}
use Rattle.store_commit.specs.Making.{ReopensToEither, Makes}
use Rattle.table_store.specs.Drawing.{FewContainers}
use Rattle.table_store.proofs.Standing.{reads_only}
use Rattle.store_core.specs.Events.{BeforeOrAfter, Does, ReopensTo}
use Rattle.store_core.specs.Jobs.{JobsOf}
use Rattle.store_core.specs.Running.{Running, IsState, unworked}
use Rattle.store_core.proofs.Events.{renumbered}

-- ---- a chain of jobs

-- one more
pub chained : (Job : State → State → Type 0) (n : ℕ) (a b c : State) → Jobs Job n a false b → are_spent b ≡ false → Job b c → Jobs Job (suc n) a false c
chained Job zero a b c (is, same) room job = subst (λ (x : State). Jobs Job 1 x false c) same (inr (room, c, job, (refl, refl)))
chained Job (suc n) a b c (inl (spent, stopped, same)) room job = absurd (cc)
chained Job (suc n) a b c (inr (free, mid, one, rest)) room job = inr (free, mid, one, chained Job n mid b c rest room job)

-- where the numbers are spent before all were done, the rest isn't
pub stopped_at : (Job : State → State → Type 0) (n i : ℕ) (a b : State) → i < n → Jobs Job i a false b → are_spent b ≡ true → Jobs Job n a true b
stopped_at Job zero i a b lt jobs spent = absurd (omega (arith, lt))
stopped_at Job (suc n) zero a b lt (is, same) spent = inl (ap are_spent (sym same) ∙ spent, refl, same)
stopped_at Job (suc n) (suc i) a b lt (inl (gone, stopped, same)) spent = absurd (cc)
stopped_at Job (suc n) (suc i) a b lt (inr (free, mid, one, rest)) spent = inr (free, mid, one, stopped_at Job n i mid b (omega (arith, lt)) rest spent)

-- an event with another bound of the containers
pub drawn_with : (old made new : State) (parts : ℕ) → parts ≤ old.parts + 2 → IsDrawn old made new → IsDrawn old made (record new { parts = parts })
drawn_with old made new parts most drawn = record {
  same = ap (λ (x : State). with_parts x) drawn.same;
  drawn = record { from = drawn.drawn.from; to = drawn.drawn.to; parts = most };
}
  where
    with_parts : State → State
    with_parts x = record x { parts = parts }

-- by how much the next number rises in one of these jobs, where no projection had more containers than so many
abbrev pub rise_of : ℕ → ℕ
rise_of parts = (parts + 4) * 131 + 1

-- So many jobs of a statement were done, after which this is kept.
pub record WorkedTo {D : Type 0} (disk : Ghosts D) (Job : State → State → Type 0) (Kept : ℕ → State → Type 0) (Leave : Contents → Type 0) (start : State) (jobs : ℕ) (r : Running) (old now : D) : Type 0 where
  pub mid : State
  pub here : IsState disk r now mid
  pub done : Jobs Job jobs (given_up start) false mid
  pub kept : Kept jobs mid
  pub from : start.next ≤ r.seen.catalogue.next
  pub upto : r.seen.catalogue.next ≤ start.next + jobs * rise_of start.parts
  pub least : start.parts ≤ mid.parts
  pub most : mid.parts ≤ start.parts + 2
  pub any_moment : Leaves disk Leave old now

-- what the jobs leave reopens to what is kept of a crash
abbrev pub Leaving : (State → State → Type 0) → (ℕ → State → Type 0) → (Contents → Type 0) → State → Type 0
Leaving Job Kept Leave start = (jobs : ℕ) (mid : State) (x : Contents) → Jobs Job jobs (given_up start) false mid → Kept jobs mid → ReopensTo mid x → Leave x

-- an event of the store is a job of the statement, and leaves what is to be kept
pub record Turns {D : Type 0} (disk : Ghosts D) (was : Running) (now : D) (Job At : State → State → Type 0) (Kept : ℕ → State → Type 0) (jobs : ℕ) : Type 0 where
  pub wide : (old new : State) (parts : ℕ) → parts ≤ old.parts + 2 → At old new → At old (record new { parts = parts })
  pub turns : (old new : State) → IsState disk was now old → Kept jobs old → At old new → Job old new × Kept (suc jobs) new

abbrev short_of : Result (Unit {0}) StoreFault
short_of = Err fault.Memory

abbrev pub unit_ok : Result (Unit {0}) StoreFault
unit_ok = Ok tt

abbrev pub unit_fault : StoreFault → Result (Unit {0}) StoreFault
unit_fault f = Err f

abbrev pub failed : StoreFault → Result Bool StoreFault
failed f = Err f

abbrev pub answered : Bool → Result Bool StoreFault
answered b = Ok b

pub worked_begins : {D : Type 0} (disk : Ghosts D) (Job : State → State → Type 0) (Kept : ℕ → State → Type 0) (Leave : Contents → Type 0) (r : Running) (now : D) (start : State) → IsState disk r now (given_up start) → Kept 0 (given_up start) → Leaving Job Kept Leave start
    → WorkedTo disk Job Kept Leave start 0 r now now
worked_begins {D} disk Job Kept Leave r now start here kept leaving = record {
  mid = given_up start;
  here = here;
  done = none;
  kept = kept;
  from = omega (arith, here.next);
  upto = omega (arith, here.next);
  least = omega arith;
  most = omega arith;
  any_moment = leaves_wider disk (λ x reopens. leaving 0 (given_up start) x none kept (either x reopens)) quiet.any_moment;
}
  where
    none : Jobs Job 0 (given_up start) false (given_up start)
    none = (refl, refl)

    quiet : Makes disk fault.Memory r.seen r.seen now now short_of start.database start.database
    quiet = reads_only disk r.seen r.seen fault.Memory start.database start.database here.database (moved_none disk now)

    either : (x : Contents) → ReopensToEither start.database start.database x → ReopensTo (given_up start) x
    either x (inl before) = before
    either x (inr before) = before

pub spent_same : {D : Type 0} (disk : Ghosts D) (r : Running) (now : D) (state : State) (b : Bool) → IsState disk r now state → b ≡ nat_le 1152921504606846976 r.seen.catalogue.next → are_spent state ≡ b
spent_same disk r now state b here is = ap (nat_le 1152921504606846976) here.next ∙ sym is

-- whatever a crash leaves of one job more
one_leaves : {D : Type 0} (disk : Ghosts D) (Job At : State → State → Type 0) (Kept : ℕ → State → Type 0) (Leave : Contents → Type 0) {old now : D} (start : State) (jobs : ℕ) (was : Running) → (chain : WorkedTo disk Job Kept Leave start jobs was old now)
    → are_spent chain.mid ≡ false → Turns disk was now Job At Kept jobs → Leaving Job Kept Leave start → (x : Contents) → BeforeOrAfter chain.mid (At chain.mid) x → Leave x
one_leaves disk Job At Kept Leave start jobs was chain room turns leaving x (inl before) = leaving jobs chain.mid x chain.done chain.kept before
one_leaves disk Job At Kept Leave start jobs was chain room turns leaving x (inr (new, at, after)) =
    let (job, kept) = turns.turns chain.mid new chain.here chain.kept at in
    leaving (suc jobs) new x (chained Job jobs (given_up start) chain.mid new chain.done room job) kept after

-- the numbers of one job
pub record Steps (parts : ℕ) (old new : Catalogue) : Type 0 where
  pub from : old.next ≤ new.next
  pub upto : new.next ≤ old.next + rise_of parts

pub worked_more : {D : Type 0} (disk : Ghosts D) (Job At : State → State → Type 0) (Kept : ℕ → State → Type 0) (Leave : Contents → Type 0) {old now new : D} (start : State) (jobs : ℕ) (was is : Running) (spent : Bool) → WorkedTo disk Job Kept Leave start jobs was old now
    → spent ≡ nat_le 1152921504606846976 was.seen.catalogue.next → spent ≡ false → Turns disk was now Job At Kept jobs → Leaving Job Kept Leave start
    → ((state : State) → IsState disk was now state → Does disk fault.Memory was is now new unit_ok state (At state)) → Steps start.parts was.seen.catalogue is.seen.catalogue → FewContainers (start.parts + 2) is.seen.catalogue
    → WorkedTo disk Job Kept Leave start (suc jobs) is old new
worked_more {D} disk Job At Kept Leave {old} {now} {new} start jobs was is spent chain spent_is free turns leaving does step few =
    let mid = chain.mid in
    let first = does mid chain.here in
    let after : State = first.done.0 in
    let there : IsState disk is new after = first.done.2 in
    let made : State = record after { parts = start.parts + 2 } in
    let room : are_spent mid ≡ false = spent_same disk was now mid spent chain.here spent_is ∙ free in
    let at : At mid made = turns.wide mid after (start.parts + 2) (least_two start.parts mid.parts chain.least) first.done.1 in
    let (job, kept) = turns.turns mid made chain.here chain.kept at in
    record {
      mid = made;
      here = record {
        database = there.database;
        sessions = there.sessions;
        current = there.current;
        asked = there.asked;
        next = there.next;
        busy = there.busy;
        parts = few;
        work = there.work;
        sound = renumbered after there.sound after.next (start.parts + 2);
      };
      done = chained Job jobs (given_up start) mid made chain.done room job;
      kept = kept;
      from = from_still start.next was.seen.catalogue.next is.seen.catalogue.next chain.from step.from;
      upto = upto_still start.next was.seen.catalogue.next is.seen.catalogue.next jobs (rise_of start.parts) chain.upto step.upto;
      least = omega arith;
      most = omega arith;
      any_moment = leaves_join disk chain.any_moment (leaves_wider disk (one_leaves disk Job At Kept Leave start jobs was chain room turns leaving) first.any_moment);
    }
  where
    least_two : (a b : ℕ) → a ≤ b → a + 2 ≤ b + 2
    least_two a b le = omega (arith, le)

    from_still : (a b c : ℕ) → a ≤ b → b ≤ c → a ≤ c
    from_still a b c one two = omega (arith, one, two)

    more_jobs : (n rise : ℕ) → n * rise + rise ≡ suc n * rise
    more_jobs n rise = grind arith

    upto_still : (a b c n rise : ℕ) → b ≤ a + n * rise → c ≤ b + rise → c ≤ a + suc n * rise
    upto_still a b c n rise one two = let same = more_jobs n rise in subst (λ (k : ℕ). c ≤ a + k) same (within (n * rise) one)
      where
        within : (k : ℕ) → b ≤ a + k → c ≤ a + (k + rise)
        within k upto = omega (arith, upto, two)

-- ---- the end of a chain

pub worked_draws : {D : Type 0} (disk : Ghosts D) (Job : State → State → Type 0) (Kept : ℕ → State → Type 0) (Leave : Contents → Type 0) {old now : D} (start : State) (jobs : ℕ) (r : Running) → jobs * rise_of start.parts ≤ most_drawn start.parts
    → (chain : WorkedTo disk Job Kept Leave start jobs r old now) → DrawsWithin start chain.mid
worked_draws disk Job Kept Leave start jobs r most chain =
    let next = chain.here.next in
    let above = chain.most in
    record {
      from = subst (λ (n : ℕ). start.next ≤ n) (sym next) chain.from;
      to = subst (λ (n : ℕ). n ≤ start.next + most_drawn start.parts) (sym next) (within r.seen.catalogue.next (jobs * rise_of start.parts) (most_drawn start.parts) chain.upto most);
      parts = omega (arith, above);
    }
  where
    within : (n k m : ℕ) → n ≤ start.next + k → k ≤ m → n ≤ start.next + m
    within n k m upto le = omega (arith, upto, le)

pub worked_ends : {D : Type 0} (disk : Ghosts D) (Job : State → State → Type 0) (All : Bool → State → Type 0) (Kept : ℕ → State → Type 0) (Leave : Contents → Type 0) {old now : D} (start : State) (jobs : ℕ) (r : Running) (stopped : Bool)
    → (chain : WorkedTo disk Job Kept Leave start jobs r old now) → All stopped chain.mid → JobsOf disk Job All Leave r old now (answered stopped) start
worked_ends disk Job All Kept Leave start jobs r stopped chain all = record { done = (chain.mid, all, chain.here); undone = λ wants. absurd (cc); unblamed = tt; any_moment = chain.any_moment }

-- memory was short behind them
pub worked_short : {D : Type 0} (disk : Ghosts D) (Job : State → State → Type 0) (All : Bool → State → Type 0) (Kept : ℕ → State → Type 0) (Leave : Contents → Type 0) {old now : D} (start : State) (jobs : ℕ) (r : Running)
    → WorkedTo disk Job Kept Leave start jobs r old now → JobsOf disk Job All Leave r old now (Err fault.Memory) start
worked_short disk Job All Kept Leave start jobs r chain = record { done = tt; undone = λ wants. (chain.mid, (jobs, chain.done), chain.here); unblamed = tt; any_moment = chain.any_moment }

-- a job failed
pub worked_fails : {D : Type 0} (disk : Ghosts D) (Job At : State → State → Type 0) (All : Bool → State → Type 0) (Kept : ℕ → State → Type 0) (Leave : Contents → Type 0) {old now new : D} (start : State) (jobs : ℕ) (was is : Running) (spent : Bool) (f : StoreFault)
    → WorkedTo disk Job Kept Leave start jobs was old now → spent ≡ nat_le 1152921504606846976 was.seen.catalogue.next → spent ≡ false → Turns disk was now Job At Kept jobs → Leaving Job Kept Leave start
    → ((state : State) → IsState disk was now state → Does disk fault.Memory was is now new (unit_fault f) state (At state)) → ((state : State) → IsState disk was now state → IsUnblamed f) → is ≡ unworked was → JobsOf disk Job All Leave is old new (failed f) start
worked_fails disk Job At All Kept Leave {old} {now} {new} start jobs was is spent f chain spent_is free turns leaving does unblamed same =
    let first = does chain.mid chain.here in
    let room : are_spent chain.mid ≡ false = spent_same disk was now chain.mid spent chain.here spent_is ∙ free in
    record {
      done = tt;
      undone = λ wants. (chain.mid, (jobs, chain.done), subst (λ (r : Running). IsState disk r new chain.mid) (sym same) (first.undone (short f wants)));
      unblamed = unblamed chain.mid chain.here;
      any_moment = leaves_join disk chain.any_moment (leaves_wider disk (one_leaves disk Job At Kept Leave start jobs was chain room turns leaving) first.any_moment);
    }
  where
    short : (g : StoreFault) → IsErrOf (failed g) fault.Memory → IsErrOf (unit_fault g) fault.Memory
    short g wants = let same : g ≡ fault.Memory = cc in ap unit_fault same

-- ---- how many numbers they draw

-- the jobs over the projections of one table
pub few_sixteen : (jobs parts : ℕ) → jobs ≤ 16 → jobs * rise_of parts ≤ most_drawn parts
few_sixteen jobs parts most =
    let square : parts + 3 ≤ (parts + 3) * (parts + 3) = le-mul_of_pos_right {m = parts + 3} (parts + 3) (omega arith) in
    within (jobs * rise_of parts) ((parts + 3) * (parts + 3)) (times jobs 16 (rise_of parts) most) square
  where
    times : (a b c : ℕ) → a ≤ b → a * c ≤ b * c
    times a b c le = grind (arith, le)

    within : (k s : ℕ) → k ≤ 16 * rise_of parts → parts + 3 ≤ s → k ≤ 4194304 * s
    within k s one two = omega (arith, one, two)

-- merges, each of which leaves two containers less
pub few_merges : (jobs parts : ℕ) → jobs ≤ 8192 * parts → jobs * rise_of parts ≤ most_drawn parts
few_merges jobs parts most =
    within (jobs * rise_of parts) (8192 * parts * rise_of parts) (parts * parts) ((parts + 3) * (parts + 3)) (times jobs (8192 * parts) (rise_of parts) most) (spread parts) (square parts)
  where
    times : (a b c : ℕ) → a ≤ b → a * c ≤ b * c
    times a b c le = grind (arith, le)

    spread : (p : ℕ) → 8192 * p * rise_of p ≡ 1073152 * (p * p) + 4300800 * p
    spread p = grind arith

    square : (p : ℕ) → (p + 3) * (p + 3) ≡ p * p + 6 * p + 9
    square p = grind arith

    within : (k m q s : ℕ) → k ≤ m → m ≡ 1073152 * q + 4300800 * parts → s ≡ q + 6 * parts + 9 → k ≤ 4194304 * s
    within k m q s one two three = omega (arith, one, two, three)
