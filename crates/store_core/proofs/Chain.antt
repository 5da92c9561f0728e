-- A moveout of all projections that are behind, over a running store: by its jobs, one after the other.
use Rattle.std.proofs.Common.{◌≡◌, ◌≤◌, ◌+◌, ◌*◌, inl, inr, ℕ, zero, suc, Bool, true, false, List, [], length, refl, sym, ◌∙◌, ap, subst, arith}
use Rattle.std.specs.Prelude.{is_some, Result, Ok, Err, IsErrOf, Option, Some, None}
use Rattle.std.specs.List.{All}
use Rattle.std.proofs.Math.Nat.{le-mul_of_pos_right}
use Rattle.common_laws.specs.Maps.{Contents}
use Rattle.col_disk.specs.declared.disk.Disk.{Ghosts}
use Rattle.col_disk.specs.declared.disk.StoreFault.{StoreFault}
use Rattle.col_disk.specs.declared.disk.StoreFault.TheVariants as fault
use Rattle.col_disk.proofs.Moving.{leaves_wider, moved_none}
use Rattle.alike_laws.specs.Reordered.{AreAlikeSessions}
use Rattle.db_model.specs.Database.{Database, Shape}
use Rattle.db_model.specs.Epochs.{cut, last_good}
use Rattle.db_model.specs.Mover.{behind, first_behind, given_up, moved_one, MovesAll, MovesFirst, MovesOut}
use Rattle.db_model.specs.Numbers.{are_spent, most_drawn, IsDrawn}
use Rattle.db_model.specs.Sound.{IsSound, IsSoundDatabase}
use Rattle.db_model.specs.State.{Changes, State}
use Rattle.db_laws.proofs.Goods.{IsGood, good_itself, good_least}
use Rattle.folder_model.specs.Reopening.{Reopens}
use Rattle.mover_policy.specs.First.{all_projections, behind_in, first_in}
use Rattle.mover_policy.proofs.Shapes.{behind_are}
use Rattle.state_laws.proofs.Reached.{all_moved, busy_state}
use Rattle.store_commit.specs.Making.{ReopensToEither, Makes}
use Rattle.store_commit.specs.Seen.{Seen, Stands}
use Rattle.col_disk.specs.Faults.{IsUnblamed}
use Rattle.table_store.specs.Draining.{all_caught_up, DrawsMany}
use Rattle.table_store.specs.Drawing.{FewContainers}
use Rattle.table_store.proofs.Counted.{no_length, none_left, rest_moved}
use Rattle.table_store.proofs.Standing.{reads_only}
use Rattle.store_core.proofs.Doing.{no_work}
use Rattle.store_core.specs.Cuts.{ReopensFrom}
use Rattle.store_core.specs.Moving.{MovesAllOf, ReopensMoved}
use Rattle.store_core.specs.Running.{running, IsState, Mover, Running}
use Rattle.store_core.proofs.Placed.{MovedAt, count_moved, cut_moved, first_moved, good_moved, moved_last, none_behind, sound_moved}
use Rattle.store_core.proofs.Small.{behind_most}

-- ---- what is left of a state

-- a database with the same rows as that of a state: each cut of it is the state's, and no projection has less on disk
pub record Still (start : State) (d : Database) : Type 0 where
  pub cuts : (epoch : ℕ) → cut epoch d ≡ cut epoch start.database
  pub last : d.last ≡ start.database.last
  pub good : IsGood (last_good start.database) d
  pub sound : IsSoundDatabase d

pub still_itself : (start : State) → IsSoundDatabase start.database → Still start start.database
still_itself start sound = record { cuts = λ epoch. refl; last = refl; good = good_itself start.database sound; sound = sound }

still_moved : (start : State) (d e : Database) → MovedAt d e → Still start d → Still start e
still_moved start d e moved still = record {
  cuts = λ epoch. cut_moved epoch d e moved ∙ still.cuts epoch;
  last = moved_last d e moved ∙ still.last;
  good = good_moved (last_good start.database) d e moved still.good;
  sound = sound_moved d e moved still.sound;
}

pub reopens_still : (start : State) (d : Database) (x : Contents) → Still start d → Reopens x (cut (last_good d) d) → ReopensFrom (last_good start.database) start x
reopens_still start d x still reopens = record {
  epoch = last_good d;
  from = good_least (last_good start.database) d still.good;
  closed = subst (λ (n : ℕ). last_good d ≤ n) still.last (good_itself d still.sound).closed;
  reopens = subst (Reopens x) (still.cuts (last_good d)) reopens;
}

few_numbers : (next start jobs parts : ℕ) → jobs ≤ 16384 → next ≤ start + jobs * (parts + 132) → next ≤ start + most_drawn parts
few_numbers next start jobs parts most upto =
    let all : jobs * (parts + 132) ≤ 16384 * (parts + 132) = times jobs 16384 (parts + 132) most in
    let square : parts + 3 ≤ (parts + 3) * (parts + 3) = le-mul_of_pos_right {m = parts + 3} (parts + 3) (omega arith) in
    within (jobs * (parts + 132)) ((parts + 3) * (parts + 3)) upto all square
  where
    times : (a b c : ℕ) → a ≤ b → a * c ≤ b * c
    times a b c le = grind (arith, le)

    within : (k s : ℕ) → next ≤ start + k → k ≤ 16384 * (parts + 132) → parts + 3 ≤ s → next ≤ start + 4194304 * s
    within k s rise one two = omega (arith, rise, one, two)

-- ---- all moveouts, as if one followed the other

rest_of : (d e : Database) → MovedAt d e → all_caught_up e ≡ all_caught_up d
rest_of d e moved = ap all_caught_up moved.is ∙ rest_moved d moved.table moved.place moved.shape moved.there moved.behind

first_is : (a : State) (n : ℕ) → length (behind a.database) ≡ suc n → (s : Shape) × (first_behind a.database ≡ Some s)
first_is a n count = by (first_behind a.database) refl
  where
    by : (o : Option Shape) → first_behind a.database ≡ o → (s : Shape) × (first_behind a.database ≡ Some s)
    by None none = let empty : length (behind a.database) ≡ 0 = ap length (none_behind (behind a.database) none) in absurd (omega (arith, count, empty))
    by (Some s) first = (s, first)

-- a moveout that draws nothing
undrawn : (a : State) (s : Shape) → IsDrawn a (moved_one s a) (moved_one s a)
undrawn a s = record { same = refl; drawn = record { from = omega arith; to = omega arith; parts = omega arith } }

moved_first : (a : State) (s : Shape) → IsSoundDatabase a.database → first_behind a.database ≡ Some s → MovedAt a.database (moved_one s a).database
moved_first a s sound first = first_moved (Some s) a (moved_one s a) sound first (undrawn a s)

-- the state behind them all
abbrev pub ended : State → ℕ → ℕ → Database → State
ended a next parts d = record a { database = d; next = next; parts = parts }

-- So many projections that are behind are moved out, one after the other; the last moveout draws the numbers of all.
pub record AllMoved (start a : State) (next parts jobs : ℕ) : Type 0 where
  pub moves : MovesOut jobs a false (ended a next parts (all_caught_up a.database))
  pub still : Still start (all_caught_up a.database)

pub all_one_by_one : (n : ℕ) (start a : State) (next parts : ℕ) → length (behind a.database) ≡ suc n → Still start a.database → are_spent a ≡ false → a.next ≤ next → next ≤ a.next + most_drawn a.parts → parts ≤ a.parts + 2
    → AllMoved start a next parts (suc n)
all_one_by_one zero start a next parts count still room from upto few =
    let (s, first) = first_is a 0 count in
    let one : State = moved_one s a in
    let at = moved_first a s still.sound first in
    let gone = count_moved a.database one.database at in
    let none : behind one.database ≡ [] = no_length (behind one.database) (omega (arith, gone, count)) in
    let same : one.database ≡ all_caught_up a.database = sym (none_left one.database none) ∙ rest_of a.database one.database at in
    let made : IsDrawn a one (ended a next parts one.database) = record { same = refl; drawn = record { from = from; to = upto; parts = few } } in
    record {
      moves =
          subst (λ (d : Database). MovesOut 1 a false (ended a next parts d)) same
          (inr (room, ended a next parts one.database, subst (λ (o : Option Shape). MovesFirst o a (ended a next parts one.database)) (sym first) made, (refl, refl)));
      still = subst (Still start) same (still_moved start a.database one.database at still);
    }
all_one_by_one (suc n) start a next parts count still room from upto few =
    let (s, first) = first_is a (suc n) count in
    let one : State = moved_one s a in
    let at = moved_first a s still.sound first in
    let gone = count_moved a.database one.database at in
    let rest = all_one_by_one n start one next parts (omega (arith, gone, count)) (still_moved start a.database one.database at still) room from upto few in
    let same = rest_of a.database one.database at in
    record {
      moves =
          inr (room, one, subst (λ (o : Option Shape). MovesFirst o a one) (sym first) (undrawn a s), subst (λ (d : Database). MovesOut (suc n) one false (ended a next parts d)) same rest.moves);
      still = subst (Still start) same rest.still;
    }

-- ---- over a running store

abbrev pub none_ok : Result Bool StoreFault
none_ok = Ok false

abbrev pub failed : StoreFault → Result Bool StoreFault
failed f = Err f

abbrev pub answered : Bool → Result Bool StoreFault
answered b = Ok b

abbrev pub unit_fault : StoreFault → Result (Unit {0}) StoreFault
unit_fault f = Err f

pub projections_within : (was : Seen) (sessions : List (List Changes)) (current : ℕ) (mover : Mover) (now : Running) → running was sessions current mover ≡ now → length (all_projections now.seen.catalogue.tables) ≤ 16384
    → length (all_projections was.catalogue.tables) ≤ 16384
projections_within was sessions current mover now view fit = subst (λ (r : Running). length (all_projections r.seen.catalogue.tables) ≤ 16384) (sym view) fit

-- whatever a crash leaves is the tables before or behind
leaves_still : (start : State) (d e : Database) → Still start d → Still start e → (x : Contents) → ReopensToEither d e x → ReopensFrom (last_good start.database) start x
leaves_still start d e before after x (inl reopens) = reopens_still start d x before reopens
leaves_still start d e before after x (inr reopens) = reopens_still start e x after reopens

-- what a moveout of all makes of a state, case by case of how many projections are behind
pub record AnyMoved (state : State) : Type 0 where
  pub still : Still state (all_caught_up state.database)
  pub by_moves : (x : Contents) → ReopensToEither state.database (all_caught_up state.database) x → ReopensMoved state x

pub any_moved : (state : State) → IsSoundDatabase state.database → are_spent state ≡ false → AnyMoved state
any_moved state sound room = by (length (behind state.database)) refl
  where
    itself : Still state state.database
    itself = still_itself state sound

    by : (n : ℕ) → length (behind state.database) ≡ n → AnyMoved state
    by zero none =
        let same : all_caught_up state.database ≡ state.database = none_left state.database (no_length (behind state.database) none) in
        record { still = subst (Still state) (sym same) itself; by_moves = either same }
      where
        either : all_caught_up state.database ≡ state.database → (x : Contents) → ReopensToEither state.database (all_caught_up state.database) x → ReopensMoved state x
        either same x (inl before) = (state, inl (inl refl), before)
        either same x (inr after) = (state, inl (inl refl), subst (λ (d : Database). Reopens x (cut (last_good d) d)) same after)
    by (suc n) count =
        let all = all_one_by_one n state (given_up state) state.next state.parts count itself room (omega arith) (omega arith) (omega arith) in
        record { still = all.still; by_moves = λ x is. either all.moves x is }
      where
        either : MovesOut (suc n) (given_up state) false (ended (given_up state) state.next state.parts (all_caught_up state.database)) → (x : Contents) → ReopensToEither state.database (all_caught_up state.database) x → ReopensMoved state x
        either moves x (inl before) = (state, inl (inl refl), before)
        either moves x (inr after) =
            let end : State = ended (given_up state) state.next state.parts (all_caught_up state.database) in (
              end,
              inr (record {
                jobs = subst (λ (k : ℕ). MovesOut k (given_up state) false end) (sym count) moves;
                drawn = record { from = omega arith; to = omega arith; parts = omega arith };
              }),
              after,
            )

-- all were moved out
pub moved_done : {D : Type 0} (disk : Ghosts D) {old new : D} (was is : Seen) (sessions : List (List Changes)) (current : ℕ) (mover : Mover) (state : State) → IsState disk (running was sessions current mover) old (given_up state) → mover.work ≡ None → are_spent state ≡ false
    → length (all_projections was.catalogue.tables) ≤ 16384 → Makes disk fault.Memory was is old new (Ok tt) state.database (all_caught_up state.database) → DrawsMany (length (behind state.database)) was.catalogue is.catalogue
    → MovesAllOf disk (running is sessions current mover) old new none_ok state
moved_done {D} disk {old} {new} was is sessions current mover state here free room fit makes draws =
    let any = any_moved state here.sound.database room in
    record {
      done = by (length (behind state.database)) refl;
      undone = λ wants. absurd (cc);
      unblamed = tt;
      any_moment = leaves_wider disk (leaves_still state state.database (all_caught_up state.database) (still_itself state here.sound.database) any.still) makes.any_moment;
      by_moves = leaves_wider disk any.by_moves makes.any_moment;
    }
  where
    most : length (behind state.database) ≤ 16384
    most =
        let all = behind_most was.catalogue.last (all_projections was.catalogue.tables) in
        let are = ap length (behind_are here.database.files was.catalogue was.stores state.database here.database.are) in
        omega (arith, fit, all, are)

    there : (after : State) → MovesAll state false after → after.database ≡ all_caught_up state.database → after.sessions ≡ state.sessions → after.current ≡ state.current → after.asked ≡ state.asked → after.next ≡ is.catalogue.next → after.busy ≡ 0
        → FewContainers after.parts is.catalogue → IsSound (given_up state) → IsState disk (running is sessions current mover) new after
    there after moves database own at asked next busy few sound = record {
      database = subst (λ (d : Database). Stands disk is new d) (sym database) makes.done;
      sessions = subst (AreAlikeSessions sessions) (sym own) here.sessions;
      current = at ∙ here.current;
      asked = asked ∙ here.asked;
      next = next;
      busy = busy ∙ here.busy;
      parts = few;
      work = no_work disk mover.work new free;
      sound = all_moved false state after moves (busy_state (given_up state) state.busy sound);
    }

    by : (n : ℕ) → length (behind state.database) ≡ n → (after : State) × MovesAll state false after × IsState disk (running is sessions current mover) new after
    by zero none =
        let empty : behind state.database ≡ [] = no_length (behind state.database) none in
        let same : all_caught_up state.database ≡ state.database = none_left state.database empty in
        let upto = draws.upto state.parts here.parts in
        let from = draws.from in
        let next : state.next ≡ is.catalogue.next = still_next (length (behind state.database)) (state.parts + 132) is.catalogue.next none upto (omega (arith, from, here.next)) in
        let moves : MovesAll state false (given_up state) = record {
          jobs = subst (λ (n : ℕ). MovesOut n (given_up state) false (given_up state)) (sym none) (refl, refl);
          drawn = record { from = omega arith; to = omega arith; parts = omega arith };
        } in
        (given_up state, moves, there (given_up state) moves (sym same) refl refl refl next refl (subst (All (λ t. All (λ p. length p.containers ≤ state.parts) t.projections)) (sym (draws.none none)) here.parts) here.sound)
      where
        still_next : (count rise k : ℕ) → count ≡ 0 → k ≤ was.catalogue.next + count * rise → state.next ≤ k → state.next ≡ k
        still_next count rise k zero_is upto from = within (subst (λ (n : ℕ). k ≤ was.catalogue.next + n * rise) zero_is upto)
          where
            within : k ≤ was.catalogue.next + 0 * rise → state.next ≡ k
            within le = omega (arith, le, from, here.next)
    by (suc n) count =
        let next = is.catalogue.next in
        let from : state.next ≤ next = let least = draws.from in omega (arith, least, here.next) in
        let rise : next ≤ state.next + length (behind state.database) * (state.parts + 132) = subst (λ (k : ℕ). next ≤ k + length (behind state.database) * (state.parts + 132)) (sym here.next) (draws.upto state.parts here.parts) in
        let upto = few_numbers next state.next (length (behind state.database)) state.parts most rise in
        let all = all_one_by_one n state (given_up state) next (state.parts + 1) count (still_itself state here.sound.database) room from upto (omega arith) in
        let after : State = ended (given_up state) next (state.parts + 1) (all_caught_up state.database) in
        let moves : MovesAll state false after = record {
          jobs = subst (λ (k : ℕ). MovesOut k (given_up state) false after) (sym count) all.moves;
          drawn = record { from = from; to = upto; parts = omega arith };
        } in
        (after, moves, there after moves refl refl refl refl refl refl (draws.few state.parts here.parts) here.sound)

-- the numbers are spent
pub moved_spent : {D : Type 0} (disk : Ghosts D) {now : D} (was : Seen) (sessions : List (List Changes)) (current : ℕ) (mover : Mover) (state : State) (some : Bool) → IsState disk (running was sessions current mover) now (given_up state) → are_spent state ≡ true
    → some ≡ is_some (first_in (behind_in was.catalogue.last (all_projections was.catalogue.tables))) → MovesAllOf disk (running was sessions current mover) now now (answered some) state
moved_spent {D} disk {now} was sessions current mover state some here spent some_is = record {
  done = (given_up state, stops some (length (behind state.database)) refl (some_is ∙ ap is_some (sym first)), here);
  undone = λ wants. absurd (cc);
  unblamed = tt;
  any_moment = leaves_wider disk (leaves_still state state.database state.database itself itself) quiet.any_moment;
  by_moves = leaves_wider disk (λ x reopens. either x reopens) quiet.any_moment;
}
  where
    itself : Still state state.database
    itself = still_itself state here.sound.database

    quiet : Makes disk fault.Memory was was now now (unit_fault fault.Memory) state.database state.database
    quiet = reads_only disk was was fault.Memory state.database state.database here.database (moved_none disk now)

    either : (x : Contents) → ReopensToEither state.database state.database x → ReopensMoved state x
    either x (inl before) = (state, inl (inl refl), before)
    either x (inr before) = (state, inl (inl refl), before)

    first : first_behind state.database ≡ first_in (behind_in was.catalogue.last (all_projections was.catalogue.tables))
    first = ap first_in (behind_are here.database.files was.catalogue was.stores state.database here.database.are)

    none_first : behind state.database ≡ [] → is_some (first_behind state.database) ≡ false
    none_first none = ap (λ (ss : List Shape). is_some (first_in ss)) none

    stops : (b : Bool) (n : ℕ) → length (behind state.database) ≡ n → b ≡ is_some (first_behind state.database) → MovesAll state b (given_up state)
    stops b zero none is =
        let off : b ≡ false = is ∙ none_first (no_length (behind state.database) none) in
        record { jobs = subst (λ (n : ℕ). MovesOut n (given_up state) b (given_up state)) (sym none) (off, refl); drawn = record { from = omega arith; to = omega arith; parts = omega arith } }
    stops b (suc n) count is =
        let (s, found) = first_is state n count in
        let on : b ≡ true = is ∙ ap is_some found in
        record { jobs = subst (λ (k : ℕ). MovesOut k (given_up state) b (given_up state)) (sym count) (inl (spent, on, refl)); drawn = record { from = omega arith; to = omega arith; parts = omega arith } }

-- it failed
pub moved_fails : {D : Type 0} (disk : Ghosts D) {old new : D} (was : Seen) (sessions : List (List Changes)) (current : ℕ) (mover : Mover) (state : State) (f : StoreFault) → IsState disk (running was sessions current mover) old (given_up state) → mover.work ≡ None → are_spent state ≡ false
    → Makes disk fault.Memory was was old new (unit_fault f) state.database (all_caught_up state.database) → IsUnblamed f → MovesAllOf disk (running was sessions current mover) old new (failed f) state
moved_fails {D} disk {old} {new} was sessions current mover state f here free room makes unblamed =
    let any = any_moved state here.sound.database room in
    record {
      done = tt;
      undone = λ wants. (
        given_up state,
        inr refl,
        record {
          database = makes.undone (short f wants);
          sessions = here.sessions;
          current = here.current;
          asked = here.asked;
          next = here.next;
          busy = here.busy;
          parts = here.parts;
          work = no_work disk mover.work new free;
          sound = here.sound;
        },
      );
      unblamed = unblamed;
      any_moment = leaves_wider disk (leaves_still state state.database (all_caught_up state.database) (still_itself state here.sound.database) any.still) makes.any_moment;
      by_moves = leaves_wider disk any.by_moves makes.any_moment;
    }
  where
    short : (g : StoreFault) → IsErrOf (failed g) fault.Memory → IsErrOf (unit_fault g) fault.Memory
    short g wants = let same : g ≡ fault.Memory = cc in ap unit_fault same
