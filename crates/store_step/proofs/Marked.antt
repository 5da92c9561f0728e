-- MAKE_AHM_NOW and SET_AHM_EPOCH.
use Rattle.std.proofs.Common.{◌≤◌, ℕ, Bool, true, false, None, sym, ap, subst, arith}
use Rattle.std.specs.Prelude.{codes}
use Rattle.sql_tree.specs.declared.statement.Function.{Function}
use Rattle.sql_tree.specs.declared.statement.Statement.{Statement}
use Rattle.db_model.specs.Epochs.{last_good, rises}
use Rattle.db_model.specs.Events.{mark_raised}
use Rattle.db_model.specs.Leaving.{MarkLeaves}
use Rattle.db_model.specs.Loading.{Files}
use Rattle.db_model.specs.Numbers.{IsDrawn}
use Rattle.db_model.specs.Printing.{counted_line}
use Rattle.db_model.specs.Refusals.{CallRefuses}
use Rattle.db_model.specs.Sound.{IsSound, IsSoundDatabase}
use Rattle.db_model.specs.State.{State}
use Rattle.db_laws.proofs.Goods.{good_itself}
use Rattle.db_laws.proofs.NeverFalls.{marked_good}
use Rattle.state_laws.proofs.Marked.{allowed_mark}
use Rattle.store_step.specs.Arms.{IsAnswer}
use Rattle.store_step.specs.Marks.{IsMarkOf}
use Rattle.store_step.proofs.Answered.{Event}

-- the mark is no later than the last good epoch
pub mark_within : (state : State) (f : Function) (mark : ℕ) → IsMarkOf state f mark → CallRefuses state f None → mark ≤ last_good state.database
mark_within state Function.Lge mark is free = absurd is
mark_within state Function.Ahm mark is free = absurd is
mark_within state Function.Current mark is free = absurd is
mark_within state Function.MakeAhmNow mark is free = omega (arith, is)
mark_within state (Function.SetAhm n) mark is free = let le = allowed_mark n state (sym free) in omega (arith, is, le)
mark_within state Function.Moveout mark is free = absurd is
mark_within state Function.Mergeout mark is free = absurd is
mark_within state (Function.Purge table) mark is free = absurd is
mark_within state (Function.Refresh table) mark is free = absurd is
mark_within state Function.StartRefresh mark is free = absurd is

mark_answers : (state : State) (files : Files) (f : Function) (mark : ℕ) (new : State) → IsMarkOf state f mark → CallRefuses state f None → MarkLeaves (rises mark state.database) mark state new
    → IsAnswer state files (Statement.Call f) (counted_line (codes "AHM ") mark) None new
mark_answers state files Function.Lge mark new is free leaves = absurd is
mark_answers state files Function.Ahm mark new is free leaves = absurd is
mark_answers state files Function.Current mark new is free leaves = absurd is
mark_answers state files Function.MakeAhmNow mark new is free leaves = record {
  decided = free;
  effect = (ap (λ (n : ℕ). counted_line (codes "AHM ") n) is, subst (λ (n : ℕ). MarkLeaves (rises n state.database) n state new) is leaves);
}
mark_answers state files (Function.SetAhm n) mark new is free leaves = record {
  decided = free;
  effect = (ap (λ (n : ℕ). counted_line (codes "AHM ") n) is, subst (λ (n : ℕ). MarkLeaves (rises n state.database) n state new) is leaves);
}
mark_answers state files Function.Moveout mark new is free leaves = absurd is
mark_answers state files Function.Mergeout mark new is free leaves = absurd is
mark_answers state files (Function.Purge table) mark new is free leaves = absurd is
mark_answers state files (Function.Refresh table) mark new is free leaves = absurd is
mark_answers state files Function.StartRefresh mark new is free leaves = absurd is

mark_sound : (b : Bool) (mark : ℕ) (state new : State) → MarkLeaves b mark state new → IsSound state → IsSound (mark_raised mark state) → ((old made new : State) → IsDrawn old made new → IsSound made → IsSound new) → IsSoundDatabase new.database
mark_sound true mark state new drawn sound made draw = (draw state (mark_raised mark state) new drawn made).database
mark_sound false mark state new same sound made draw = subst (λ (s : State). IsSoundDatabase s.database) (sym same) sound.database

pub marked_event : (state : State) (files : Files) (f : Function) (mark : ℕ) → IsMarkOf state f mark → CallRefuses state f None → IsSound state → IsSound (mark_raised mark state) → ((old made new : State) → IsDrawn old made new → IsSound made → IsSound new)
    → Event state files (Statement.Call f) (counted_line (codes "AHM ") mark) (MarkLeaves (rises mark state.database) mark state)
marked_event state files f mark is free sound made draw = record {
  answer = λ new leaves. mark_answers state files f mark new is free leaves;
  sound = λ new leaves. mark_sound (rises mark state.database) mark state new leaves sound made draw;
  good = λ new leaves. marked_good (last_good state.database) (rises mark state.database) mark state new leaves (good_itself state.database sound.database);
}
