-- The mover leaves a sound state sound.
use Rattle.std.proofs.Common.{◌≡◌, ◌-◌, ℕ, zero, suc, inl, inr, Bool, true, false, refl, sym, subst}
use Rattle.std.specs.Prelude.{◌==◌, nat_lt, Option, Some, None}
use Rattle.db_model.specs.Database.{Shape}
use Rattle.db_model.specs.Mover.{first_behind, given_up, moved_one, refreshed, GoesOn, Installs, MayBegin, MovesOrBegins, MoverRuns, MoverSteps, StepsOn, StepsUnless}
use Rattle.db_model.specs.Numbers.{are_spent}
use Rattle.db_model.specs.Sound.{IsSound}
use Rattle.db_model.specs.State.{State}
use Rattle.state_laws.proofs.Events.{drawn_sound}
use Rattle.state_laws.proofs.Reached.{busy_state, moved_out_state, refreshed_state, risen_state}

pub sound_same : (old new : State) → new ≡ old → IsSound old → IsSound new
sound_same old new same is = subst IsSound (sym same) is

-- ---- the last step of a job

installed : (old made : State) → Installs old made → IsSound old → IsSound made
installed old made (inl same) is = sound_same old made same is
installed old made (inr (inl (d, rises, same))) is = subst IsSound (sym same) (risen_state old d rises is)
installed old made (inr (inr (name, there, same))) is = subst IsSound (sym same) (refreshed_state old name is)

-- ---- a step

gone_on : (b : Bool) (old new : State) → GoesOn b old new → IsSound old → IsSound new
gone_on true old new (made, installs, drawn) is = drawn_sound old made new drawn (installed (given_up old) made installs (busy_state old 0 is))
gone_on false old new same is = subst IsSound (sym same) (busy_state old (old.busy - 1) is)

begun : (old new : State) → MayBegin old new → IsSound old → IsSound new
begun old new (inl (none, same)) is = sound_same old new same is
begun old new (inr (steps, least, most, drawn)) is = drawn_sound old (record old { busy = steps }) new drawn (busy_state old steps is)

moved_or_begun : (o : Option Shape) (old new : State) → first_behind old.database ≡ o → MovesOrBegins o old new → IsSound old → IsSound new
moved_or_begun None old new first begins is = begun old new begins is
moved_or_begun (Some s) old new first drawn is = drawn_sound old (moved_one s old) new drawn (moved_out_state old s first is)

stepped_on : (b : Bool) (old new : State) → StepsOn b old new → IsSound old → IsSound new
stepped_on true old new goes is = gone_on (old.busy == 1) old new goes is
stepped_on false old new moves is = moved_or_begun (first_behind old.database) old new refl moves is

stepped_unless : (b : Bool) (old new : State) → StepsUnless b old new → IsSound old → IsSound new
stepped_unless true old new same is = sound_same old new same is
stepped_unless false old new steps is = stepped_on (nat_lt 0 old.busy) old new steps is

pub mover_stepped : (old new : State) → MoverSteps old new → IsSound old → IsSound new
mover_stepped old new steps is = stepped_unless (are_spent old) old new steps is

pub mover_ran : (n : ℕ) (old new : State) → MoverRuns n old new → IsSound old → IsSound new
mover_ran zero old new same is = sound_same old new same is
mover_ran (suc n) old new (mid, first, rest) is = mover_ran n mid new rest (mover_stepped old mid first is)
