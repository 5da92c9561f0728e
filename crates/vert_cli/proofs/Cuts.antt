-- What a crash leaves while statement texts run.
use Rattle.std.proofs.Common.{ℕ, zero, suc, ◌+◌, ◌≡◌, ◌≤◌, ◌<◌, inl, inr, Bool, false, List, [], ◌∷◌, take, drop, refl, sym, subst, arith}
use Rattle.std.specs.Prelude.{Option}
use Rattle.common_laws.specs.Maps.{Contents}
use Rattle.col_disk.specs.Moved.{ImageOf, Leaves}
use Rattle.col_disk.specs.declared.disk.Disk.{Ghosts}
use Rattle.db_model.specs.Database.{Database}
use Rattle.db_model.specs.State.{State}
use Rattle.db_model.specs.Epochs.{last_good}
use Rattle.db_model.specs.Sound.{IsSoundDatabase}
use Rattle.db_model.specs.Loading.{Files}
use Rattle.db_model.specs.Mover.{MoverSteps, MoverRuns}
use Rattle.db_model.specs.Run.{Setting, RunTexts, EndsUnless}
use Rattle.db_laws.proofs.Goods.{good_itself}
use Rattle.db_laws.proofs.NeverFalls.{step_never_falls}
use Rattle.folder_model.proofs.Committing.{stands_reopens}
use Rattle.store_step.specs.Running.{Running, IsState}
use Rattle.store_step.specs.Events.{ReopensTo}
use Rattle.store_step.specs.Cuts.{ReopensFrom, CutBeforeOrAfter}
use Rattle.store_step.specs.Forms.{is_served}
use Rattle.store_step.specs.Steps.{SteppedTo}
use Rattle.vert_cli.specs.Statements.{CutInMover}
use Rattle.vert_cli.specs.Runs.{setting_of, LeavesNow, CutInText, CutInNext, TakesFirst, TakesMore, IsOnTheWay}
use Rattle.vert_cli.proofs.Taking.{first_none, first_more}

-- a disk that isn't called leaves what its images are
pub leaves_still : {D : Type 0} (disk : Ghosts D) {P : Contents → Type 0} (now : D) → ((x : Contents) → ImageOf disk now x → P x) → Leaves disk P now now
leaves_still disk {P} now all = record { later = omega arith; since_then = all; each = λ t c le is. inl is }

-- what a crash leaves at the end of a piece of work
pub left_now : {D : Type 0} (disk : Ghosts D) {P : Contents → Type 0} {old new : D} → Leaves disk P old new → LeavesNow disk P new
left_now disk {P} {old} {new} leaves = λ x image. leaves.since_then x (disk.laws.reaches new (disk.clock old) (disk.clock new) x leaves.later (omega arith) image)

-- the images of a disk over which a store is a state
pub images_reopen : {D : Type 0} (disk : Ghosts D) (now : D) (r : Running) (state : State) → IsState disk r now state → (x : Contents) → ImageOf disk now x → ReopensTo state x
images_reopen disk now r state here x is = stands_reopens r.seen.catalogue r.seen.stores _ _ state.database here.database x is

pub good_closed : (d : Database) → IsSoundDatabase d → last_good d ≤ d.last
good_closed d sound = (good_itself d sound).closed

pub reopens_from : (state : State) → IsSoundDatabase state.database → (x : Contents) → ReopensTo state x → ReopensFrom (last_good state.database) state x
reopens_from state sound x reopens = record { epoch = last_good state.database; from = omega arith; closed = good_closed state.database sound; reopens = reopens }

pub images_from : {D : Type 0} (disk : Ghosts D) (now : D) (r : Running) (state : State) → IsState disk r now state → (x : Contents) → ImageOf disk now x → ReopensFrom (last_good state.database) state x
images_from disk now r state here x is = reopens_from state here.sound.database x (images_reopen disk now r state here x is)

pub from_earlier : (n m : ℕ) (state : State) (x : Contents) → n ≤ m → ReopensFrom m state x → ReopensFrom n state x
from_earlier n m state x le from = record { epoch = from.epoch; from = omega (arith, le, from.from); closed = from.closed; reopens = from.reopens }

-- ---- a statement text and the mover's steps behind it

pub stepped_falls : (files : Files) (text : List ℕ) (state answered : State) → IsSoundDatabase state.database → SteppedTo files text state answered → last_good state.database ≤ last_good answered.database
stepped_falls files text state answered sound (printed, why, step) = step_never_falls is_served state files text printed why answered step sound

pub in_text : (files : Files) (steps : ℕ) (halts : Bool) (text : List ℕ) (state answered : State) → IsSoundDatabase state.database → SteppedTo files text state answered
    → (x : Contents) → CutInMover steps answered x → CutInText (setting_of files steps halts) state text x
in_text files steps halts text state answered sound stepped x (inl from) =
    inl (inr (answered, inl stepped, from_earlier (last_good state.database) (last_good answered.database) answered x (stepped_falls files text state answered sound stepped) from))
in_text files steps halts text state answered sound stepped x (inr (moves, below, mid, runs, left)) = inr (answered, stepped, moves, below, mid, runs, left)

-- ---- the mover

-- so many steps, and one more
runs_suc : (n : ℕ) (old mid new : State) → MoverRuns n old mid → MoverSteps mid new → MoverRuns (suc n) old new
runs_suc zero old mid new same steps = subst (λ (s : State). MoverRuns 1 s new) same (new, steps, refl)
runs_suc (suc n) old mid new (first, step, more) steps = (first, step, runs_suc n first mid new more steps)

pub runs_more : (n : ℕ) (old mid new : State) → MoverRuns n old mid → MoverSteps mid new → MoverRuns (n + 1) old new
runs_more n old mid new runs steps = subst (λ (k : ℕ). MoverRuns k old new) (one_more n) (runs_suc n old mid new runs steps)
  where
    one_more : (k : ℕ) → suc k ≡ k + 1
    one_more k = omega arith

pub mover_next : (steps n : ℕ) (old mid : State) → n < steps → MoverRuns n old mid → (x : Contents) → CutBeforeOrAfter mid (MoverSteps mid) x → CutInMover steps old x
mover_next steps n old mid below runs x left = inr (n, below, mid, runs, left)

-- ---- the texts of a script

text_next : (setting : Setting) (mid : State) (text : List ℕ) (more rest : List (List ℕ)) → rest ≡ text ∷ more → (x : Contents) → CutInText setting mid text x → CutInNext setting mid rest x
text_next setting mid text more rest is x left = subst (λ (texts : List (List ℕ)). CutInNext setting mid texts x) (sym is) left

pub on_the_way : (setting : Setting) (start mid : State) (texts : List (List ℕ)) (count : ℕ) (printed : List ℕ) (refused : Bool) (text : List ℕ) (more : List (List ℕ)) (before after : Option (List ℕ))
    → RunTexts setting start (take count texts) printed refused mid → TakesFirst before after printed → drop count texts ≡ text ∷ more → (x : Contents) → CutInText setting mid text x → IsOnTheWay setting start texts before after x
on_the_way setting start mid texts count printed refused text more before after ran taken is x left =
    record { count = count; printed = printed; refused = refused; mid = mid; ran = ran; taken = taken; left = text_next setting mid text more (drop count texts) is x left }

-- the sink took more since
pub on_the_way_still : (setting : Setting) (start : State) (texts : List (List ℕ)) (before between after : Option (List ℕ)) → TakesMore between after → (x : Contents) → IsOnTheWay setting start texts before between x
    → IsOnTheWay setting start texts before after x
on_the_way_still setting start texts before between after more x way = record {
  count = way.count;
  printed = way.printed;
  refused = way.refused;
  mid = way.mid;
  ran = way.ran;
  taken = first_more before between after way.printed way.taken more;
  left = way.left;
}

-- before the first text
begun_next : (setting : Setting) (start : State) (texts : List (List ℕ)) (x : Contents) → ReopensFrom (last_good start.database) start x → CutInNext setting start texts x
begun_next setting start [] x from = inl from
begun_next setting start (text ∷ more) x from = inl (inl from)

pub begun : (setting : Setting) (start : State) (texts : List (List ℕ)) (told : Option (List ℕ)) (x : Contents) → ReopensFrom (last_good start.database) start x → IsOnTheWay setting start texts told told x
begun setting start texts told x from =
    record { count = 0; printed = []; refused = false; mid = start; ran = (refl, refl, refl); taken = first_none told; left = begun_next setting start texts x from }

-- behind the last text
ended_next : (setting : Setting) (mid : State) (rest : List (List ℕ)) → rest ≡ [] → (x : Contents) → CutBeforeOrAfter mid (EndsUnless setting.halts mid) x → CutInNext setting mid rest x
ended_next setting mid rest none x left = subst (λ (texts : List (List ℕ)). CutInNext setting mid texts x) (sym none) left

pub ended : (setting : Setting) (start mid : State) (texts : List (List ℕ)) (count : ℕ) (printed : List ℕ) (refused : Bool) (before after : Option (List ℕ))
    → RunTexts setting start (take count texts) printed refused mid → TakesFirst before after printed → drop count texts ≡ [] → (x : Contents) → CutBeforeOrAfter mid (EndsUnless setting.halts mid) x
    → IsOnTheWay setting start texts before after x
ended setting start mid texts count printed refused before after ran taken none x left =
    record { count = count; printed = printed; refused = refused; mid = mid; ran = ran; taken = taken; left = ended_next setting mid (drop count texts) none x left }
