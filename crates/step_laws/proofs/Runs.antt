-- A run leaves a sound state sound.
use Rattle.std.proofs.Common.{ℕ, Bool, true, false, List, [], ◌∷◌, get_or, map, ◌∙◌}
use Rattle.std.specs.Prelude.{Option}
use Rattle.std.specs.List.{AllPairs}
use Rattle.std.proofs.lemmas.List.{length-map}
use Rattle.std.proofs.lemmas.List.Elements.{All-map}
use Rattle.std.proofs.lemmas.List.Kept.{AllPairs-cons}
use Rattle.sql_words.specs.Texts.{statement_texts}
use Rattle.sql_tree.specs.declared.refusal.Refusal.{Refusal}
use Rattle.sql_tree.specs.declared.statement.Statement.{Statement}
use Rattle.db_model.specs.Loading.{Files}
use Rattle.db_model.specs.Run.{Setting, RunTexts, Run, EndsUnless, all_dropped}
use Rattle.db_model.specs.Sound.{GoTogether, IsSound, IsSoundSession}
use Rattle.db_model.specs.State.{Changes, State}
use Rattle.db_model.specs.Step.{Step}
use Rattle.sound_laws.proofs.Pairs.{pairs_none}
use Rattle.state_laws.proofs.Events.{no_changes}
use Rattle.state_laws.proofs.Held.{none_together}
use Rattle.state_laws.proofs.Reached.{all_moved}
use Rattle.step_laws.proofs.Moves.{sound_same, mover_ran}

abbrev nothing_of : List Changes → List Changes
nothing_of changes = []

-- sessions without changes go together
all_together : (sessions : List (List Changes)) → AllPairs GoTogether (map nothing_of sessions)
all_together [] = pairs_none GoTogether
all_together (changes ∷ sessions) = AllPairs-cons GoTogether [] (map nothing_of sessions) (λ k d lt. none_together (get_or (map nothing_of sessions) k d)) (all_together sessions)

all_dropped_sound : (state : State) → IsSound state → IsSound (all_dropped state)
all_dropped_sound state sound = record {
  database = sound.database;
  eight = length-map state.sessions nothing_of ∙ sound.eight;
  first = sound.first;
  current = sound.current;
  sessions = All-map (IsSoundSession state.database) nothing_of state.sessions (λ k d lt. no_changes state.database);
  apart = all_together state.sessions;
  asked = sound.asked;
}

-- a step leaves a sound state sound
abbrev pub StepsKeepSound : Type 0
StepsKeepSound = (serves : Statement → Bool) (old new : State) (files : Files) (text printed : List ℕ) (why : Option Refusal) → Step serves old files text printed why new → IsSound old → IsSound new

texts_ran : StepsKeepSound → (setting : Setting) (old : State) (texts : List (List ℕ)) (printed : List ℕ) (refused : Bool) (new : State) → RunTexts setting old texts printed refused new → IsSound old → IsSound new
texts_ran keep setting old [] printed refused new (none, never, same) is = sound_same old new same is
texts_ran keep setting old (text ∷ more) printed refused new (first, why, mid, rest, later, passes, ran, whole, any) is =
    texts_ran keep setting mid more rest later new ran
    (mover_ran setting.steps passes.answered mid passes.mover (keep setting.serves old passes.answered setting.files text first why passes.step is))

ended : (halts : Bool) (old new : State) → EndsUnless halts old new → IsSound old → IsSound new
ended true old new same is = sound_same old new same is
ended false old new (stopped, moves) is = all_moved stopped (all_dropped old) new moves (all_dropped_sound old is)

pub run_sound : StepsKeepSound → (setting : Setting) (start : State) (script printed : List ℕ) (refused : Bool) (new : State) → Run setting start script printed refused new → IsSound start → IsSound new
run_sound keep setting start script printed refused new (mid, ran, ends) is = ended setting.halts mid new ends (texts_ran keep setting start (statement_texts script) printed refused mid ran is)
