-- That there is a step, and a run.
use Rattle.std.specs.Prelude.{ℕ, ◌≡◌, ◌||◌, ◌++◌, Bool, true, false, List, ◌∷◌, Option, is_some}
use Rattle.std.specs.List.{All}
use Rattle.sql_words.specs.Texts.{statement_texts}
use Rattle.sql_tree.specs.declared.refusal.Refusal.{Refusal}
use Rattle.sql_tree.specs.declared.statement.Statement.{Statement}
use Rattle.db_model.specs.Epochs.{all_shapes}
use Rattle.db_model.specs.State.{State}
use Rattle.db_model.specs.Loading.{Files}
use Rattle.db_model.specs.Mover.{MovesAll, MoverSteps}
use Rattle.db_model.specs.Run.{Run, RunTexts, Setting}
use Rattle.db_model.specs.Sound.{IsSound, IsSoundDatabase}
use Rattle.db_model.specs.Step.{Step}

-- each text, whatever it says, has a step in a sound state
abbrev pub EveryTextHasAStep : Type 0
EveryTextHasAStep =
    (serves : Statement → Bool) (old : State) (files : Files) (text : List ℕ) → IsSound old
    → (printed : List ℕ) × (refusal : Option Refusal) × (new : State) × Step serves old files text printed refusal new

-- the mover has a step in each state
abbrev pub EveryStateMovesOn : Type 0
EveryStateMovesOn = (old : State) → (new : State) × MoverSteps old new

-- a moveout of all comes to its end in a sound state
abbrev pub EveryMoveoutEnds : Type 0
EveryMoveoutEnds = (old : State) → IsSound old → (stopped : Bool) × (new : State) × MovesAll old stopped new

-- behind a moveout of all that wasn't stopped, each projection that is up to date is on disk up to the newest closed epoch
abbrev pub MoveoutsReachTheLast : Type 0
MoveoutsReachTheLast =
    (old new : State) → MovesAll old false new → IsSoundDatabase new.database → All (λ s. s.fresh ≡ true → s.lge ≡ new.database.last) (all_shapes new.database.tables)

-- texts run one after the other, however many
abbrev pub EveryTextsHaveARun : Type 0
EveryTextsHaveARun =
    (setting : Setting) (start : State) (texts : List (List ℕ)) → IsSound start
    → (printed : List ℕ) × (refused : Bool) × (new : State) × RunTexts setting start texts printed refused new

-- each script has a run, to its end
abbrev pub EveryScriptHasARun : Type 0
EveryScriptHasARun =
    (setting : Setting) (start : State) (script : List ℕ) → IsSound start
    → (printed : List ℕ) × (refused : Bool) × (new : State) × Run setting start script printed refused new

-- Statements that were answered go on to a run of the whole script: it prints first what they printed, and what was refused stays so.
abbrev pub EveryRunGoesOn : Type 0
EveryRunGoesOn =
    (setting : Setting) (start : State) (script : List ℕ) (front more : List (List ℕ)) (printed : List ℕ) (refused : Bool) (mid : State) → IsSound start
    → statement_texts script ≡ front ++ more → RunTexts setting start front printed refused mid
    → (rest : List ℕ) × (later : Bool) × (new : State) × Run setting start script (printed ++ rest) (refused || later) new

-- And so do they with one more that was answered, whatever the mover did behind it: the run prints its answer behind what they printed.
abbrev pub EveryAnswerGoesOn : Type 0
EveryAnswerGoesOn =
    (setting : Setting) (start : State) (script : List ℕ) (front more : List (List ℕ)) (text printed answer : List ℕ) (refused : Bool) (mid answered : State) (refusal : Option Refusal)
    → IsSound start → statement_texts script ≡ front ++ text ∷ more → RunTexts setting start front printed refused mid
    → Step setting.serves mid setting.files text answer refusal answered
    → (rest : List ℕ) × (later : Bool) × (new : State) × Run setting start script (printed ++ (answer ++ rest)) (refused || (is_some refusal || later)) new
