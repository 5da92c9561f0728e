-- The laws of statement texts and of scripts over states that no statement tells apart.
use Rattle.std.specs.Prelude.{ℕ, ◌≡◌, List, Bool, false}
use Rattle.std.specs.List.{All}
use Rattle.sql_words.specs.Texts.{statement_texts}
use Rattle.db_model.specs.State.{State}
use Rattle.db_model.specs.Alike.{AreAlikeStates}
use Rattle.db_model.specs.Numbers.{are_spent}
use Rattle.db_model.specs.Run.{Run, RunTexts, Setting}
use Rattle.db_model.specs.Sound.{IsSound}
use Rattle.one_text.specs.Scripts.{AsksNoMover}
use Rattle.alike_steps.specs.Steps.{IsDetermined}

-- two starts of a run that no statement tells apart, of which one is sound
pub record AreAlikeStarts (start begin : State) : Type 0 where
  pub alike : AreAlikeStates start begin
  pub sound : IsSound start

-- the numbers that files are called by aren't spent at either end
pub record HaveNumbersLeft (new left : State) : Type 0 where
  pub one : are_spent new ≡ false
  pub other : are_spent left ≡ false

-- Texts that ask the mover for nothing, run one after the other without its steps.
abbrev pub AlikeTextsRunAlike : Type 0
AlikeTextsRunAlike =
    (setting : Setting) (start begin : State) (texts : List (List ℕ)) (printed other : List ℕ) (refused also : Bool) (new left : State)
    → setting.steps ≡ 0 → All AsksNoMover texts → AreAlikeStarts start begin → HaveNumbersLeft new left → RunTexts setting start texts printed refused new → RunTexts setting begin texts other also left
    → (printed ≡ other) × (refused ≡ also) × AreAlikeStates new left

-- Two runs of such a script, with its end, print the same, some statement is refused in both or in none, and they leave alike states.
abbrev pub AlikeRunsPrintAlike : Type 0
AlikeRunsPrintAlike =
    (setting : Setting) (start begin : State) (script printed other : List ℕ) (refused also : Bool) (new left : State)
    → setting.steps ≡ 0 → All AsksNoMover (statement_texts script) → AreAlikeStarts start begin → HaveNumbersLeft new left → Run setting start script printed refused new → Run setting begin script other also left
    → (printed ≡ other) × (refused ≡ also) × AreAlikeStates new left

-- Texts in which functions of several jobs may stand, too, if the storage doesn't decide what they leave: where no statement is refused in
-- either run they print the same and leave alike states.
abbrev pub AlikeTextsGoThrough : Type 0
AlikeTextsGoThrough =
    (setting : Setting) (start begin : State) (texts : List (List ℕ)) (printed other : List ℕ) (new left : State)
    → setting.steps ≡ 0 → All IsDetermined texts → AreAlikeStarts start begin → RunTexts setting start texts printed false new → RunTexts setting begin texts other false left
    → (printed ≡ other) × AreAlikeStates new left

-- So do scripts, whose ends leave alike states where numbers are left.
abbrev pub AlikeRunsGoThrough : Type 0
AlikeRunsGoThrough =
    (setting : Setting) (start begin : State) (script printed other : List ℕ) (new left : State)
    → setting.steps ≡ 0 → All IsDetermined (statement_texts script) → AreAlikeStarts start begin → Run setting start script printed false new → Run setting begin script other false left
    → (printed ≡ other) × (HaveNumbersLeft new left → AreAlikeStates new left)
