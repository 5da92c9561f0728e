-- The laws that the next run over a folder has one text.
use Rattle.std.specs.Prelude.{ℕ, ◌≡◌, ◌≤◌, List, Bool, false, length}
use Rattle.std.specs.List.{All}
use Rattle.common_laws.specs.Maps.{Contents}
use Rattle.sql_words.specs.Texts.{statement_texts}
use Rattle.db_model.specs.Alike.{AreAlikeStates}
use Rattle.db_model.specs.Database.{Database}
use Rattle.db_model.specs.Run.{Run, Setting}
use Rattle.db_model.specs.State.{State, opened_with}
use Rattle.one_text.specs.Lasting.{HasNumbers}
use Rattle.one_text.specs.Movers.{IsBlind, with_steps}
use Rattle.one_text.specs.Scripts.{AsksNoMover}
use Rattle.alike_steps.specs.Runs.{HaveNumbersLeft}
use Rattle.alike_steps.specs.Steps.{IsDetermined}
use Rattle.folder_model.specs.Reopening.{Reopens}

-- a state with which a run over a folder begins: over a database that it reopens to, with some numbers of the storage
pub record IsOpening (m : Contents) (start : State) : Type 0 where
  pub database : Database
  pub reopens : Reopens m database
  pub next : ℕ
  pub parts : ℕ
  pub same : start ≡ opened_with next parts database

-- Two runs over one folder of a script that asks the mover for nothing print the same, some statement is refused in both or in none, and
-- they leave alike states.
abbrev pub FoldersRunAlike : Type 0
FoldersRunAlike =
    (m : Contents) (setting : Setting) (start begin : State) (script printed other : List ℕ) (refused also : Bool) (new left : State)
    → IsOpening m start → IsOpening m begin → setting.steps ≡ 0 → All AsksNoMover (statement_texts script) → HaveNumbersLeft new left
    → Run setting start script printed refused new → Run setting begin script other also left
    → (printed ≡ other) × (refused ≡ also) × AreAlikeStates new left

-- So do scripts in which functions of several jobs stand, if the storage doesn't decide what they leave, where no statement is refused in
-- either run.
abbrev pub FoldersGoThrough : Type 0
FoldersGoThrough =
    (m : Contents) (setting : Setting) (start begin : State) (script printed other : List ℕ) (new left : State)
    → IsOpening m start → IsOpening m begin → setting.steps ≡ 0 → All IsDetermined (statement_texts script)
    → Run setting start script printed false new → Run setting begin script other false left
    → (printed ≡ other) × (HaveNumbersLeft new left → AreAlikeStates new left)

-- Two runs over one folder of a script that asks the mover for nothing, and doesn't look at what it makes of projections, print the same, and
-- some statement is refused in both or in none, with any number of the mover's steps behind the statements of each: where the folder has
-- numbers for a script, and some are left at both ends.
abbrev pub FoldersHaveOneText : Type 0
FoldersHaveOneText =
    (m : Contents) (setting : Setting) (steps : ℕ) (start begin : State) (script printed other : List ℕ) (refused also : Bool) (new left : State)
    → IsOpening m start → IsOpening m begin → HasNumbers start → HasNumbers begin → length (statement_texts script) ≤ 4096
    → All AsksNoMover (statement_texts script) → All IsBlind (statement_texts script) → HaveNumbersLeft new left
    → Run setting start script printed refused new → Run (with_steps steps setting) begin script other also left → (printed ≡ other) × (refused ≡ also)
