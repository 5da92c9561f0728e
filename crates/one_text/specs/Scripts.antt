-- The law that a script has one text, as long as it leaves the mover alone and the numbers last.
use Rattle.std.specs.Prelude.{ℕ, ◌≡◌, List, Bool, false}
use Rattle.std.specs.List.{All}
use Rattle.sql_words.specs.Symbols.{symbols_of}
use Rattle.sql_words.specs.Texts.{statement_texts}
use Rattle.sql_tree.specs.declared.statement.Statement.{Statement}
use Rattle.sql_tree.specs.Spells.{Spells}
use Rattle.db_model.specs.State.{State}
use Rattle.db_model.specs.Numbers.{are_spent}
use Rattle.db_model.specs.Run.{Run, Setting}
use Rattle.one_text.specs.OneText.{AsksForJobs}

-- the same database, sessions and waiting projections; the three numbers of the storage may be others
pub record IsSameButNumbers (a b : State) : Type 0 where
  pub database : a.database ≡ b.database
  pub sessions : a.sessions ≡ b.sessions
  pub current : a.current ≡ b.current
  pub asked : a.asked ≡ b.asked

-- a text that doesn't ask the mover to do anything: neither jobs, nor one step
pub record AsksNoMover (text : List ℕ) : Type 0 where
  pub no_jobs : AsksForJobs text → ⊥
  pub no_step : Spells (symbols_of text) Statement.Step → ⊥

-- Two runs of a script over such states, without steps of the mover and with numbers left at their ends, print the same, some
-- statement is refused in both or in none, and they leave the same database.
abbrev pub ScriptsHaveOneText : Type 0
ScriptsHaveOneText =
    (setting : Setting) (start begin : State) (script printed other : List ℕ) (refused also : Bool) (new left : State) → setting.steps ≡ 0 → All AsksNoMover (statement_texts script) → IsSameButNumbers start begin
    → Run setting start script printed refused new → Run setting begin script other also left → are_spent new ≡ false → are_spent left ≡ false
    → (printed ≡ other) × (refused ≡ also) × (new.database ≡ left.database)
