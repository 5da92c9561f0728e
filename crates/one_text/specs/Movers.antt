-- The laws that a script has one text whatever the mover does between and in its statements.
use Rattle.std.specs.Prelude.{ℕ, ◌≡◌, Bool, true, false, List, map}
use Rattle.std.specs.List.{All}
use Rattle.sql_words.specs.Symbols.{symbols_of}
use Rattle.sql_words.specs.Texts.{statement_texts}
use Rattle.sql_tree.specs.declared.statement.Function.{Function}
use Rattle.sql_tree.specs.declared.statement.Statement.{Statement}
use Rattle.sql_tree.specs.Spells.{Spells}
use Rattle.db_model.specs.Database.{Database, Shape, Table}
use Rattle.db_model.specs.Numbers.{are_spent}
use Rattle.db_model.specs.Run.{Run, Setting}
use Rattle.db_model.specs.State.{State}
use Rattle.one_text.specs.OneText.{AsksForJobs}

-- a projection without what the mover makes of it: whether it is up to date, and up to which epoch all its data is on disk
abbrev pub unmoved_shape : Shape → Shape
unmoved_shape s = record s { fresh = true; lge = 0 }

abbrev pub unmoved_table : Table → Table
unmoved_table t = record t { shapes = map unmoved_shape t.shapes }

abbrev pub unmoved : Database → Database
unmoved d = record d { tables = map unmoved_table d.tables }

-- the same database and sessions, but for what the mover makes of the projections; the waiting projections and the numbers of the storage may
-- be others
pub record IsSameButMoved (a b : State) : Type 0 where
  pub database : unmoved a.database ≡ unmoved b.database
  pub sessions : a.sessions ≡ b.sessions
  pub current : a.current ≡ b.current

-- a function that tells the last good epoch, or makes it the ancient history mark
abbrev pub AsksForMoved : Function → Type 0
AsksForMoved Function.Lge = Unit {0}
AsksForMoved Function.MakeAhmNow = Unit {0}
AsksForMoved (Function.SetAhm mark) = Unit {0}
AsksForMoved f = ⊥

-- a statement that looks at what the mover makes of projections: such a function, EXPLAIN, and DROP PROJECTION, which leaves each table one
-- that is up to date
abbrev pub LooksAtMoved : Statement → Type 0
LooksAtMoved (Statement.DropProjection name) = Unit {0}
LooksAtMoved (Statement.Explain query) = Unit {0}
LooksAtMoved (Statement.Call f) = AsksForMoved f
LooksAtMoved s = ⊥

-- a text that says no such statement
abbrev pub IsBlind : List ℕ → Type 0
IsBlind text = (s : Statement) → LooksAtMoved s → Spells (symbols_of text) s → ⊥

abbrev pub with_steps : ℕ → Setting → Setting
with_steps steps setting = record setting { steps = steps }

-- Two runs of a script of such texts that are no functions of several jobs, over states that are the same but for what the mover makes of
-- projections, each with any number of its steps behind the statements (`\step` and START_REFRESH may stand among these): while numbers are
-- left they print the same, some statement is refused in both or in none, and they leave such states.
abbrev pub MoversHaveOneText : Type 0
MoversHaveOneText =
    (setting : Setting) (steps : ℕ) (start begin : State) (script printed other : List ℕ) (refused also : Bool) (new left : State)
    → All IsBlind (statement_texts script) → All (λ text. AsksForJobs text → ⊥) (statement_texts script) → IsSameButMoved start begin
    → Run setting start script printed refused new → Run (with_steps steps setting) begin script other also left → are_spent new ≡ false → are_spent left ≡ false
    → (printed ≡ other) × (refused ≡ also) × IsSameButMoved new left

-- So do two runs of a script in which these functions stand, too (moveouts, mergeouts, purges and refreshes of any kind), where no statement is
-- refused in either.
abbrev pub JobsHaveOneText : Type 0
JobsHaveOneText =
    (setting : Setting) (steps : ℕ) (start begin : State) (script printed other : List ℕ) (new left : State)
    → All IsBlind (statement_texts script) → IsSameButMoved start begin
    → Run setting start script printed false new → Run (with_steps steps setting) begin script other false left → are_spent new ≡ false → are_spent left ≡ false
    → (printed ≡ other) × IsSameButMoved new left
