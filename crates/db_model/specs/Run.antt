-- A script: its statement texts in order, with steps of the mover behind each, and the end.
use Rattle.std.specs.Prelude.{ℕ, ◌≡◌, ◌||◌, ◌++◌, Bool, true, false, List, [], ◌∷◌, map, Option, is_some}
use Rattle.sql_words.specs.Texts.{statement_texts}
use Rattle.sql_tree.specs.declared.refusal.Refusal.{Refusal}
use Rattle.sql_tree.specs.declared.statement.Statement.{Statement}
use Rattle.db_model.specs.State.{State}
use Rattle.db_model.specs.Loading.{Files}
use Rattle.db_model.specs.Mover.{MovesAll, MoverRuns}
use Rattle.db_model.specs.Step.{Step}

-- how a script is run: the forms that are served, its load files, how many steps the mover makes behind each statement, and whether it
-- halts without an end
pub record Setting : Type 0 where
  pub serves : Statement → Bool
  pub files : Files
  pub steps : ℕ
  pub halts : Bool

-- A statement text and the steps of the mover behind it.
pub record Passes (setting : Setting) (old : State) (text printed : List ℕ) (refusal : Option Refusal) (new : State) : Type 0 where
  pub answered : State
  pub step : Step setting.serves old setting.files text printed refusal answered
  pub mover : MoverRuns setting.steps answered new

-- Statement texts run one after the other: what they print together, whether some was refused, and the state that they leave.
abbrev pub RunTexts : Setting → State → List (List ℕ) → List ℕ → Bool → State → Type 0
RunTexts setting old [] printed refused new = (printed ≡ []) × (refused ≡ false) × (new ≡ old)
RunTexts setting old (text ∷ more) printed refused new =
    (first : List ℕ) × (why : Option Refusal) × (mid : State) × (rest : List ℕ) × (later : Bool)
    × Passes setting old text first why mid × RunTexts setting mid more rest later new × (printed ≡ first ++ rest) × (refused ≡ is_some why || later)

-- every session's changes and modes end
abbrev pub all_dropped : State → State
all_dropped state = record state { sessions = map (λ changes. []) state.sessions }

-- The end: a ROLLBACK in each session and a moveout of all, which stops where the numbers are spent. A script that halts has none.
abbrev pub EndsUnless : Bool → State → State → Type 0
EndsUnless true old new = new ≡ old
EndsUnless false old new = (stopped : Bool) × MovesAll (all_dropped old) stopped new

-- A whole script over an opened state: its text, whether some statement was refused, and the state at its end.
abbrev pub Run : Setting → State → List ℕ → List ℕ → Bool → State → Type 0
Run setting start script printed refused new = (mid : State) × RunTexts setting start (statement_texts script) printed refused mid × EndsUnless setting.halts mid new
