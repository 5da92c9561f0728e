-- One statement text over a state: what it says, whether it is refused, what it prints and what it leaves.
use Rattle.std.specs.Prelude.{ℕ, ◌≡◌, Bool, true, false, List, Option, Some, None}
use Rattle.sql_words.specs.Symbols.{symbols_of}
use Rattle.sql_tree.specs.declared.statement.Statement.{Statement}
use Rattle.sql_tree.specs.declared.refusal.Refusal.{Refusal}
use Rattle.sql_tree.specs.Phrases.{IsPlace}
use Rattle.sql_tree.specs.Spells.{Spells}
use Rattle.sql_tree.specs.Lines.{refusal_text}
use Rattle.db_model.specs.State.{State}
use Rattle.db_model.specs.Loading.{Files}
use Rattle.db_model.specs.Refusals.{Refuses}
use Rattle.db_model.specs.Leaving.{StatementLeaves, RefusedLeaves}
use Rattle.db_model.specs.Printing.{Prints}

-- what a text says: the statement that its tokens spell, or none where they spell none
abbrev pub Reads : List ℕ → Option Statement → Type 0
Reads text (Some s) = Spells (symbols_of text) s
Reads text None = (s : Statement) → Spells (symbols_of text) s → ⊥

-- a statement of a form that isn't served is refused as such; any other for its own reasons
abbrev pub RefusesForm : State → Files → Statement → Bool → Option Refusal → Type 0
RefusesForm state files s true why = Refuses state files s why
RefusesForm state files s false why = why ≡ Some Refusal.NotBuilt

-- Why a text is refused, if it is: what spells no statement is refused at the exact place of the first token with which no statement
-- goes on, and a statement for its own reasons, where its form is served.
abbrev pub Decides : (Statement → Bool) → State → Files → List ℕ → Option Statement → Option Refusal → Type 0
Decides serves state files text None why = (place : ℕ) × IsPlace Spells (symbols_of text) place × (why ≡ Some (Refusal.Syntax place))
Decides serves state files text (Some s) why = RefusesForm state files s (serves s) why

-- what a text leaves that is refused
abbrev pub RefusedTextLeaves : State → Option Statement → State → Type 0
RefusedTextLeaves old None new = new ≡ old
RefusedTextLeaves old (Some s) new = RefusedLeaves old s new

-- A refused statement prints its ERROR line, and nothing changes. Any other prints and leaves what it is defined to.
abbrev pub Effect : State → Files → Option Statement → Option Refusal → List ℕ → State → Type 0
Effect old files read (Some refusal) printed new = (printed ≡ refusal_text refusal) × RefusedTextLeaves old read new
Effect old files (Some s) None printed new = Prints old files s printed × StatementLeaves old files s new
Effect old files None None printed new = ⊥

-- One statement text in a state, over load files and for the forms that are served: what it prints, whether it was refused, and the new
-- state.
pub record Step (serves : Statement → Bool) (old : State) (files : Files) (text printed : List ℕ) (refusal : Option Refusal) (new : State) : Type 0 where
  pub read : Option Statement
  pub reads : Reads text read
  pub decided : Decides serves old files text read refusal
  pub effect : Effect old files read refusal printed new
