-- The laws of one step over states that no statement tells apart.
use Rattle.std.specs.Prelude.{ℕ, ◌≡◌, List, Bool, Option, None, is_some}
use Rattle.sql_words.specs.Symbols.{symbols_of}
use Rattle.sql_tree.specs.declared.refusal.Refusal.{Refusal}
use Rattle.sql_tree.specs.declared.statement.Function.{Function}
use Rattle.sql_tree.specs.declared.statement.Statement.{Statement}
use Rattle.sql_tree.specs.Spells.{Spells}
use Rattle.db_model.specs.State.{State}
use Rattle.db_model.specs.Loading.{Files}
use Rattle.db_model.specs.Alike.{AreAlikeStates}
use Rattle.db_model.specs.Numbers.{are_spent}
use Rattle.db_model.specs.Sound.{IsSound}
use Rattle.db_model.specs.Step.{Step}
use Rattle.one_text.specs.OneText.{AsksForJobs}
use Rattle.one_text.specs.Scripts.{AsksNoMover}

-- Two steps of a text that asks the mover for nothing, over alike states of which one is sound, and whose numbers are spent in both or in
-- neither: they print the same, are refused for the same cause, if at all, and leave alike states.
abbrev pub AlikeStatesStepAlike : Type 0
AlikeStatesStepAlike =
    (serves : Statement → Bool) (a b : State) (files : Files) (text p q : List ℕ) (why also : Option Refusal) (m n : State)
    → AreAlikeStates a b → IsSound a → AsksNoMover text → are_spent a ≡ are_spent b → Step serves a files text p why m → Step serves b files text q also n
    → (p ≡ q) × (why ≡ also) × AreAlikeStates m n

-- a statement of which the storage decides what it leaves: one step of the mover, and jobs of which there are as many as containers ask for
abbrev pub TheStorageDecides : Statement → Type 0
TheStorageDecides Statement.Step = Unit {0}
TheStorageDecides (Statement.Call Function.Mergeout) = Unit {0}
TheStorageDecides (Statement.Call (Function.Purge table)) = Unit {0}
TheStorageDecides s = ⊥

-- a text that says no such statement
abbrev pub IsDetermined : List ℕ → Type 0
IsDetermined text = (s : Statement) → TheStorageDecides s → Spells (symbols_of text) s → ⊥

-- Two calls of a function of several jobs over alike states, both refused or both not, print the same; where neither is, and the storage
-- doesn't decide, they leave alike states.
abbrev pub JobsStepAlike : Type 0
JobsStepAlike =
    (serves : Statement → Bool) (a b : State) (files : Files) (text p q : List ℕ) (why also : Option Refusal) (m n : State)
    → AreAlikeStates a b → AsksForJobs text → is_some why ≡ is_some also → Step serves a files text p why m → Step serves b files text q also n
    → (p ≡ q) × (why ≡ also) × (why ≡ None → IsDetermined text → AreAlikeStates m n)

-- Two steps of any determined text, refused in neither, print the same and leave alike states, however many numbers are left.
abbrev pub UnrefusedStepsAlike : Type 0
UnrefusedStepsAlike =
    (serves : Statement → Bool) (a b : State) (files : Files) (text p q : List ℕ) (m n : State)
    → AreAlikeStates a b → IsSound a → IsDetermined text → Step serves a files text p None m → Step serves b files text q None n → (p ≡ q) × AreAlikeStates m n
