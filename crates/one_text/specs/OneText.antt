-- The laws that a statement and a query have one text.
use Rattle.std.specs.Prelude.{ℕ, ◌≡◌, ◌≤◌, List, Bool, Option, None, is_some}
use Rattle.sql_words.specs.Symbols.{symbols_of}
use Rattle.sql_tree.specs.declared.query.At.{At}
use Rattle.sql_tree.specs.declared.query.Query.{Query}
use Rattle.sql_tree.specs.declared.refusal.Refusal.{Refusal}
use Rattle.sql_tree.specs.declared.statement.Function.{Function}
use Rattle.sql_tree.specs.declared.statement.Statement.{Statement}
use Rattle.sql_tree.specs.Spells.{Spells}
use Rattle.db_model.specs.State.{State}
use Rattle.db_model.specs.Loading.{Files}
use Rattle.db_model.specs.Alike.{AreAlikeStates}
use Rattle.db_model.specs.Refusals.{Refuses}
use Rattle.db_model.specs.Refusing.{epoch_refusal}
use Rattle.db_model.specs.Printing.{Prints}
use Rattle.db_model.specs.Step.{Step}

-- functions that do several jobs, one after the other, each of which may find the numbers spent
abbrev pub HasJobs : Function → Type 0
HasJobs Function.Moveout = Unit {0}
HasJobs Function.Mergeout = Unit {0}
HasJobs (Function.Purge table) = Unit {0}
HasJobs (Function.Refresh table) = Unit {0}
HasJobs f = ⊥

-- a text that calls for such
abbrev pub AsksForJobs : List ℕ → Type 0
AsksForJobs text = (f : Function) × HasJobs f × Spells (symbols_of text) (Statement.Call f)

-- Two steps of one statement text over one state print the same bytes and are refused for the same cause, if at all; a function of several
-- jobs may be refused in one and not in the other, since the numbers that its jobs draw may be spent in the one alone.
abbrev pub StatementsHaveOneText : Type 0
StatementsHaveOneText =
    (serves : Statement → Bool) (old : State) (files : Files) (text p q : List ℕ) (why also : Option Refusal) (m n : State)
    → Step serves old files text p why m → Step serves old files text q also n → (AsksForJobs text → ⊥) → (p ≡ q) × (why ≡ also)

-- These, too, print the same in two steps that are both refused or both not.
abbrev pub StepsOfOneFate : Type 0
StepsOfOneFate =
    (serves : Statement → Bool) (old : State) (files : Files) (text p q : List ℕ) (why also : Option Refusal) (m n : State)
    → Step serves old files text p why m → Step serves old files text q also n → is_some why ≡ is_some also → (p ≡ q) × (why ≡ also)

-- A query over two states that no statement tells apart, whose mark isn't above their newest epoch, is refused in both for the same
-- cause or in neither.
abbrev pub QueriesHaveOneCause : Type 0
QueriesHaveOneCause =
    (a b : State) (files : Files) (at : At) (q : Query) (why also : Option Refusal) → AreAlikeStates a b → a.database.ahm ≤ a.database.last
    → Refuses a files (Statement.Select at q) why → Refuses b files (Statement.Select at q) also → why ≡ also

-- And it prints the same, where the epoch asked for isn't before the mark; what it reads is the same but for the order of the rows.
abbrev pub QueriesHaveOneText : Type 0
QueriesHaveOneText =
    (a b : State) (files : Files) (at : At) (q : Query) (p r : List ℕ) → AreAlikeStates a b → a.database.ahm ≤ a.database.last → epoch_refusal a.database.ahm a.database.last at ≡ None
    → Prints a files (Statement.Select at q) p → Prints b files (Statement.Select at q) r → p ≡ r

-- So two steps of a SELECT over such states print the same bytes and are refused for the same cause, if at all.
abbrev pub SelectsHaveOneText : Type 0
SelectsHaveOneText =
    (serves : Statement → Bool) (a b : State) (files : Files) (at : At) (query : Query) (text p q : List ℕ) (why also : Option Refusal) (m n : State)
    → Spells (symbols_of text) (Statement.Select at query) → AreAlikeStates a b → a.database.ahm ≤ a.database.last → Step serves a files text p why m → Step serves b files text q also n
    → (p ≡ q) × (why ≡ also)
