-- Each text has a step.
use Rattle.std.proofs.Common.{ℕ, inl, inr, Bool, true, false, List, refl}
use Rattle.std.specs.Prelude.{Option, Some, None}
use Rattle.sql_words.specs.Symbols.{symbols_of}
use Rattle.sql_tree.specs.declared.refusal.Refusal.{Refusal}
use Rattle.sql_tree.specs.declared.statement.Statement.{Statement}
use Rattle.sql_tree.specs.Lines.{refusal_text}
use Rattle.db_model.specs.Loading.{Files}
use Rattle.db_model.specs.State.{State}
use Rattle.db_model.specs.Step.{Effect, RefusesForm, Step}
use Rattle.steps_exist.proofs.Answered.{all_stays, answered}
use Rattle.steps_exist.proofs.Moves.{HasNames}
use Rattle.steps_exist.proofs.Spelled.{SpellOrStop, spelled_or_stopped}

-- what a statement is answered, served or not
record Formed (old : State) (files : Files) (s : Statement) (served : Bool) : Type 0 where
  refusal : Option Refusal
  printed : List ℕ
  new : State
  refuses : RefusesForm old files s served refusal
  effect : Effect old files (Some s) refusal printed new

formed : (old : State) (files : Files) (s : Statement) (served : Bool) → HasNames old.database → Formed old files s served
formed old files s true names =
    let is = answered old files s names in
    record { refusal = is.refusal; printed = is.printed; new = is.new; refuses = is.refuses; effect = is.effect }
formed old files s false names = record { refusal = Some Refusal.NotBuilt; printed = refusal_text Refusal.NotBuilt; new = old; refuses = refl; effect = (refl, all_stays old s) }

abbrev pub SomeStep : (Statement → Bool) → State → Files → List ℕ → Type 0
SomeStep serves old files text = (printed : List ℕ) × (refusal : Option Refusal) × (new : State) × Step serves old files text printed refusal new

by_reading : (serves : Statement → Bool) (old : State) (files : Files) (text : List ℕ) → HasNames old.database → SpellOrStop (symbols_of text) → SomeStep serves old files text
by_reading serves old files text names (inl (s, spells)) =
    let is = formed old files s (serves s) names in
    (is.printed, is.refusal, is.new, record { read = Some s; reads = spells; decided = is.refuses; effect = is.effect })
by_reading serves old files text names (inr (place, is)) =
    (refusal_text (Refusal.Syntax place), Some (Refusal.Syntax place), old, record { read = None; reads = is.unspelled; decided = (place, is, refl); effect = (refl, refl) })

pub step_there : (serves : Statement → Bool) (old : State) (files : Files) (text : List ℕ) → HasNames old.database → SomeStep serves old files text
step_there serves old files text names = by_reading serves old files text names (spelled_or_stopped (symbols_of text))
