-- What a run leaves to be seen in the folder of the work of its last statement.
use Rattle.std.specs.Prelude.{ℕ, ◌≡◌, ◌++◌, ◌||◌, Bool, List, [], ◌∷◌, Option, Some, None, is_some, Result, IfOk}
use Rattle.common_laws.specs.Maps.{Contents}
use Rattle.common_laws.specs.Told.{Appends}
use Rattle.col_disk.specs.declared.disk.Disk.{Ghosts}
use Rattle.sql_words.specs.Symbols.{symbols_of}
use Rattle.sql_tree.specs.declared.refusal.Refusal.{Refusal}
use Rattle.sql_tree.specs.declared.statement.Function.{Function}
use Rattle.sql_tree.specs.declared.statement.Statement.{Statement}
use Rattle.sql_tree.specs.Spells.{Spells}
use Rattle.db_model.specs.State.{State}
use Rattle.db_model.specs.Run.{Setting, Passes, RunTexts}
use Rattle.store_step.specs.Shown.{ShowsMerged, ShowsPurged}
use Rattle.vert_cli.specs.declared.faults.Outcome.{Outcome}
use Rattle.vert_cli.specs.declared.faults.RunFault.{RunFault}
use Rattle.vert_cli.specs.Runs.{LeavesNow}

-- Behind a MERGEOUT a folder lists no up-to-date projection that has four containers of a level. Behind a PURGE_TABLE it lists the table, and no
-- up-to-date projection of that holds a row that was deleted at or before the ancient history mark. The other statements have no such work.
abbrev pub Shows : Statement → Contents → Type 0
Shows (Statement.Call Function.Mergeout) m = ShowsMerged m
Shows (Statement.Call (Function.Purge name)) m = ShowsPurged name m
Shows s m = Unit {0}

-- so it is of the statement that a text says
abbrev pub ShowsOf : List ℕ → Contents → Type 0
ShowsOf text m = (s : Statement) → Spells (symbols_of text) s → Shows s m

-- the disk tells contents that show it, and whatever a crash leaves shows it
pub record IsShown {D : Type 0} (disk : Ghosts D) (text : List ℕ) (now : D) : Type 0 where
  pub files : Contents
  pub told : disk.holds now ≡ Some files
  pub shows : ShowsOf text files
  pub left : LeavesNow disk (ShowsOf text) now

-- of a statement that wasn't refused
abbrev pub HasShown : {D : Type 0} → Ghosts D → List ℕ → D → Result Outcome RunFault → Type 0
HasShown disk text now result = IfOk result (λ outcome. outcome ≡ Outcome.Done → IsShown disk text now)

-- The last of some texts that ran over a state. The sink took what the others print, and then the answer of this one, which its step ties to why it
-- is refused, if it is. Where it isn't, its work is shown, whatever was refused before it.
pub record ShowsLast {D : Type 0} (disk : Ghosts D) (setting : Setting) (start : State) (first : List (List ℕ)) (text : List ℕ) (refused : Bool) (now : D) (before after : Option (List ℕ)) : Type 0 where
  pub printed : List ℕ
  pub earlier : Bool
  pub mid : State
  pub ran : RunTexts setting start first printed earlier mid
  pub answer : List ℕ
  pub why : Option Refusal
  pub new : State
  pub passes : Passes setting mid text answer why new
  pub taken : Appends before after (printed ++ answer)
  pub refused_is : refused ≡ (earlier || is_some why)
  pub shown : why ≡ None → IsShown disk text now

-- so it is of texts, where there is a last one
abbrev pub ShowsLastOf : {D : Type 0} → Ghosts D → Setting → State → List (List ℕ) → Bool → D → Option (List ℕ) → Option (List ℕ) → Type 0
ShowsLastOf disk setting start texts refused now before after = (first : List (List ℕ)) (text : List ℕ) → texts ≡ first ++ text ∷ [] → ShowsLast disk setting start first text refused now before after
