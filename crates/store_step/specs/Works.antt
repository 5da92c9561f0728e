-- What MERGEOUT and PURGE_TABLE leave where they weren't refused.
use Rattle.std.specs.Prelude.{ℕ, ◌≡◌, List, None, Result, IfOk, IsSomeAnd}
use Rattle.std.specs.List.{slice_get}
use Rattle.col_disk.specs.declared.disk.Disk.{Ghosts}
use Rattle.sql_words.specs.Symbols.{symbols_of}
use Rattle.sql_tree.specs.declared.statement.Function.{Function}
use Rattle.sql_tree.specs.declared.statement.Statement.{Statement}
use Rattle.sql_tree.specs.Spells.{Spells}
use Rattle.db_model.specs.State.{State}
use Rattle.store_core.specs.Jobs.{ArePurged}
use Rattle.store_core.specs.Running.{IsState, Running}
use Rattle.store_core.specs.Stepping.{NoneIsDue}
use Rattle.store_step.specs.declared.answer.Answer.{Answer}

-- the table of this name stands at a place, and is purged afterwards
abbrev pub IsPurged : List ℕ → Running → Running → Type 0
IsPurged name old new = (place : ℕ) × IsSomeAnd (slice_get old.seen.catalogue.tables place) (λ t. t.name ≡ name) × ArePurged place new

-- A MERGEOUT leaves no up-to-date projection that has four containers of a level. A PURGE_TABLE leaves no up-to-date projection of its table that
-- has a row deleted at or before the ancient history mark. The other statements have no such work.
abbrev pub Works : Statement → Running → Running → Type 0
Works (Statement.Call Function.Mergeout) old new = NoneIsDue new.seen.catalogue.tables
Works (Statement.Call (Function.Purge name)) old new = IsPurged name old new
Works s old new = Unit {0}

-- the statement that a text says leaves so
abbrev pub WorksOf : List ℕ → Running → Running → Type 0
WorksOf text old new = (s : Statement) → Spells (symbols_of text) s → Works s old new

-- over a state, and where the answer isn't a refusal
abbrev pub WhereDone : {D E : Type 0} → Ghosts D → Running → D → Result Answer E → Type 0 → Type 0
WhereDone disk is now result Left = IfOk result (λ a. a.refusal ≡ None → (state : State) → IsState disk is now state → Left)
