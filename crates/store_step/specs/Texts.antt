-- What a text was read as, and what an answer says.
use Rattle.std.specs.Prelude.{ℕ, ◌≡◌, ◌≤◌, List, Some, None, Result, Ok, Err, IfOk, OnOk}
use Rattle.sql_words.specs.Symbols.{symbols_of}
use Rattle.sql_tree.specs.declared.refusal.Refusal.{Refusal}
use Rattle.sql_tree.specs.declared.statement.Statement.{Statement}
use Rattle.sql_tree.specs.Lines.{refusal_text}
use Rattle.sql_tree.specs.Phrases.{IsPlace}
use Rattle.sql_tree.specs.Spells.{Spells}
use Rattle.name_binder.specs.declared.fault.BindFault.{BindFault}
use Rattle.col_disk.specs.declared.disk.StoreFault.{StoreFault}
use Rattle.col_disk.specs.declared.disk.StoreFault.TheVariants as store
use Rattle.store_core.specs.SelectFault.{SelectFault}
use Rattle.store_core.specs.SelectFault.TheVariants as select
use Rattle.store_step.specs.declared.answer.Answer.{Answer}
use Rattle.store_step.specs.declared.reading.Reading.{Reading}

-- a session that is named has a number from 1 to 8
abbrev pub HasRange : Statement → Type 0
HasRange (Statement.Session n) = (1 ≤ n) × (n ≤ 8)
HasRange s = Unit {0}

-- the statement that the text spells, or the exact place at which it spells none
abbrev pub IsReading : List ℕ → Reading → Type 0
IsReading text (Reading.Says s) = Spells (symbols_of text) s × HasRange s
IsReading text (Reading.Wrong place) = IsPlace Spells (symbols_of text) place

-- an answer without a refusal
pub record Says (printed : List ℕ) (a : Answer) : Type 0 where
  pub text : a.text.items ≡ printed
  pub accepted : a.refusal ≡ None

-- an answer that is a refusal's ERROR line
pub record Refused (why : Refusal) (a : Answer) : Type 0 where
  pub text : a.text.items ≡ refusal_text why
  pub refusal : a.refusal ≡ Some why

-- an answer was made so, or memory was short
abbrev pub IsMade : (Answer → Type 0) → Result Answer StoreFault → Type 0
IsMade Is (Ok a) = Is a
IsMade Is (Err e) = e ≡ store.Memory

-- a query has no rows: a sum is too great, which is refused, or there is a fault
abbrev pub IsMissed : SelectFault → Result Answer StoreFault → Type 0
IsMissed select.SumOutOfRange result = IsMade (Refused Refusal.SumOutOfRange) result
IsMissed select.Disk result = result ≡ Err store.Disk
IsMissed (select.Damaged q) result = result ≡ Err (store.Damaged q)
IsMissed select.Memory result = result ≡ Err store.Memory

-- a statement that has no plan: it is refused, or memory was short
abbrev pub IsUnplanned : {E : Type 0} → BindFault → Result Answer E → Type 0
IsUnplanned (BindFault.Refused r) result = IfOk result (Refused r)
IsUnplanned BindFault.Memory result = OnOk result ⊥
