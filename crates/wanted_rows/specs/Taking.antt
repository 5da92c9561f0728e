-- Rows of which some are deleted at an epoch, and what is wanted still.
use Rattle.std.specs.Prelude.{ℕ, ◌≡◌, ◌+◌, if◌then◌else◌, List, Option, Some, None}
use Rattle.std.specs.List.{All}
use Rattle.col_value.specs.declared.row.Asked.{Asked}
use Rattle.col_value.specs.declared.row.Stamped.{Stamped}
use Rattle.row_history.specs.History.{Takes}
use Rattle.write_store.specs.Memory.{is_in}
use Rattle.wanted_rows.specs.Wanted.{tally}

abbrev pub asked_of : Stamped → Asked
asked_of s = record { row = s.row; ins = s.ins }

-- no row that isn't deleted is wanted still
abbrev pub NoneWanted : (Asked → ℕ) → List Stamped → Type 0
NoneWanted need rows = All (λ s. s.del ≡ None → need (asked_of s) ≡ 0) rows

-- of the old rows some that were wanted are deleted at an epoch, and no other that isn't deleted is wanted still
pub record Took (epoch : ℕ) (old new : List Stamped) (need left : Asked → ℕ) : Type 0 where
  pub asked : List Asked
  pub taken : (q : Asked) → need q ≡ tally q asked + left q
  pub takes : Takes epoch asked old new
  pub none : NoneWanted left new

-- the epochs that delete rows, with one more at some places
abbrev pub marked_at : ℕ → List ℕ → (ℕ → Option ℕ) → ℕ → Option ℕ
marked_at epoch places mark i = if is_in i places then Some epoch else mark i
