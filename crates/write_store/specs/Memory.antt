-- Rows in memory, and which of them are deleted.
use Rattle.std.specs.Prelude.{ℕ, ◌≡◌, ◌==◌, ◌+◌, ◌++◌, if◌then◌else◌, Bool, List, [], ◌∷◌, map, IsSomeAnd, Option, Some, None}
use Rattle.std.specs.List.{All, slice_get, list_any}
use Rattle.col_value.specs.declared.row.Asked.{Asked}
use Rattle.col_value.specs.declared.row.Stamped.{Stamped}
use Rattle.col_value.specs.declared.value.Value.{Value}
use Rattle.col_value.specs.Order.{IsRow}
use Rattle.write_store.specs.declared.held.Held.{Held}

-- a row in memory is a row with its epochs
abbrev pub stamp : Held → Stamped
stamp h = record { row = h.inserted.row; ins = h.inserted.ins; del = h.del }

abbrev pub held_of : Option ℕ → Asked → Held
held_of del a = record { inserted = record { ins = a.ins; row = a.row }; del = del }

-- rows of values of a table
abbrev pub AreHeldRows : List Held → Type 0
AreHeldRows rows = All (λ h. IsRow h.inserted.row) rows

-- the rows in the order in which they came, and for how many more there is room
pub record Memory : Type 0 where
  pub rows : List Stamped
  pub spare : ℕ

abbrev pub seen : List Held → ℕ → Memory
seen held spare = record { rows = map stamp held; spare = spare }

-- at this place stands a row that isn't deleted
abbrev pub IsLive : List Stamped → ℕ → Type 0
IsLive rows place = IsSomeAnd (slice_get rows place) (λ s. s.del ≡ None)

abbrev pub is_in : ℕ → List ℕ → Bool
is_in i places = list_any (λ p. p == i) places

-- rows from a place on, each deleted by the epoch where its place is one of these
abbrev pub deleted_from : ℕ → ℕ → List ℕ → List Stamped → List Stamped
deleted_from i epoch places [] = []
deleted_from i epoch places (s ∷ rows) = (if is_in i places then record s { del = Some epoch } else s) ∷ deleted_from (i + 1) epoch places rows

abbrev pub deleted_at : ℕ → List ℕ → List Stamped → List Stamped
deleted_at epoch places rows = deleted_from 0 epoch places rows

-- a row with one value more, at its end
abbrev pub with_value : Value → Stamped → Stamped
with_value v s = record s { row = s.row ++ v ∷ [] }

-- and so a row in memory
abbrev pub wider : Value → Held → Held
wider v h = record h { inserted = record (h.inserted) { row = h.inserted.row ++ v ∷ [] } }
