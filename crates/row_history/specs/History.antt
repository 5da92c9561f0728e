-- The history of rows: each carries the epoch of the commit that inserted it and, once deleted, of the commit that deleted it.
use Rattle.std.specs.Prelude.{ℕ, ◌==◌, ◌&&◌, ◌++◌, not, nat_le, nat_lt, if◌then◌else◌, Bool, true, false, List, [], ◌∷◌, map, filter, Option, Some, None, is_none}
use Rattle.std.specs.Ordering.{is_eq}
use Rattle.std.specs.Option.{option_map_or}
use Rattle.common_laws.specs.Bags.{SameBag}
use Rattle.col_value.specs.declared.value.Value.{Value}
use Rattle.col_value.specs.declared.row.Stamped.{Stamped}
use Rattle.col_value.specs.declared.row.Asked.{Asked}
use Rattle.col_value.specs.Order.{row_cmp, projected}

-- a row is visible at an epoch where it was inserted at or before it and not deleted at or before it
abbrev pub is_visible : ℕ → Stamped → Bool
is_visible epoch s = nat_le s.ins epoch && not (option_map_or (λ e. nat_le e epoch) s.del false)

abbrev pub visible : ℕ → List Stamped → List (List Value)
visible epoch rows = map (λ s. s.row) (filter (is_visible epoch) rows)

-- a row is retained from a mark on where it has no delete epoch, or one above the mark
abbrev pub is_retained : ℕ → Stamped → Bool
is_retained mark s = option_map_or (λ e. nat_lt mark e) s.del true

abbrev pub retained : ℕ → List Stamped → List Stamped
retained mark rows = filter (is_retained mark) rows

-- a delete epoch up to an epoch; a later one is gone
abbrev pub cut_delete : ℕ → Option ℕ → Option ℕ
cut_delete epoch None = None
cut_delete epoch (Some d) = if nat_le d epoch then Some d else None

abbrev pub cut_row : ℕ → Stamped → Stamped
cut_row epoch s = record s { del = cut_delete epoch s.del }

-- the rows that were inserted up to an epoch, without the deletes after it
abbrev pub cut_rows : ℕ → List Stamped → List Stamped
cut_rows epoch rows = map (cut_row epoch) (filter (λ s. nat_le s.ins epoch) rows)

-- a row with these columns alone
abbrev pub on_columns : List ℕ → Stamped → Stamped
on_columns columns s = record s { row = projected s.row columns }

abbrev pub asked_on : List ℕ → Asked → Asked
asked_on columns a = record a { row = projected a.row columns }

-- a row that a commit inserts
abbrev pub inserted_at : ℕ → List Value → Stamped
inserted_at epoch row = record { row = row; ins = epoch; del = None }

-- a row with its delete epoch, if it has one
abbrev pub stamped : Option ℕ → Asked → Stamped
stamped del a = record { row = a.row; ins = a.ins; del = del }

-- an undeleted row with these values and this insert epoch
abbrev pub is_asked : Asked → Stamped → Bool
is_asked asked s = is_none s.del && ((s.ins == asked.ins) && is_eq (row_cmp s.row asked.row))

-- one such row is deleted at an epoch
abbrev pub mark_one : ℕ → Asked → List Stamped → List Stamped
mark_one epoch asked [] = []
mark_one epoch asked (s ∷ rows) = if is_asked asked s then (record s { del = Some epoch }) ∷ rows else s ∷ mark_one epoch asked rows

-- for each of these one such row
abbrev pub mark_all : ℕ → List Asked → List Stamped → List Stamped
mark_all epoch [] rows = rows
mark_all epoch (asked ∷ more) rows = mark_all epoch more (mark_one epoch asked rows)

-- these lie within the undeleted rows, each as often as it is asked for
abbrev pub Within : List Asked → List Stamped → Type 0
Within asked rows = (rest : List Stamped) × SameBag rows (map (stamped None) asked ++ rest)

-- of the old rows these, undeleted there, are deleted at an epoch in the new ones, and no other row changed
abbrev pub Takes : ℕ → List Asked → List Stamped → List Stamped → Type 0
Takes epoch asked old new = SameBag (map (stamped (Some epoch)) asked ++ old) (map (stamped None) asked ++ new)
