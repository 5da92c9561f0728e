-- A state after an INSERT: its rows are rows of a table, and fit.
use Rattle.std.proofs.Common.{◌≡◌, ℕ, Bool, true, false, cond, List, [], ◌∷◌, ◌++◌, length, map, refl, subst, arith}
use Rattle.std.specs.Prelude.{◌==◌, not, zip, Option, Some, None, option_map, option_and_then}
use Rattle.std.specs.List.{All, list_all, flat_map}
use Rattle.std.proofs.lemmas.List.Concat.{flat_map-cons}
use Rattle.std.proofs.lemmas.List.Elements.{All-nil, All-cons, All-head, All-tail}
use Rattle.col_value.specs.declared.column.Column.{Column}
use Rattle.col_value.specs.declared.wide.Wide.{Wide}
use Rattle.col_value.specs.Order.{IsRow, IsValue}
use Rattle.sql_tree.specs.declared.refusal.Refusal.{Refusal}
use Rattle.sql_tree.specs.declared.statement.Insert.{Insert}
use Rattle.sql_binding.specs.Firsts.{first_of, first_given, refused_where}
use Rattle.sql_binding.specs.Inserts.{pairs, wrong_count, is_of_column, narrowed, inserted_rows, insert_refusal, stored_refusal}
use Rattle.db_model.specs.Database.{Table}
use Rattle.db_model.specs.Events.{rows_pending}
use Rattle.db_model.specs.Refusals.{joining_limit, locked, rows_inserted_refusal}
use Rattle.db_model.specs.Sound.{IsSound}
use Rattle.db_model.specs.State.{State}
use Rattle.db_model.specs.Views.{columns_found, table_found}
use Rattle.sound_laws.proofs.Pairs.{all_front, all_back}
use Rattle.state_laws.specs.Rows.{AreStored}
use Rattle.state_laws.proofs.Events.{first_none, pending_state}
use Rattle.state_laws.proofs.Fits.{inserted_fit}
use Rattle.sound_laws.proofs.Storable.{stored_value}
use Rattle.row_setting.proofs.Accepted.{Stored, all_stored, mapped_none}
use Rattle.change_laws.proofs.Marked.{found_named}

-- ---- the rows are rows of a table

abbrev FillsColumns : List Column → List Wide → Type 0
FillsColumns columns row = length row ≡ length columns

counted : (columns : List Column) (row : List Wide) → wrong_count columns row ≡ None → FillsColumns columns row
counted columns row is = by (length row == length columns) refl is
  where
    by : (b : Bool) → (length row == length columns) ≡ b → cond {A = Option (ℕ × ℕ)} b None (Some (length row, length columns)) ≡ None → FillsColumns columns row
    by true same none = grind (arith, same)
    by false other some = absurd (cc)

all_counted : (columns : List Column) (rows : List (List Wide)) → first_given (wrong_count columns) rows ≡ None → All (FillsColumns columns) rows
all_counted columns [] none = All-nil (FillsColumns columns)
all_counted columns (row ∷ rows) none =
    let both = first_none (wrong_count columns row) (first_given (wrong_count columns) rows) none in
    All-cons (FillsColumns columns) row rows (counted columns row both.0) (all_counted columns rows both.1)

row_stored : (columns : List Column) (row : List Wide) → FillsColumns columns row → All Stored (zip columns row) → IsRow (map narrowed row)
row_stored columns [] same all = All-nil IsValue
row_stored [] (w ∷ row) same all = absurd (cc)
row_stored (c ∷ columns) (w ∷ row) same all =
    let here = All-head Stored (c, w) (zip columns row) all in
    All-cons IsValue (narrowed w) (map narrowed row) (stored_value c w here.range here.width)
    (row_stored columns row (omega (arith, same)) (All-tail Stored (c, w) (zip columns row) all))

rows_stored : (columns : List Column) (rows : List (List Wide)) → All (FillsColumns columns) rows → All Stored (pairs columns rows) → All IsRow (map (map narrowed) rows)
rows_stored columns [] long all = All-nil IsRow
rows_stored columns (row ∷ rows) long all =
    let both : All Stored (zip columns row ++ flat_map (zip columns) rows) = subst (All Stored) (flat_map-cons (zip columns) row rows) all in
    All-cons IsRow (map narrowed row) (map (map narrowed) rows)
    (row_stored columns row (All-head (FillsColumns columns) row rows long) (all_front Stored (zip columns row) (flat_map (zip columns) rows) both))
    (rows_stored columns rows (All-tail (FillsColumns columns) row rows long) (all_back Stored (zip columns row) (flat_map (zip columns) rows) both))

abbrev arity : ℕ × ℕ → Refusal
arity c = Refusal.Arity c.0 c.1

inserted_are_rows : (columns : List Column) (i : Insert) → AreStored columns i → All IsRow (inserted_rows i)
inserted_are_rows columns i stored =
    let ps = pairs columns i.rows in
    let wrong = first_given (wrong_count columns) i.rows in
    let literal = first_none (option_map arity wrong) (refused_where (not (list_all is_of_column ps)) Refusal.TypeMismatch) stored.0 in
    rows_stored columns i.rows (all_counted columns i.rows (mapped_none arity wrong literal.0)) (all_stored ps stored.1)

-- ---- the state

-- what tells that an INSERT isn't refused, whose table has these columns
record Accepted (state : State) (i : Insert) (columns : Option (List Column)) : Type 0 where
  literals : insert_refusal columns i ≡ None
  free : locked state i.table false ≡ None
  stored : option_and_then (λ cs. stored_refusal cs i) columns ≡ None

accepted_over : (state : State) (i : Insert) (columns : Option (List Column))
    → first_of (insert_refusal columns i) (first_of (joining_limit state i.table (length i.rows)) (first_of (locked state i.table false) (option_and_then (λ cs. stored_refusal cs i) columns))) ≡ None → Accepted state i columns
accepted_over state i columns none =
    let stored : Option Refusal = option_and_then (λ cs. stored_refusal cs i) columns in
    let free = first_of (locked state i.table false) stored in
    let limit = joining_limit state i.table (length i.rows) in
    let one = first_none (insert_refusal columns i) (first_of limit free) none in
    let two = first_none limit free one.1 in
    let three = first_none (locked state i.table false) stored two.1 in
    record { literals = one.0; free = three.0; stored = three.1 }

inserted_over : (state : State) (i : Insert) (o : Option (ℕ × Table)) → table_found i.table state.database.tables ≡ o → Accepted state i (option_map (λ e. e.1.columns) o) → IsSound state
    → IsSound (rows_pending i.table (inserted_rows i) state)
inserted_over state i None found accepted sound = let never : Some (Refusal.UnknownTable i.table) ≡ None = accepted.literals in absurd (cc)
inserted_over state i (Some e) found accepted sound =
    let stored : AreStored e.1.columns i = (accepted.literals, accepted.stored) in
    pending_state state i.table (inserted_rows i) e.1 (found_named i.table state.database.tables e found) (inserted_fit e.1.columns i stored (inserted_are_rows e.1.columns i stored)) accepted.free sound

pub inserted_state : (state : State) (i : Insert) → rows_inserted_refusal state i ≡ None → IsSound state → IsSound (rows_pending i.table (inserted_rows i) state)
inserted_state state i accepted sound =
    inserted_over state i (table_found i.table state.database.tables) refl (accepted_over state i (columns_found state.database.tables i.table) accepted) sound
