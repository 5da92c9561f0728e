-- The rows that an UPDATE makes fit their columns, and the state after it.
use Rattle.std.proofs.Common.{◌≡◌, ◌≤◌, ◌<◌, ℕ, ◌+◌, zero, suc, min, Bool, true, false, cond, List, [], ◌∷◌, length, get_or, map, filter, set, Option, Some, None, refl, sym, ◌∙◌, ap, subst, arith}
use Rattle.std.specs.Prelude.{nat_lt, option_and_then, option_map, slice_index_or}
use Rattle.std.specs.List.{All, AllZip}
use Rattle.std.specs.Option.{option_map_or}
use Rattle.std.proofs.lemmas.Bool.Decides.{nat_tests}
use Rattle.std.proofs.lemmas.List.Elements.{All-append, All-cons, All-filter, All-head, All-map, All-nil, All-set, All-tail}
use Rattle.col_value.specs.declared.column.Column.{Column}
use Rattle.col_value.specs.declared.kinds.ColType.{ColType}
use Rattle.col_value.specs.declared.row.Asked.{Asked}
use Rattle.col_value.specs.declared.value.Value.{Value}
use Rattle.col_value.specs.declared.wide.Wide.{Wide}
use Rattle.col_value.specs.declared.wide.Wide.TheVariants as wide
use Rattle.col_value.specs.Order.{IsValue}
use Rattle.row_history.specs.History.{is_visible}
use Rattle.sql_tree.specs.declared.statement.Update.{Update}
use Rattle.sql_bound.specs.declared.expr.Expr.{Expr}
use Rattle.sql_bound.specs.declared.expr.Kind.{Kind}
use Rattle.sql_bound.specs.Kinds.{is_of, kind_of, kind_of_column, kind_of_value, serves}
use Rattle.sql_bound.specs.Outputs.{is_kept}
use Rattle.sql_bound.specs.Values.{of_row, value_of}
use Rattle.sql_binding.specs.Changes.{is_typed_setting, update_refusal}
use Rattle.sql_binding.specs.Firsts.{first_of}
use Rattle.sql_binding.specs.Inserts.{is_refused_null, is_too_long, narrowed, width_of}
use Rattle.db_model.specs.Database.{Database, Table, table_named}
use Rattle.db_model.specs.State.{State, Changes, own_changes, pending_deletes, pending_rows}
use Rattle.db_model.specs.Events.{matched_rows, on_table, rows_updated, set_row, set_values, update_keep, update_sets, updated_new, updated_old}
use Rattle.db_model.specs.Refusals.{all_pairs, locked, pairs_refusal, rows_left, rows_updated_refusal, update_refusal_over}
use Rattle.db_model.specs.Refusing.{rows_limit}
use Rattle.db_model.specs.Sound.{IsSound, IsSoundTable, RowFits, TextFits, ValueFits}
use Rattle.db_model.specs.Views.{asked_of, committed_view, less, less_one, is_same_asked, table_found}
use Rattle.sound_laws.proofs.Changes.{HasFitting, all_fit}
use Rattle.state_laws.proofs.Tables.{named_so}
use Rattle.state_laws.proofs.Events.{first_none, own_is_sound}
use Rattle.sound_laws.proofs.Storable.{stored_value}
use Rattle.row_setting.proofs.Accepted.{IsSetTo, Stored, all_stored, set_to}
use Rattle.row_setting.proofs.Flawed.{worth_in}
use Rattle.change_laws.proofs.Typed.{column_kinds, of_columns, typed_serves}
use Rattle.change_laws.proofs.Known.{places_there, settings_typed}
use Rattle.change_laws.proofs.Marked.{found_named, marked_state, named_sound}

-- ---- one value

number_fits : (kind : ColType) → serves Kind.Number (kind_of_column kind) ≡ true → kind ≡ ColType.Integer
number_fits ColType.Integer is = refl
number_fits (ColType.Varchar n) is = cc
number_fits ColType.Boolean is = cc
number_fits ColType.Date is = cc

truth_fits : (kind : ColType) → serves Kind.Truth (kind_of_column kind) ≡ true → kind ≡ ColType.Boolean
truth_fits ColType.Integer is = cc
truth_fits (ColType.Varchar n) is = cc
truth_fits ColType.Boolean is = refl
truth_fits ColType.Date is = cc

date_fits : (kind : ColType) → serves Kind.Date (kind_of_column kind) ≡ true → kind ≡ ColType.Date
date_fits ColType.Integer is = cc
date_fits (ColType.Varchar n) is = cc
date_fits ColType.Boolean is = cc
date_fits ColType.Date is = refl

text_fits : (kind : ColType) (t : List ℕ) → serves Kind.Text (kind_of_column kind) ≡ true → nat_lt (width_of kind) (length t) ≡ false → TextFits kind t
text_fits ColType.Integer t is short = cc
text_fits (ColType.Varchar n) t is short = let to : length t ≤ min n 65000 = grind (arith, nat_tests) in omega (arith, to)
text_fits ColType.Boolean t is short = cc
text_fits ColType.Date t is short = cc

-- a value of a column's kind that isn't refused there fits it
value_fits : (c : Column) (w : Wide) → serves (kind_of_value w) (kind_of_column c.kind) ≡ true → is_too_long (c, w) ≡ false → is_refused_null (c, w) ≡ false → ValueFits c (narrowed w)
value_fits c wide.Null right short there = there
value_fits c (wide.Bool b) right short there = truth_fits c.kind right
value_fits c (wide.Int n) right short there = number_fits c.kind right
value_fits c (wide.Date d) right short there = date_fits c.kind right
value_fits c (wide.Text t) right short there = text_fits c.kind t right short

-- ---- one row

at_place : (columns : List Column) (row : List Value) (i : ℕ) (d : Column) (v : Value) → i < length columns → AllZip ValueFits columns row → ValueFits (get_or columns i d) v → AllZip ValueFits columns (set row i v)
at_place [] row i d v lt fits here = absurd (omega (arith, lt))
at_place (c ∷ columns) [] i d v lt fits here = absurd fits
at_place (c ∷ columns) (x ∷ row) zero d v lt fits here = (here, fits.1)
at_place (c ∷ columns) (x ∷ row) (suc i) d v lt fits here = (fits.0, at_place columns row i d v (omega (arith, lt)) fits.1 here)

-- what a setting sets in a row fits its column
record FitsAt (columns : List Column) (old : List Value) (s : ℕ × Expr) : Type 0 where
  there : s.0 < length columns
  stored : (d : Column) → Stored (worth_in (get_or columns s.0 d) s old)
  typed : is_typed_setting (of_columns (column_kinds columns)) s ≡ true

blank : Column
blank = record { name = []; kind = ColType.Integer; not_null = false }

kind_at : (columns : List Column) (i : ℕ) (d : Column) → i < length columns → slice_index_or (column_kinds columns) i Kind.Null ≡ kind_of_column (get_or columns i d).kind
kind_at [] i d lt = absurd (omega (arith, lt))
kind_at (c ∷ columns) zero d lt = refl
kind_at (c ∷ columns) (suc i) d lt = kind_at columns i d (omega (arith, lt))

one_set : (columns : List Column) (old row : List Value) (s : ℕ × Expr) → FitsAt columns old s → RowFits columns old → RowFits columns row → RowFits columns (set row s.0 (narrowed (value_of (of_row old) s.1)))
one_set columns old row s at fits_old fits =
    let c = get_or columns s.0 blank in
    let w = value_of (of_row old) s.1 in
    let is = at.stored blank in
    let want : is_of (kind_of_column c.kind) (kind_of (of_columns (column_kinds columns)) s.1) ≡ true = subst (λ (k : Kind). is_of k (kind_of (of_columns (column_kinds columns)) s.1) ≡ true) (kind_at columns s.0 blank at.there) at.typed in
    let right : serves (kind_of_value w) (kind_of_column c.kind) ≡ true = typed_serves columns old s.1 (kind_of_column c.kind) fits_old.each want in
    record {
      values = All-set IsValue row s.0 (narrowed w) (stored_value c w is.range is.width) fits.values;
      each = at_place columns row s.0 blank (narrowed w) at.there fits.each (value_fits c w right is.width is.null);
    }

sets_fit : (columns : List Column) (sets : List (ℕ × Expr)) (old row : List Value) → All (FitsAt columns old) sets → RowFits columns old → RowFits columns row → RowFits columns (set_values sets old row)
sets_fit columns [] old row all fits_old fits = fits
sets_fit columns (s ∷ sets) old row all fits_old fits =
    sets_fit columns sets old (set row s.0 (narrowed (value_of (of_row old) s.1))) (All-tail (FitsAt columns old) s sets all) fits_old
    (one_set columns old row s (All-head (FitsAt columns old) s sets all) fits_old fits)

-- ---- all rows

-- rows that fit fit still where values are set that nothing refuses
rows_fit : (columns : List Column) (sets : List (ℕ × Expr)) (rows : List (List Value)) → All (λ s. s.0 < length columns) sets → All (λ s. is_typed_setting (of_columns (column_kinds columns)) s ≡ true) sets → pairs_refusal (all_pairs sets rows columns) ≡ None
    → All (RowFits columns) rows → All (RowFits columns) (map (set_row sets) rows)
rows_fit columns sets rows places typed none fit =
    All-map (RowFits columns) (set_row sets) rows (λ i row lt.
    let old = get_or rows i row in
    sets_fit columns sets old old (λ k s below. record { there = places k s below; stored = λ d. stored k s below d i row lt; typed = typed k s below }) (fit i row lt) (fit i row lt))
  where
    stored : All (IsSetTo Stored columns rows) sets
    stored = set_to Stored sets rows columns (all_stored (all_pairs sets rows columns) none) places

-- ---- the matched rows

less_one_all : (P : Asked → Type 0) (gone : Asked) (rows : List Asked) → All P rows → All P (less_one gone rows)
less_one_all P gone [] all = all
less_one_all P gone (a ∷ rows) all = by (is_same_asked a gone) (less_one_all P gone rows (All-tail P a rows all))
  where
    by : (b : Bool) → All P (less_one gone rows) → All P (cond b rows (a ∷ less_one gone rows))
    by true rest = All-tail P a rows all
    by false rest = All-cons P a (less_one gone rows) (All-head P a rows all) rest

less_all : (P : Asked → Type 0) (gone rows : List Asked) → All P rows → All P (less gone rows)
less_all P [] rows all = all
less_all P (g ∷ gone) rows all = less_all P gone (less_one g rows) (less_one_all P g rows all)

matched_fit : (state : State) (t : Table) (keep : List Expr) → table_named t.name state.database.tables ≡ Some t → IsSound state → All (RowFits t.columns) (matched_rows keep (own_changes state) state.database.last t)
matched_fit state t keep there sound =
    All-append (RowFits t.columns) (filter (is_kept keep) (map (λ a. a.row) view)) (filter (is_kept keep) (pending_rows t.name own))
    (All-filter (is_kept keep) (RowFits t.columns) (map (λ a. a.row) view) (All-map (RowFits t.columns) (λ a. a.row) view committed))
    (All-filter (is_kept keep) (RowFits t.columns) (pending_rows t.name own) pending)
  where
    d : Database
    d = state.database

    own : List Changes
    own = own_changes state

    view : List Asked
    view = committed_view d.last own t

    table : IsSoundTable d t
    table = named_sound (IsSoundTable d) t.name d.tables t sound.database.tables there

    committed : All (λ a. RowFits t.columns a.row) view
    committed =
        less_all (λ a. RowFits t.columns a.row) (pending_deletes t.name own) (map asked_of (filter (is_visible d.last) t.rows))
        (All-map (λ a. RowFits t.columns a.row) asked_of (filter (is_visible d.last) t.rows) (All-filter (is_visible d.last) (λ s. RowFits t.columns s.row) t.rows table.rows))

    pending : All (RowFits t.columns) (pending_rows t.name own)
    pending = All-head (HasFitting d own) t [] (all_fit d own (t ∷ []) (All-cons (λ u. table_named u.name d.tables ≡ Some u) t [] there (All-nil (λ u. table_named u.name d.tables ≡ Some u))) (own_is_sound state sound).each)

-- ---- the state

pub updated_state : (state : State) (u : Update) → rows_updated_refusal state u ≡ None → IsSound state → IsSound (on_table u.table (rows_updated u state) state)
updated_state state u free sound = by (table_found u.table state.database.tables) refl free
  where
    by : (o : Option (ℕ × Table)) → table_found u.table state.database.tables ≡ o → first_of (update_refusal (option_map (λ e. e.1.columns) o) u) (option_and_then (update_refusal_over state u) o) ≡ None
        → IsSound (option_map_or (rows_updated u state) o state)
    by None is refused = sound
    by (Some e) is accepted =
        let t = e.1 in
        let sets = update_sets u e in
        let old = updated_old u state e in
        let pairs = pairs_refusal (all_pairs sets old t.columns) in
        let halves = first_none (update_refusal (Some t.columns) u) (update_refusal_over state u e) accepted in
        let over = first_none (rows_limit (length (rows_left state u e) + length old)) (first_of (locked state u.table true) pairs) halves.1 in
        let last = first_none (locked state u.table true) pairs over.1 in
        let named = found_named u.table state.database.tables e is in
        let name : t.name ≡ u.table = named_so u.table state.database.tables t named in
        let there : table_named t.name state.database.tables ≡ Some t = ap (λ (n : List ℕ). table_named n state.database.tables) name ∙ named in
        let fit : All (RowFits t.columns) (updated_new u state e) = rows_fit t.columns sets old (places_there t.columns u halves.0) (settings_typed t.columns u halves.0) last.1 (matched_fit state t (update_keep u e) there sound) in
        marked_state state t (update_keep u e) (updated_new u state e) there fit (subst (λ (n : List ℕ). locked state n true ≡ None) (sym name) last.0) sound
