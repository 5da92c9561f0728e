-- Why rows can't be inserted: other reasons come before what the rows hold.
use Rattle.std.proofs.Common.{◌≡◌, ℕ, List, Bool, true, false, cond, length, refl, sym, ◌∙◌, ap, ap₂, subst}
use Rattle.std.specs.Prelude.{Option, Some, None, option_map, option_and_then, not}
use Rattle.std.specs.List.{list_all}
use Rattle.std.specs.Option.{option_map_or}
use Rattle.std.proofs.lemmas.Option.{same_Some}
use Rattle.sql_tree.specs.declared.refusal.Refusal.{Refusal}
use Rattle.sql_tree.specs.declared.statement.Insert.{Insert}
use Rattle.col_value.specs.declared.column.Column.{Column}
use Rattle.sql_binding.specs.Firsts.{first_of, first_given, refused_where}
use Rattle.sql_binding.specs.Inserts.{pairs, wrong_count, is_of_column, insert_refusal, is_out_of_range, is_too_long, is_refused_null, first_such, stored_refusal, whole_refusal}
use Rattle.db_model.specs.Database.{Table}
use Rattle.db_model.specs.State.{State}
use Rattle.db_model.specs.Refusals.{joining_limit, locked, rows_inserted_refusal}
use Rattle.db_model.specs.Views.{columns_found, table_found}
use Rattle.statement_plan.specs.Inserting.{is_late, in_order, inserted_refusal}

not_late : (a : Option (ℕ × ℕ)) (b : Bool) (r : Refusal) → first_of (option_map (λ (c : ℕ × ℕ). Refusal.Arity c.0 c.1) a) (refused_where b Refusal.TypeMismatch) ≡ Some r → is_late r ≡ false
not_late (Some c) b r is = subst (λ (told : Refusal). is_late told ≡ false) (same_Some (Refusal.Arity c.0 c.1) r is) refl
not_late None true r is = subst (λ (told : Refusal). is_late told ≡ false) (same_Some Refusal.TypeMismatch r is) refl
not_late None false r is = cc

-- a refusal whatever the rows hold comes before the limit on rows
early : (columns : Option (List Column)) (i : Insert) (r : Refusal) → insert_refusal columns i ≡ Some r → is_late r ≡ false
early None i r is = subst (λ (told : Refusal). is_late told ≡ false) (same_Some (Refusal.UnknownTable i.table) r is) refl
early (Some columns) i r is = not_late (first_given (wrong_count columns) i.rows) (not (list_all is_of_column (pairs columns i.rows))) r is

still_late : (a b c : Option (List ℕ)) (r : Refusal)
    → first_of (option_map Refusal.IntegerOutOfRange a) (first_of (option_map Refusal.TextTooLong b) (option_map Refusal.NullRefused c)) ≡ Some r → is_late r ≡ true
still_late (Some x) b c r is = subst (λ (told : Refusal). is_late told ≡ true) (same_Some (Refusal.IntegerOutOfRange x) r is) refl
still_late None (Some x) c r is = subst (λ (told : Refusal). is_late told ≡ true) (same_Some (Refusal.TextTooLong x) r is) refl
still_late None None (Some x) r is = subst (λ (told : Refusal). is_late told ≡ true) (same_Some (Refusal.NullRefused x) r is) refl
still_late None None None r is = cc

-- a refusal of what the rows hold comes behind it
late : (columns : Option (List Column)) (i : Insert) (r : Refusal) → option_map_or (λ cs. stored_refusal cs i) columns None ≡ Some r → is_late r ≡ true
late None i r is = cc
late (Some columns) i r is =
    still_late (first_such is_out_of_range (pairs columns i.rows)) (first_such is_too_long (pairs columns i.rows)) (first_such is_refused_null (pairs columns i.rows)) r is

ordered_early : (r : Refusal) (limit : Option Refusal) → is_late r ≡ false → in_order r limit ≡ r
ordered_early r limit is = ap (λ (b : Bool). cond b (option_map_or (λ (l : Refusal). l) limit r) r) is

ordered_late : (r : Refusal) (limit : Option Refusal) → is_late r ≡ true → in_order r limit ≡ option_map_or (λ (l : Refusal). l) limit r
ordered_late r limit is = ap (λ (b : Bool). cond b (option_map_or (λ (l : Refusal). l) limit r) r) is

limit_first : (limit : Option Refusal) (r : Refusal) → first_of limit (Some r) ≡ Some (option_map_or (λ (l : Refusal). l) limit r)
limit_first None r = refl
limit_first (Some l) r = refl

joined_by : (first limit stored : Option Refusal) (r : Refusal)
    → ((x : Refusal) → first ≡ Some x → is_late x ≡ false) → ((x : Refusal) → stored ≡ Some x → is_late x ≡ true)
    → first_of first stored ≡ Some r → first_of first (first_of limit stored) ≡ Some (in_order r limit)
joined_by (Some x) limit stored r before behind is =
    is ∙ ap (λ (told : Refusal). Some told) (sym (ordered_early r limit (before r is)))
joined_by None limit (Some x) r before behind is =
    ap (λ (told : Option Refusal). first_of limit told) is
    ∙ limit_first limit r ∙ ap (λ (told : Refusal). Some told) (sym (ordered_late r limit (behind r is)))
joined_by None limit None r before behind is = cc

-- the refusal of the whole, held against the limit
pub refused_rows : (columns : Option (List Column)) (limit : Option Refusal) (i : Insert) (r : Refusal)
    → whole_refusal columns i ≡ Some r → inserted_refusal columns limit i ≡ Some (in_order r limit)
refused_rows columns limit i r is =
    joined_by (insert_refusal columns i) limit (option_map_or (λ cs. stored_refusal cs i) columns None) r (early columns i) (late columns i) is

stored_by : (columns : Option (List Column)) (i : Insert) → option_map_or (λ cs. stored_refusal cs i) columns None ≡ option_and_then (λ cs. stored_refusal cs i) columns
stored_by None i = refl
stored_by (Some cs) i = refl

first_chained : (a b c : Option Refusal) → first_of (first_of a b) c ≡ first_of a (first_of b c)
first_chained None b c = refl
first_chained (Some x) b c = refl

abbrev pair : ℕ × Table → ℕ × List Column
pair e = (e.0, e.1.columns)

one_column : (o : Option (ℕ × Table)) → option_map (λ (t : ℕ × List Column). t.1) (option_map pair o) ≡ option_map (λ (e : ℕ × Table). e.1.columns) o
one_column None = refl
one_column (Some e) = refl

reasons_are : (state : State) (i : Insert) (found : Option (ℕ × List Column)) (other : Option Refusal)
    → found ≡ option_map pair (table_found i.table state.database.tables)
    → other ≡ first_of (joining_limit state i.table (length i.rows)) (locked state i.table false)
    → inserted_refusal (option_map (λ (t : ℕ × List Column). t.1) found) other i ≡ rows_inserted_refusal state i
reasons_are state i found other there held =
    ap₂ (λ (f : Option (ℕ × List Column)) (o : Option Refusal). inserted_refusal (option_map (λ (t : ℕ × List Column). t.1) f) o i) there held
    ∙ ap (λ (columns : Option (List Column)). inserted_refusal columns (first_of (joining_limit state i.table (length i.rows)) (locked state i.table false)) i)
    (one_column (table_found i.table state.database.tables))
    ∙ ap (λ (o : Option Refusal). first_of (insert_refusal (columns_found state.database.tables i.table) i) o)
    (first_chained (joining_limit state i.table (length i.rows)) (locked state i.table false) (option_map_or (λ cs. stored_refusal cs i) (columns_found state.database.tables i.table) None)
    ∙ ap (λ (o : Option Refusal). first_of (joining_limit state i.table (length i.rows)) (first_of (locked state i.table false) o)) (stored_by (columns_found state.database.tables i.table) i))

-- why the INSERT is refused over what was found
pub reasons_at : (state : State) (i : Insert) (found : Option (ℕ × List Column)) (other : Option Refusal) (name : List ℕ) (more : ℕ)
    → name ≡ i.table → more ≡ length i.rows → found ≡ option_map pair (table_found name state.database.tables)
    → other ≡ first_of (joining_limit state name more) (locked state name false)
    → inserted_refusal (option_map (λ (t : ℕ × List Column). t.1) found) other i ≡ rows_inserted_refusal state i
reasons_at state i found other name more called many there held =
    reasons_are state i found other (there ∙ ap (λ (n : List ℕ). option_map pair (table_found n state.database.tables)) called)
    (held ∙ ap₂ (λ (n : List ℕ) (m : ℕ). first_of (joining_limit state n m) (locked state n false)) called many)
