-- A sound state stays sound where a table that no session holds has one column more.
use Rattle.std.proofs.Common.{◌≡◌, ◌++◌, ℕ, Bool, true, false, cond, List, [], ◌∷◌, length, get_or, refl, sym, ◌∙◌, ap, subst}
use Rattle.std.specs.Prelude.{not, find, bytes_eq, is_some, Option, Some, None, option_map, option_and_then}
use Rattle.std.specs.List.{All, enumerate_from}
use Rattle.std.proofs.lemmas.List.Elements.{All-head, All-weaker}
use Rattle.std.proofs.lemmas.Slice.Eq.{bytes_eq-Decides}
use Rattle.col_value.specs.declared.column.Column.{Column}
use Rattle.col_value.specs.declared.kinds.Encoding.{Encoding}
use Rattle.col_value.specs.declared.value.Value.{Value}
use Rattle.col_value.specs.declared.wide.Wide.{Wide}
use Rattle.col_value.specs.Order.{IsValue}
use Rattle.sql_tree.specs.declared.refusal.Refusal.{Refusal}
use Rattle.sql_tree.specs.declared.statement.AddColumn.{AddColumn}
use Rattle.sql_binding.specs.Additions.{added_pair, addition_refusal, default_refusal, default_value, has_column}
use Rattle.sql_binding.specs.Firsts.{first_of, refused_where}
use Rattle.sql_binding.specs.Inserts.{first_such, is_of_column, is_out_of_range, is_refused_null, is_too_long}
use Rattle.db_model.specs.Database.{Database, Shape, Table, has_columns, ordinals, table_named}
use Rattle.db_model.specs.Events.{column_added, widened, with_column}
use Rattle.db_model.specs.Locks.{changes_on, holder}
use Rattle.db_model.specs.Numbers.{spent_refusal}
use Rattle.db_model.specs.Refusals.{column_added_refusal}
use Rattle.db_model.specs.Refusing.{column_limit}
use Rattle.db_model.specs.Sound.{ChangesFit, IsSound, IsSoundSession, IsStale, ValueFits}
use Rattle.db_model.specs.State.{Changes, State, change_named}
use Rattle.db_model.specs.Views.{columns_found}
use Rattle.sound_laws.proofs.Created.{Differ, differ_turned}
use Rattle.sound_laws.proofs.Storable.{stored_value}
use Rattle.sound_laws.proofs.Widened.{column_named, widened_sound}
use Rattle.state_laws.proofs.Fits.{mapped_none, none_such, not_wrong, right, value_fits}
use Rattle.state_laws.proofs.Stale.{HasStale, in_map, stale_changed}
use Rattle.state_laws.proofs.Places.{none_found}
use Rattle.state_laws.proofs.Events.{first_none}

-- ---- no session holds the table

not_some : {X : Type 0} (o : Option X) → is_some o ≡ false → o ≡ None
not_some None is = refl
not_some (Some x) is = absurd (cc)

none_held : (state : State) (name : List ℕ) → holder state name ≡ None
    → All (λ changes. All (λ c. Differ c.table name) changes) state.sessions
none_held state name free i d lt =
    let holds : ℕ × List Changes → Bool = λ e. is_some (changes_on name e.1) in
    let none = mapped_none (λ (e : ℕ × List Changes). e.0) (find holds (enumerate_from 1 state.sessions)) free in
    none_such (λ c. bytes_eq c.table name) (get_or state.sessions i d)
    (not_some (changes_on name (get_or state.sessions i d)) (none_found holds 1 state.sessions none i d lt))

-- so what sessions have changed in the others fits as before

other_found : (n name : List ℕ) (f : Table → Table) (us : List Table) → ((t : Table) → (f t).name ≡ t.name) → Differ n name
    → table_named n (change_named name f us) ≡ table_named n us
other_found n name f [] keeps differ = refl
other_found n name f (u ∷ us) keeps differ = by (bytes_eq u.name name) refl (other_found n name f us keeps differ)
  where
    by : (b : Bool) → bytes_eq u.name name ≡ b → table_named n (change_named name f us) ≡ table_named n us
        → table_named n (cond b (f u ∷ us) (u ∷ change_named name f us)) ≡ table_named n (u ∷ us)
    by true is rest =
        let same : u.name ≡ name = (bytes_eq-Decides u.name name).0 is in
        let off : bytes_eq u.name n ≡ false = subst (λ (m : List ℕ). bytes_eq m n ≡ false) (sym same) (differ_turned n name differ) in
        let off_too : bytes_eq (f u).name n ≡ false = ap (λ (m : List ℕ). bytes_eq m n) (keeps u) ∙ off in
        ap (λ (b : Bool). cond b (Some (f u)) (table_named n us)) off_too ∙ sym (ap (λ (b : Bool). cond b (Some u) (table_named n us)) off)
    by false is rest = ap (λ (o : Option Table). cond (bytes_eq u.name n) (Some u) o) rest

abbrev pub wider : List ℕ → Column → Value → Database → Database
wider name c v d = record d { tables = change_named name (widened c v) d.tables }

changes_fit : (d : Database) (name : List ℕ) (column : Column) (v : Value) (c : Changes) → Differ c.table name → ChangesFit d c
    → ChangesFit (wider name column v d) c
changes_fit d name column v c differ fit = record {
  table = fit.table;
  there = other_found c.table name (widened column v) d.tables (λ t. refl) differ ∙ fit.there;
  rows = fit.rows;
  deletes = fit.deletes;
  shared = fit.shared;
}

session_fits : (d : Database) (name : List ℕ) (column : Column) (v : Value) (changes : List Changes)
    → All (λ c. Differ c.table name) changes → IsSoundSession d changes → IsSoundSession (wider name column v d) changes
session_fits d name column v changes apart sound = record {
  each = λ i x lt. changes_fit d name column v (get_or changes i x) (apart i x lt) (sound.each i x lt);
  once = sound.once;
}

-- ---- a projection that isn't up to date stays so

fresh_stays : (t : Table) (s : Shape) → (with_column t s).fresh ≡ s.fresh
fresh_stays t s = by (has_columns s (ordinals t))
  where
    by : (b : Bool) → (cond b (record s { columns = s.columns ++ (length t.columns, Encoding.Auto) ∷ [] }) s).fresh ≡ s.fresh
    by true = refl
    by false = refl

has_widened : (c : Column) (v : Value) (name : List ℕ) (t : Table) → HasStale name t → HasStale name (widened c v t)
has_widened c v name t has = record {
  shape = with_column t has.shape;
  of = in_map (with_column t) t.shapes has.shape has.of;
  named = column_named t has.shape ∙ has.named;
  stale = fresh_stays t has.shape ∙ has.stale;
}

-- ---- the state

wider_state : (state : State) (name : List ℕ) (c : Column) (v : Value) → holder state name ≡ None → ValueFits c v → IsValue v
    → IsSound state → IsSound (record state { database = wider name c v state.database; busy = 0 })
wider_state state name c v free fits is sound = record {
  database = widened_sound d name c v fits is sound.database;
  eight = sound.eight;
  first = sound.first;
  current = sound.current;
  sessions = λ i x lt. session_fits d name c v (get_or state.sessions i x) (none_held state name free i x lt) (sound.sessions i x lt);
  apart = sound.apart;
  asked = All-weaker (IsStale d) (IsStale (wider name c v d)) (λ n stale. stale_changed d name (widened c v) n (has_widened c v n) stale) state.asked sound.asked;
}
  where
    d : Database
    d = state.database

-- ---- the event

-- what tells that an ALTER TABLE isn't refused, whose table has these columns
record Accepted (state : State) (a : AddColumn) (columns : Option (List Column)) : Type 0 where
  addition : addition_refusal columns a ≡ None
  free : holder state a.table ≡ None
  default : default_refusal a ≡ None

accepted_over : (state : State) (a : AddColumn) (columns : Option (List Column))
    → first_of (addition_refusal columns a) (first_of (option_and_then (λ cs. column_limit (length cs, a.column)) columns)
    (first_of (option_map Refusal.Locked (holder state a.table)) (first_of (default_refusal a) (spent_refusal state)))) ≡ None
    → Accepted state a columns
accepted_over state a columns none =
    let stored = first_of (default_refusal a) (spent_refusal state) in
    let free = first_of (option_map Refusal.Locked (holder state a.table)) stored in
    let limit = option_and_then (λ cs. column_limit (length cs, a.column)) columns in
    let one = first_none (addition_refusal columns a) (first_of limit free) none in
    let two = first_none limit free one.1 in
    let three = first_none (option_map Refusal.Locked (holder state a.table)) stored two.1 in
    let four = first_none (default_refusal a) (spent_refusal state) three.1 in
    record { addition = one.0; free = mapped_none Refusal.Locked (holder state a.table) three.0; default = four.0 }

of_column : (a : AddColumn) (columns : Option (List Column)) → addition_refusal columns a ≡ None → is_of_column (added_pair a) ≡ true
of_column a None is = absurd (cc)
of_column a (Some columns) is =
    let both = first_none (refused_where (has_column columns a.column.name) (Refusal.Exists a.column.name)) (refused_where (not (is_of_column (added_pair a))) Refusal.TypeMismatch) is in
    right (is_of_column (added_pair a)) (not_wrong (not (is_of_column (added_pair a))) Refusal.TypeMismatch both.1)

not_such : (p : Column × Wide → Bool) (f : List ℕ → Refusal) (a : AddColumn) → option_map f (first_such p (added_pair a ∷ [])) ≡ None
    → p (added_pair a) ≡ false
not_such p f a none =
    let ps : List (Column × Wide) = added_pair a ∷ [] in
    All-head (λ x. p x ≡ false) (added_pair a) [] (none_such p ps (mapped_none (λ (x : Column × Wide). x.0.name) (find p ps) (mapped_none f (first_such p ps) none)))

added_over : (state : State) (a : AddColumn) (columns : Option (List Column)) → Accepted state a columns → IsSound state
    → IsSound (column_added a state)
added_over state a columns accepted sound =
    let ps : List (Column × Wide) = added_pair a ∷ [] in
    let width = option_map Refusal.TextTooLong (first_such is_too_long ps) in
    let null = option_map Refusal.NullRefused (first_such is_refused_null ps) in
    let range_first = first_none (option_map Refusal.IntegerOutOfRange (first_such is_out_of_range ps)) (first_of width null) accepted.default in
    let width_first = first_none width null range_first.1 in
    let range : is_out_of_range (added_pair a) ≡ false = not_such is_out_of_range Refusal.IntegerOutOfRange a range_first.0 in
    let short : is_too_long (added_pair a) ≡ false = not_such is_too_long Refusal.TextTooLong a width_first.0 in
    let nulls : is_refused_null (added_pair a) ≡ false = not_such is_refused_null Refusal.NullRefused a width_first.1 in
    wider_state state a.table a.column (default_value a) accepted.free
    (value_fits a.column a.default (record { kind = of_column a columns accepted.addition; width = short; null = nulls })) (stored_value a.column a.default range short) sound

pub added_state : (state : State) (a : AddColumn) → column_added_refusal state a ≡ None → IsSound state → IsSound (column_added a state)
added_state state a free sound =
    let columns = columns_found state.database.tables a.table in
    added_over state a columns (accepted_over state a columns free) sound
