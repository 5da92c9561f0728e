-- ALTER TABLE over alike states, and START_REFRESH.
use Rattle.std.proofs.Common.{◌≡◌, ◌++◌, ℕ, Bool, true, false, cond, List, [], ◌∷◌, length, map, refl, sym, ap, ap₂, ◌∙◌, subst}
use Rattle.std.specs.Prelude.{if◌then◌else◌, Option}
use Rattle.std.specs.List.{enumerate_from}
use Rattle.common_laws.specs.Bags.{SameBag}
use Rattle.common_laws.proofs.BagLaws.{bag_map}
use Rattle.col_value.specs.declared.column.Column.{Column}
use Rattle.col_value.specs.declared.kinds.Encoding.{Encoding}
use Rattle.col_value.specs.declared.row.Stamped.{Stamped}
use Rattle.col_value.specs.declared.value.Value.{Value}
use Rattle.row_history.specs.History.{is_retained, retained}
use Rattle.sql_tree.specs.declared.statement.AddColumn.{AddColumn}
use Rattle.sql_binding.specs.Additions.{default_value}
use Rattle.db_model.specs.Alike.{AreAlikeStates, IsAlikeTable}
use Rattle.db_model.specs.Database.{Shape, Table, has_columns}
use Rattle.db_model.specs.Events.{column_added, refresh_started, stale_names, widened, with_value}
use Rattle.db_model.specs.Locks.{holder}
use Rattle.db_model.specs.Numbers.{are_spent}
use Rattle.db_model.specs.Refusals.{column_added_refusal}
use Rattle.db_model.specs.State.{State}
use Rattle.db_model.specs.Views.{columns_found}
use Rattle.alike_laws.proofs.Refused.{holder_alike}
use Rattle.one_text.proofs.Stilled.{added_by}
use Rattle.alike_steps.proofs.Tables.{change_zip, columns_same, shapes_same}

-- ---- why it is refused

pub add_same : (a b : State) → AreAlikeStates a b → (c : AddColumn) → are_spent a ≡ are_spent b
    → column_added_refusal a c ≡ column_added_refusal b c
add_same a b alike c spent =
    ap₂ (λ (cs : Option (List Column)) (held : Option ℕ). added_by c cs held (are_spent a)) (columns_same a.database.ahm c.table a.database.tables b.database.tables alike.database.tables)
    (holder_alike a b c.table alike.sessions)
    ∙ ap (added_by c (columns_found b.database.tables c.table) (holder b c.table)) spent

-- ---- what it leaves

-- a projection of a table with these columns, where the table has one more
abbrev column_in : List Column → Shape → Shape
column_in columns s =
    if has_columns s (map (λ e. e.0) (enumerate_from 0 columns)) then record s { columns = s.columns ++ (length columns, Encoding.Auto) ∷ [] } else s

retained_wide : (mark : ℕ) (v : Value) (rows : List Stamped)
    → retained mark (map (with_value v) rows) ≡ map (with_value v) (retained mark rows)
retained_wide mark v [] = refl
retained_wide mark v (s ∷ rows) = by (is_retained mark s) (retained_wide mark v rows)
  where
    by : (b : Bool) → retained mark (map (with_value v) rows) ≡ map (with_value v) (retained mark rows)
        → cond b (with_value v s ∷ retained mark (map (with_value v) rows)) (retained mark (map (with_value v) rows)) ≡ map (with_value v) (cond b (s ∷ retained mark rows) (retained mark rows))
    by true rest = ap (λ (xs : List Stamped). with_value v s ∷ xs) rest
    by false rest = rest

wide_table : (mark : ℕ) (c : Column) (v : Value) (t u : Table) → IsAlikeTable mark t u → IsAlikeTable mark (widened c v t) (widened c v u)
wide_table mark c v t u same = record {
  name = same.name;
  columns = ap (λ (cs : List Column). cs ++ c ∷ []) same.columns;
  shapes = ap₂ (λ (cs : List Column) (ss : List Shape). map (column_in cs) ss) same.columns same.shapes;
  rows =
      subst (λ (rows : List Stamped). SameBag rows (retained mark (map (with_value v) u.rows))) (sym (retained_wide mark v t.rows))
      (subst (SameBag (map (with_value v) (retained mark t.rows))) (sym (retained_wide mark v u.rows)) (bag_map (with_value v) (retained mark t.rows) (retained mark u.rows) same.rows));
}

pub added_alike : (a b : State) → AreAlikeStates a b → (c : AddColumn) → AreAlikeStates (column_added c a) (column_added c b)
added_alike a b alike c = record {
  database = record {
    last = alike.database.last;
    ahm = alike.database.ahm;
    tables =
        change_zip a.database.ahm c.table (widened c.column (default_value c)) (widened c.column (default_value c)) (wide_table a.database.ahm c.column (default_value c)) a.database.tables b.database.tables
        alike.database.tables;
  };
  sessions = alike.sessions;
  current = alike.current;
  asked = alike.asked;
}

pub started_alike : (a b : State) → AreAlikeStates a b → AreAlikeStates (refresh_started a) (refresh_started b)
started_alike a b alike = record {
  database = alike.database;
  sessions = alike.sessions;
  current = alike.current;
  asked = ap stale_names (shapes_same a.database.ahm a.database.tables b.database.tables alike.database.tables);
}
