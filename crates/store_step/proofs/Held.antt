-- The statements that call no disk.
use Rattle.std.proofs.Common.{◌≡◌, ℕ, ◌+◌, List, [], ◌∷◌, Bool, true, false, cond, length, map, refl, sym, ◌∙◌, subst, ap, ap₂}
use Rattle.std.specs.Prelude.{Option, Some, None, Ok, option_map, option_and_then, find, bytes_eq, codes}
use Rattle.std.specs.List.{All, enumerate_from}
use Rattle.common_laws.specs.Maps.{Contents}
use Rattle.col_disk.specs.declared.disk.Disk.{Ghosts}
use Rattle.col_value.specs.declared.column.Column.{Column}
use Rattle.col_value.specs.declared.value.Value.{Value}
use Rattle.col_value.specs.Order.{IsRow}
use Rattle.catalog_types.specs.declared.catalogue.Table as kept
use Rattle.catalog_types.specs.Reached.{least_lge}
use Rattle.stored_rows.specs.Stored.{Projected}
use Rattle.sql_tree.specs.declared.query.Query.{Query}
use Rattle.sql_tree.specs.declared.refusal.Refusal.{Refusal}
use Rattle.sql_tree.specs.declared.statement.Function.{Function}
use Rattle.sql_tree.specs.declared.statement.Insert.{Insert}
use Rattle.sql_tree.specs.declared.statement.Statement.{Statement}
use Rattle.sql_binding.specs.Firsts.{first_of}
use Rattle.sql_binding.specs.Inserts.{insert_refusal, inserted_rows, stored_refusal}
use Rattle.db_model.specs.Answers.{epoch_line, insert_line}
use Rattle.db_model.specs.Database.{Shape, Table, table_named}
use Rattle.db_model.specs.State.{State}
use Rattle.db_model.specs.Sound.{RowFits}
use Rattle.db_model.specs.Epochs.{last_good}
use Rattle.db_model.specs.Events.{changes_dropped, refresh_started, rows_pending}
use Rattle.db_model.specs.Loading.{Files}
use Rattle.db_model.specs.Printing.{counted_line, explain_text}
use Rattle.db_model.specs.Refusals.{joining_limit, locked, query_refusal_in, rows_inserted_refusal}
use Rattle.db_model.specs.Views.{columns_found, table_found}
use Rattle.folder_model.specs.Tables.{StandForTables}
use Rattle.state_laws.specs.Rows.{AreStored}
use Rattle.statement_text.specs.Explained.{shapes_of, HaveShapes}
use Rattle.store_core.specs.Running.{Running, IsState}
use Rattle.store_core.specs.Stepping.{all_stale, with_asked}
use Rattle.store_core.specs.Sessions.{with_current, with_own, with_pending}
use Rattle.store_step.specs.declared.answer.Answer.{Answer}
use Rattle.store_step.specs.Arms.{Holds}
use Rattle.store_step.specs.Texts.{Says}
use Rattle.store_step.proofs.Answered.{said_holds}

first_none : {X : Type 0} (a b : Option X) → first_of a b ≡ None → a ≡ None
first_none None b is = refl
first_none (Some x) b is = absurd (cc)

pub second_none : {X : Type 0} (a b : Option X) → first_of a b ≡ None → b ≡ None
second_none None b is = is
second_none (Some x) b is = absurd (cc)

-- ---- INSERT

abbrev pub second : ℕ × Table → Table
second e = e.1

pub named_from : (name : List ℕ) (i : ℕ) (ts : List Table) → find (λ (t : Table). bytes_eq t.name name) ts ≡ option_map second (find (λ (e : ℕ × Table). bytes_eq e.1.name name) (enumerate_from i ts))
named_from name i [] = refl
named_from name i (t ∷ ts) = by (bytes_eq t.name name) (named_from name (i + 1) ts)
  where
    by : (b : Bool) → find (λ (u : Table). bytes_eq u.name name) ts ≡ option_map second (find (λ (e : ℕ × Table). bytes_eq e.1.name name) (enumerate_from (i + 1) ts)) → cond b (Some t) (find (λ (u : Table). bytes_eq u.name name) ts) ≡ option_map second (cond b (Some (i, t)) (find (λ (e : ℕ × Table). bytes_eq e.1.name name) (enumerate_from (i + 1) ts)))
    by true rest = refl
    by false rest = rest

-- the table of an INSERT that isn't refused, and why its rows fit
record Target (state : State) (i : Insert) : Type 0 where
  table : Table
  named : table_named i.table state.database.tables ≡ Some table
  stored : AreStored table.columns i
  free : locked state i.table false ≡ None

target : (state : State) (i : Insert) → rows_inserted_refusal state i ≡ None → Target state i
target state i accepted = by (table_found i.table state.database.tables) refl
  where
    first : insert_refusal (columns_found state.database.tables i.table) i ≡ None
    first = first_none (insert_refusal (columns_found state.database.tables i.table) i) (first_of (joining_limit state i.table (length i.rows)) (first_of (locked state i.table false) (option_and_then (λ cs. stored_refusal cs i) (columns_found state.database.tables i.table)))) accepted

    rest : first_of (locked state i.table false) (option_and_then (λ cs. stored_refusal cs i) (columns_found state.database.tables i.table)) ≡ None
    rest = second_none (joining_limit state i.table (length i.rows)) (first_of (locked state i.table false) (option_and_then (λ cs. stored_refusal cs i) (columns_found state.database.tables i.table)))
        (second_none (insert_refusal (columns_found state.database.tables i.table) i) (first_of (joining_limit state i.table (length i.rows)) (first_of (locked state i.table false) (option_and_then (λ cs. stored_refusal cs i) (columns_found state.database.tables i.table)))) accepted)

    free : locked state i.table false ≡ None
    free = first_none (locked state i.table false) (option_and_then (λ cs. stored_refusal cs i) (columns_found state.database.tables i.table)) rest

    last : option_and_then (λ cs. stored_refusal cs i) (columns_found state.database.tables i.table) ≡ None
    last = second_none (locked state i.table false) (option_and_then (λ cs. stored_refusal cs i) (columns_found state.database.tables i.table)) rest

    by : (o : Option (ℕ × Table)) → table_found i.table state.database.tables ≡ o → Target state i
    by None is = absurd (none (ap (λ (x : Option (ℕ × Table)). insert_refusal (option_map (λ e. e.1.columns) x) i) (sym is) ∙ first))
      where
        none : Some (Refusal.UnknownTable i.table) ≡ None → ⊥
        none no_more = absurd (cc)
    by (Some e) is = record {
      table = e.1;
      named = named_from i.table 0 state.database.tables ∙ ap (option_map second) is;
      stored = (
        ap (λ (x : Option (ℕ × Table)). insert_refusal (option_map (λ e. e.1.columns) x) i) (sym is) ∙ first,
        ap (λ (x : Option (ℕ × Table)). option_and_then (λ cs. stored_refusal cs i) (option_map (λ e. e.1.columns) x)) (sym is) ∙ last,
      );
      free = free;
    }

pub insert_holds : {D E : Type 0} (disk : Ghosts D) (files : Files) (i : Insert) (r : Running) (now : D) (a : Answer) (state : State) (rows : List (List Value)) → Says (insert_line (length i.rows)) a → rows ≡ inserted_rows i → All IsRow rows → rows_inserted_refusal state i ≡ None
    → ((columns : List Column) → AreStored columns i → All IsRow (inserted_rows i) → All (RowFits columns) (inserted_rows i))
    → ((t : Table) → table_named i.table state.database.tables ≡ Some t → All (RowFits t.columns) (inserted_rows i) → locked state i.table false ≡ None → IsState disk (with_pending i.table (inserted_rows i) r) now (rows_pending i.table (inserted_rows i) state))
    → Holds {E = E} disk files (Statement.Insert i) (with_pending i.table rows r) now (Ok a) state
insert_holds {D} {E} disk files i r now a state rows says are values accepted fit stand =
    let t = target state i accepted in
    let there : IsState disk (with_pending i.table (inserted_rows i) r) now (rows_pending i.table (inserted_rows i) state) = stand t.table t.named (fit t.table.columns t.stored (subst (All IsRow) are values)) t.free in
    said_holds disk files (Statement.Insert i) (with_pending i.table rows r) now a state (rows_pending i.table (inserted_rows i) state) (insert_line (length i.rows)) says
    (record { decided = sym accepted; effect = (refl, refl) })
    (subst (λ (rs : List (List Value)). IsState disk (with_pending i.table rs r) now (rows_pending i.table (inserted_rows i) state)) (sym are) there)

-- ---- ROLLBACK and \session

pub rollback_holds : {D E : Type 0} (disk : Ghosts D) (files : Files) (r : Running) (now : D) (a : Answer) (state : State) → Says (codes "ROLLBACK\n") a → IsState disk (with_own [] r) now (changes_dropped state) → Holds {E = E} disk files Statement.Rollback (with_own [] r) now (Ok a) state
rollback_holds disk files r now a state says there =
    said_holds disk files Statement.Rollback (with_own [] r) now a state (changes_dropped state) (codes "ROLLBACK\n") says (record { decided = refl; effect = (refl, refl) }) there

pub session_holds : {D E : Type 0} (disk : Ghosts D) (files : Files) (n : ℕ) (r : Running) (now : D) (a : Answer) (state : State) → Says [] a → IsState disk (with_current n r) now (record state { current = n })
    → Holds {E = E} disk files (Statement.Session n) (with_current n r) now (Ok a) state
session_holds disk files n r now a state says there = said_holds disk files (Statement.Session n) (with_current n r) now a state (record state { current = n }) [] says (record { decided = refl; effect = (refl, refl) }) there

-- ---- START_REFRESH

pub start_holds : {D E : Type 0} (disk : Ghosts D) (files : Files) (r : Running) (now : D) (a : Answer) (state : State) → Says (codes "START REFRESH\n") a → IsState disk (with_asked (all_stale r.seen.catalogue.tables) r) now (refresh_started state)
    → Holds {E = E} disk files (Statement.Call Function.StartRefresh) (with_asked (all_stale r.seen.catalogue.tables) r) now (Ok a) state
start_holds disk files r now a state says there =
    said_holds disk files (Statement.Call Function.StartRefresh) (with_asked (all_stale r.seen.catalogue.tables) r) now a state (refresh_started state) (codes "START REFRESH\n") says (record { decided = refl; effect = (refl, refl) }) there

-- ---- EXPLAIN

shapes_from : (m : Contents) (mark : ℕ) (ts : List kept.Table) (pss : List (List Projected)) (us : List Table) → StandForTables m mark ts pss us → map (λ u. u.shapes) us ≡ map shapes_of ts
shapes_from m mark [] [] [] stand = refl
shapes_from m mark [] [] (u ∷ us) stand = absurd stand
shapes_from m mark [] (ps ∷ pss) us stand = absurd stand
shapes_from m mark (t ∷ ts) [] us stand = absurd stand
shapes_from m mark (t ∷ ts) (ps ∷ pss) [] stand = absurd stand
shapes_from m mark (t ∷ ts) (ps ∷ pss) (u ∷ us) (here, rest) = ap₂ (λ (ss : List Shape) (more : List (List Shape)). ss ∷ more) here.shapes (shapes_from m mark ts pss us rest)

pub have_shapes : {D : Type 0} (disk : Ghosts D) (r : Running) (now : D) (state : State) → IsState disk r now state → HaveShapes r.seen.catalogue.tables state.database.tables
have_shapes disk r now state here = shapes_from here.database.files r.seen.catalogue.ahm r.seen.catalogue.tables r.seen.stores state.database.tables here.database.are.tables

pub explain_holds : {D E : Type 0} (disk : Ghosts D) (files : Files) (q : Query) (r : Running) (now : D) (a : Answer) (state : State) (printed : List ℕ) → Says printed a → printed ≡ explain_text state q → query_refusal_in state q ≡ None → IsState disk r now state
    → Holds {E = E} disk files (Statement.Explain q) r now (Ok a) state
explain_holds disk files q r now a state printed says is accepted here = said_holds disk files (Statement.Explain q) r now a state state printed says (record { decided = sym accepted; effect = (is, refl) }) here

-- ---- epochs

pub lge_holds : {D E : Type 0} (disk : Ghosts D) (files : Files) (r : Running) (now : D) (a : Answer) (state : State) → Says (counted_line (codes "LGE ") (least_lge r.seen.catalogue)) a → last_good state.database ≡ least_lge r.seen.catalogue → IsState disk r now state
    → Holds {E = E} disk files (Statement.Call Function.Lge) r now (Ok a) state
lge_holds disk files r now a state says same here =
    said_holds disk files (Statement.Call Function.Lge) r now a state state (counted_line (codes "LGE ") (least_lge r.seen.catalogue)) says (record { decided = refl; effect = (ap (counted_line (codes "LGE ")) (sym same), refl) }) here

pub ahm_holds : {D E : Type 0} (disk : Ghosts D) (files : Files) (r : Running) (now : D) (a : Answer) (state : State) → Says (counted_line (codes "AHM ") r.seen.catalogue.ahm) a → IsState disk r now state → Holds {E = E} disk files (Statement.Call Function.Ahm) r now (Ok a) state
ahm_holds disk files r now a state says here =
    said_holds disk files (Statement.Call Function.Ahm) r now a state state (counted_line (codes "AHM ") r.seen.catalogue.ahm) says (record { decided = refl; effect = (ap (counted_line (codes "AHM ")) (sym here.database.are.ahm), refl) }) here

pub current_holds : {D E : Type 0} (disk : Ghosts D) (files : Files) (r : Running) (now : D) (a : Answer) (state : State) → Says (epoch_line (r.seen.catalogue.last + 1)) a → IsState disk r now state → Holds {E = E} disk files (Statement.Call Function.Current) r now (Ok a) state
current_holds disk files r now a state says here =
    said_holds disk files (Statement.Call Function.Current) r now a state state (epoch_line (r.seen.catalogue.last + 1)) says
    (record { decided = refl; effect = (ap (λ (n : ℕ). epoch_line (n + 1)) (sym here.database.are.last), refl) }) here
