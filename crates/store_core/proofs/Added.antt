-- A column that comes, over a running store.
use Rattle.std.proofs.Common.{◌≡◌, ℕ, List, refl, sym, ◌∙◌, ap, subst, arith}
use Rattle.std.specs.Prelude.{Option, Some, None, option_map, Result, OnOk}
use Rattle.col_disk.specs.declared.disk.Disk.{Ghosts}
use Rattle.col_value.specs.declared.column.Column.{Column}
use Rattle.col_value.specs.declared.value.Value.{Value}
use Rattle.sql_tree.specs.declared.statement.AddColumn.{AddColumn}
use Rattle.sql_binding.specs.Additions.{default_value}
use Rattle.db_model.specs.Database.{Database, Table}
use Rattle.db_model.specs.State.{State, Changes, change_named}
use Rattle.db_model.specs.Events.{column_added, widened}
use Rattle.db_model.specs.Numbers.{IsDrawn}
use Rattle.db_model.specs.Sound.{IsSoundDatabase, IsSound}
use Rattle.db_model.specs.Views.{table_found}
use Rattle.sound_laws.specs.Moves.{change_at}
use Rattle.statement_plan.specs.Places.{table_place}
use Rattle.store_commit.specs.Seen.{Seen, Stands}
use Rattle.store_commit.specs.Making.{Makes}
use Rattle.table_store.specs.Drawing.{DrawsOne}
use Rattle.table_store.specs.Widening.{widened_at}
use Rattle.store_core.specs.Running.{Running, running, IsState, Mover}
use Rattle.store_core.specs.Events.{Does}
use Rattle.store_core.proofs.Doing.{drawn_does}
use Rattle.store_core.proofs.Events.{renumbered, viewed, grown_by_one}
use Rattle.store_core.proofs.Shaped.{found_at}

-- a table that has a place is found there
placed : (table : ℕ) (o : Option (ℕ × Table)) → option_map (λ (e : ℕ × Table). e.0) o ≡ Some table → (t : Table) × (o ≡ Some (table, t))
placed table None is = absurd (cc)
placed table (Some e) is =
    let at : e.0 ≡ table = cc in
    (e.1, ap (λ (n : ℕ). Some (n, e.1)) at)

-- the table of a name that is changed is the one at its place
by_place : (name : List ℕ) (table : ℕ) (change : Table → Table) (d : Database) → table_place name d.tables ≡ Some table
    → change_named name change d.tables ≡ change_at table change d.tables
by_place name table change d at =
    let (t, found) = placed table (table_found name d.tables) at in
    let (k, from, there, changes) = found_at name 0 d.tables table t found in
    let place : k ≡ table = omega (arith, from) in
    subst (λ (n : ℕ). change_named name change d.tables ≡ change_at n change d.tables) place (changes change change refl)

abbrev with_tables_of : Database → List Table → Database
with_tables_of d ts = record d { tables = ts }

-- what the event makes of the database
added_at : (a : AddColumn) (table : ℕ) (column : Column) (default : Value) (state : State) → table_place a.table state.database.tables ≡ Some table → a.column ≡ column → default_value a ≡ default
    → (column_added a state).database ≡ widened_at table column default state.database
added_at a table column default state at column_is default_is =
    let d = state.database in
    ap (with_tables_of d) (by_place a.table table (widened a.column (default_value a)) d at)
    ∙ ap (λ (c : Column). widened_at table c (default_value a) d) column_is
    ∙ ap (λ (v : Value). widened_at table column v d) default_is

pub addition_does : {D F : Type 0} (disk : Ghosts D) (short : F) {old new : D} (was is : Seen) (sessions : List (List Changes)) (current : ℕ) (mover after : Mover) (now : Running) (table : ℕ) (a : AddColumn) (column : Column) (default : Value) (result : Result (Unit {0}) F) (state : State)
    → running was sessions current mover ≡ now → IsState disk now old state → IsSound (column_added a state) → table_place a.table state.database.tables ≡ Some table → a.column ≡ column → default_value a ≡ default → after.asked ≡ mover.asked → after.busy ≡ 0 → after.work ≡ None
    → ((d : Database) → Stands disk was old d → IsSoundDatabase (widened_at table column default d) → Makes disk short was is old new result d (widened_at table column default d))
    → OnOk result (DrawsOne was.catalogue is.catalogue)
    → Does disk short now (running is sessions current after) old new result state (IsDrawn state (column_added a state))
addition_does disk short {old} {new} was is sessions current mover after now table a column default result state view here sound at column_is default_is waits idle free makes draws =
    let own = viewed disk old (running was sessions current mover) now state view here in
    let d = state.database in
    let made : (column_added a state).database ≡ widened_at table column default d = added_at a table column default state at column_is default_is in
    subst (λ (r : Running). Does disk short r (running is sessions current after) old new result state (IsDrawn state (column_added a state))) view
    (drawn_does disk short was is sessions sessions current mover after result state (column_added a state) state.parts own
    (subst (λ (e : Database). Makes disk short was is old new result d e) (sym made) (makes d own.database (subst IsSoundDatabase made sound.database)))
    (grown_by_one result state was is own.next own.parts draws)
    (record { sessions = own.sessions; current = own.current; asked = own.asked ∙ sym waits; busy = sym idle; free = free; sound = renumbered (column_added a state) sound }))
