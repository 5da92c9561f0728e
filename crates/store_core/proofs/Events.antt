-- The events of the tables, over a running store.
use Rattle.std.proofs.Common.{◌≡◌, ◌+◌, ◌-◌, ℕ, List, [], None, filter, sym, ◌∙◌, ap, subst, arith}
use Rattle.std.specs.Prelude.{Result, OnOk, not, slice_set, IsSomeAnd}
use Rattle.std.specs.List.{slice_get, slice_index_or}
use Rattle.std.proofs.lemmas.Result.{on_ok_weaker}
use Rattle.col_disk.specs.declared.disk.Disk.{Ghosts}
use Rattle.col_value.specs.declared.column.Column.{Column}
use Rattle.db_model.specs.Database.{Database}
use Rattle.db_model.specs.State.{State, Changes}
use Rattle.db_model.specs.Events.{table_created, table_dropped, is_not_named, is_of_table}
use Rattle.db_model.specs.Numbers.{IsDrawn}
use Rattle.db_model.specs.Sound.{IsSoundDatabase, IsSound}
use Rattle.sound_laws.specs.Moves.{moved_at}
use Rattle.store_commit.specs.Seen.{Seen, Stands}
use Rattle.store_commit.specs.Making.{Makes}
use Rattle.table_store.specs.Creating.{created, dropped}
use Rattle.table_store.specs.Drawing.{FewContainers, Draws, DrawsOne}
use Rattle.alike_laws.specs.Reordered.{AreAlikeSessions}
use Rattle.alike_laws.proofs.Changes.{changes_at, others_alike, set_alike}
use Rattle.store_core.specs.Running.{Running, running, IsState, Mover, work_dropped}
use Rattle.store_core.specs.Events.{Does}
use Rattle.store_core.proofs.Doing.{numbered, Grown, drawn_does, grown_one}

-- other numbers leave a state sound
pub renumbered : (s : State) → IsSound s → (next parts : ℕ) → IsSound (numbered s next parts)
renumbered s is next parts = record {
  database = is.database;
  eight = is.eight;
  first = is.first;
  current = is.current;
  sessions = is.sessions;
  apart = is.apart;
  asked = is.asked;
}

pub viewed : {D : Type 0} (disk : Ghosts D) (old : D) (r now : Running) (state : State) → r ≡ now → IsState disk now old state → IsState disk r old state
viewed disk old r now state view here = subst (λ (x : Running). IsState disk x old state) (sym view) here

pub grown_by_one : {F : Type 0} (result : Result (Unit {0}) F) (state : State) (was is : Seen) → state.next ≡ was.catalogue.next → FewContainers state.parts was.catalogue → OnOk result (DrawsOne was.catalogue is.catalogue) → OnOk result (Grown state is state.parts)
grown_by_one result state was is next few draws = on_ok_weaker result (λ one. grown_one state was.catalogue is.catalogue is.stores next few one) draws

grown_some : {F : Type 0} (result : Result (Unit {0}) F) (state : State) (was is : Seen) → state.next ≡ was.catalogue.next → FewContainers state.parts was.catalogue → OnOk result (Draws was.catalogue is.catalogue) → OnOk result (Grown state is (state.parts + 2))
grown_some result state was is next few draws = on_ok_weaker result (λ some. one some) draws
  where
    one : Draws was.catalogue is.catalogue → Grown state is (state.parts + 2)
    one some =
        let from = some.from in
        let upto = some.upto state.parts few in
        record { from = omega (arith, from, next); upto = omega (arith, upto, next); few = some.few state.parts few; most = omega arith }

-- ---- CREATE TABLE

pub create_does : {D F : Type 0} (disk : Ghosts D) (short : F) {old new : D} (was is : Seen) (sessions : List (List Changes)) (current : ℕ) (mover after : Mover) (now : Running) (name : List ℕ) (columns : List Column) (result : Result (Unit {0}) F) (state : State)
    → running was sessions current mover ≡ now → IsState disk now old state → after ≡ work_dropped mover → IsSound (table_created name columns state)
    → ((d : Database) → Stands disk was old d → IsSoundDatabase (created name columns d) → Makes disk short was is old new result d (created name columns d)) → OnOk result (DrawsOne was.catalogue is.catalogue)
    → Does disk short now (running is sessions current after) old new result state (IsDrawn state (table_created name columns state))
create_does disk short {old} {new} was is sessions current mover after now name columns result state view here given sound makes draws =
    let own = viewed disk old (running was sessions current mover) now state view here in
    subst (λ (r : Running). Does disk short r (running is sessions current after) old new result state (IsDrawn state (table_created name columns state))) view
    (drawn_does disk short was is sessions sessions current mover after result state (table_created name columns state) state.parts own (makes state.database own.database sound.database)
    (grown_by_one result state was is own.next own.parts draws)
    (record { sessions = own.sessions; current = own.current; asked = own.asked ∙ sym (ap (λ (m : Mover). m.asked) given); busy = own.busy ∙ sym (ap (λ (m : Mover). m.busy) given); free = ap (λ (m : Mover). m.work) given; sound = renumbered (table_created name columns state) sound }))

-- ---- DROP TABLE

abbrev own_others : List ℕ → List (List Changes) → ℕ → List Changes
own_others name sessions current = filter (λ c. is_not_named name c.table) (slice_index_or sessions (current - 1) [])

abbrev pub without_own : List ℕ → List (List Changes) → ℕ → List (List Changes)
without_own name sessions current = slice_set sessions (current - 1) (own_others name sessions current)

pub drop_does : {D F : Type 0} (disk : Ghosts D) (short : F) {old new : D} (was is : Seen) (sessions others : List (List Changes)) (current : ℕ) (mover after : Mover) (now : Running) (table : ℕ) (name : List ℕ) (result : Result (Unit {0}) F) (state : State)
    → running was sessions current mover ≡ now → others ≡ without_own name sessions current → IsState disk now old state → IsSound (table_dropped name state)
    → IsSomeAnd (slice_get now.seen.catalogue.tables table) (λ t. t.name ≡ name)
    → after.asked ≡ filter (λ n. not (is_of_table name state.database.tables n)) mover.asked → after.busy ≡ 0 → after.work ≡ None
    → ((d : Database) (n : List ℕ) → Stands disk was old d → IsSomeAnd (slice_get was.catalogue.tables table) (λ t. t.name ≡ n) → Makes disk short was is old new result d (dropped n d)) → OnOk result (DrawsOne was.catalogue is.catalogue)
    → Does disk short now (running is others current after) old new result state (IsDrawn state (table_dropped name state))
drop_does disk short {old} {new} was is sessions others current mover after now table name result state view left here sound there waits idle free makes draws =
    let own = viewed disk old (running was sessions current mover) now state view here in
    subst (λ (r : Running). Does disk short r (running is others current after) old new result state (IsDrawn state (table_dropped name state))) view
    (drawn_does disk short was is sessions others current mover after result state (table_dropped name state) state.parts own
    (makes state.database name own.database (subst (λ (r : Running). IsSomeAnd (slice_get r.seen.catalogue.tables table) (λ t. t.name ≡ name)) (sym view) there))
    (grown_by_one result state was is own.next own.parts draws)
    (record {
      sessions =
          subst (λ (ss : List (List Changes)). AreAlikeSessions ss (without_own name state.sessions state.current)) (sym left)
          (subst (λ (n : ℕ). AreAlikeSessions (without_own name sessions current) (without_own name state.sessions n)) (sym own.current)
          (set_alike sessions state.sessions (current - 1) (own_others name sessions current) (own_others name state.sessions current) own.sessions
          (others_alike name (slice_index_or sessions (current - 1) []) (slice_index_or state.sessions (current - 1) []) (changes_at sessions state.sessions (current - 1) own.sessions))));
      current = own.current;
      asked = ap (filter (λ n. not (is_of_table name state.database.tables n))) own.asked ∙ sym waits;
      busy = sym idle;
      free = free;
      sound = renumbered (table_dropped name state) sound;
    }))

-- ---- a moveout

abbrev pub moved_state : ℕ → ℕ → State → State
moved_state i j state = record state { database = moved_at i j state.database }

pub move_does : {D F : Type 0} (disk : Ghosts D) (short : F) {old new : D} (was is : Seen) (sessions : List (List Changes)) (current : ℕ) (mover after : Mover) (now : Running) (i j : ℕ) (result : Result (Unit {0}) F) (state : State)
    → running was sessions current mover ≡ now → IsState disk now old state → after ≡ work_dropped mover → IsSound (moved_state i j state) → ((d : Database) → Stands disk was old d → Makes disk short was is old new result d (moved_at i j d)) → OnOk result (Draws was.catalogue is.catalogue)
    → Does disk short now (running is sessions current after) old new result state (IsDrawn state (moved_state i j state))
move_does disk short {old} {new} was is sessions current mover after now i j result state view here given sound makes draws =
    let own = viewed disk old (running was sessions current mover) now state view here in
    subst (λ (r : Running). Does disk short r (running is sessions current after) old new result state (IsDrawn state (moved_state i j state))) view
    (drawn_does disk short was is sessions sessions current mover after result state (moved_state i j state) (state.parts + 2) own (makes state.database own.database)
    (grown_some result state was is own.next own.parts draws)
    (record { sessions = own.sessions; current = own.current; asked = own.asked ∙ sym (ap (λ (m : Mover). m.asked) given); busy = own.busy ∙ sym (ap (λ (m : Mover). m.busy) given); free = ap (λ (m : Mover). m.work) given; sound = renumbered (moved_state i j state) sound }))
