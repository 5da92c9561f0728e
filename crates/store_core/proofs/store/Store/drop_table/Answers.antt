use Rattle.std.proofs.Common.{◌≡◌, ◌∙◌, ℕ, List, filter, not, refl, sym, ap, subst}
use Rattle.std.specs.Prelude.{None, Ok, Err, IsSomeAnd}
use Rattle.std.specs.List.{slice_get}
use Rattle.col_disk.specs.declared.disk.DiskFault.TheVariants.{Memory}
use Rattle.db_model.specs.Events.{is_of_table, table_dropped}
use Rattle.db_model.specs.Numbers.{IsDrawn}
use Rattle.store_core.specs.Running.{mover_of, running, work_dropped, Mover, Running}
use Rattle.store_core.specs.Waiting.{has_name}
use Rattle.store_core.proofs.Doing.{does_failed}
use Rattle.store_core.proofs.Events.{without_own, drop_does}
use Rattle.store_core.proofs.Shaped.{nothing_done}
use Rattle.store_core.proofs.Stepping.{asked_beside}
use Rattle.store_core.proofs.store.Store.drop_table.Goals as goal

pub returns-in-Err-clause-does : goal.returns-in-Err-clause-does
returns-in-Err-clause-does g c = λ state here free. nothing_done g.D.Disk c.args.disk.now c.args.self.now state (IsDrawn state (table_dropped c.args.name.now state)) here

pub returns-in-Err-drop_table-clause-does : goal.returns-in-Err-drop_table-clause-does
returns-in-Err-drop_table-clause-does g c = λ state here free.
    let was = c.self.inside.tables in
    let sessions = c.self.inside.txns in
    let current = c.self.inside.current in
    let mover = c.self.inside.mover in
    let name = c.args.name.now in
    let after = mover_of (filter (λ n. not (is_of_table name state.database.tables n)) mover.asked) 0 None in
    does_failed g.D.Disk Memory c.args.self.now (running c.drop_table.new.self (without_own name sessions current) current after) _ c.in-Err-drop_table.fault state (IsDrawn state (table_dropped name state))
    (drop_does g.D.Disk Memory was c.drop_table.new.self sessions (without_own name sessions current) current mover after c.args.self.now c.args.table name (Err c.in-Err-drop_table.fault) state c.self.view_is refl here
    (c.tables_may_be_dropped.ensures state name free here.sound) c.requires refl refl refl c.in-Err-drop_table.ensures.made c.in-Err-drop_table.ensures.drawn)

pub returns-clause-does : goal.returns-clause-does
returns-clause-does g c = λ state here free.
    let was = c.self.inside.tables in
    let sessions = c.self.inside.txns in
    let current = c.self.inside.current in
    let mover = c.self.inside.mover in
    let name = c.args.name.now in
    let own : c.self.inside.mover ≡ c.args.self.now.mover = ap (λ (r : Running). r.mover) c.self.view_is in
    let here_asked : c.drop_work.new.self.asked ≡ c.args.self.now.mover.asked = ap (λ (m : Mover). m.asked) (c.drop_work.ensures ∙ ap work_dropped own) in
    let beside = subst (λ (r : Running). IsSomeAnd (slice_get r.seen.catalogue.tables c.args.table) (λ t. c.in-Ok.asked.items ≡ filter (λ n. not (has_name n t.projections)) c.drop_work.new.self.asked)) c.self.view_is c.in-Ok.ensures in
    let now_beside = subst (λ (xs : List (List ℕ)). IsSomeAnd (slice_get c.args.self.now.seen.catalogue.tables c.args.table) (λ t. c.in-Ok.asked.items ≡ filter (λ n. not (has_name n t.projections)) xs)) here_asked beside in
    let waits = asked_beside g.D.Disk c.args.self.now c.args.disk.now state c.args.table name c.args.self.now.mover.asked c.in-Ok.asked.items here c.requires now_beside in
    let asked : c.drop_job.new.self.asked ≡ filter (λ n. not (is_of_table name state.database.tables n)) mover.asked =
    ap (λ (m : Mover). m.asked) c.drop_job.ensures ∙ ap (λ (m : Mover). m.asked) c.ask.ensures ∙ waits ∙ ap (λ (m : Mover). filter (λ n. not (is_of_table name state.database.tables n)) m.asked) (sym own) in
    drop_does g.D.Disk Memory was c.drop_table.new.self sessions c.forget.new.self current mover c.drop_job.new.self c.args.self.now c.args.table name (Ok tt) state c.self.view_is c.forget.ensures here
    (c.tables_may_be_dropped.ensures state name free here.sound) c.requires asked (ap (λ (m : Mover). m.busy) c.drop_job.ensures) (ap (λ (m : Mover). m.work) c.drop_job.ensures) c.in-Ok-drop_table.ensures.made c.in-Ok-drop_table.ensures.drawn
