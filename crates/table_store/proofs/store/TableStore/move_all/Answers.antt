use Rattle.std.proofs.Common.{◌≡◌, ◌<◌, ◌-◌, length, rules, sym, subst, arith}
use Rattle.std.specs.Prelude.{Err, Some}
use Rattle.col_disk.specs.declared.disk.StoreFault.{StoreFault}
use Rattle.col_disk.specs.declared.disk.StoreFault.TheVariants as fault
use Rattle.db_model.specs.Mover.{behind}
use Rattle.store_commit.specs.Making.{Makes}
use Rattle.table_store.specs.Draining.{all_caught_up}
use Rattle.table_store.proofs.Counted.{no_length, some_moved}
use Rattle.table_store.proofs.Drains.{counted, drain_empty, drain_made, drain_none, drain_seen, drain_short, drain_unblamed, draws_last}
use Rattle.table_store.specs.Faults.{BlamesHeld, BlamesVectors}
use Rattle.table_store.proofs.Moves.{disk_any, disk_held, vectors_held}
use Rattle.table_store.proofs.Makes.{store_done, store_makes}
use Rattle.table_store.proofs.store.TableStore.move_all.Goals as goal

pub returns-then-is_empty-clause-made : goal.returns-then-is_empty-clause-made
returns-then-is_empty-clause-made g c = λ d stands.
    let items = c.self.inside.tables.items in
    let zero : length items ≡ 0 = search rules in
    drain_empty g.D.Disk c.args.disk.now c.self.inside.root c.self.inside.last items c.args.self.now d c.self.view_is (no_length items zero) stands

pub returns-in-Err-clause-made : goal.returns-in-Err-clause-made
returns-in-Err-clause-made g c = λ d stands.
    let some : 0 < length c.self.inside.tables.items = search rules in
    drain_short g.D.Disk c.self.inside.root c.self.inside.last c.self.inside.tables.items c.args.self.now c.args.self.now c.in-Err.fault d (all_caught_up d)
    (record { view = c.self.view_is; held = c.self.invariant; some = some; moved = c.drain.ensures.moved }) stands

pub returns-in-Err-clause-unblamed : goal.returns-in-Err-clause-unblamed
returns-in-Err-clause-unblamed g c = λ d stands.
    let some : 0 < length c.self.inside.tables.items = search rules in
    drain_unblamed g.D.Disk c.self.inside.root c.self.inside.last c.self.inside.tables.items c.args.self.now c.in-Err.fault d
    (record { view = c.self.view_is; held = c.self.invariant; some = some; moved = c.drain.ensures.moved }) stands c.in-Err.ensures.unblamed

pub returns-then-is_empty-2-clause-made : goal.returns-then-is_empty-2-clause-made
returns-then-is_empty-2-clause-made g c = λ d stands.
    let some : 0 < length c.self.inside.tables.items = search rules in
    let zero : length c.in-Ok.draft.moved.items ≡ 0 = search rules in
    drain_none g.D.Disk c.self.inside.root c.self.inside.last c.self.inside.tables.items c.args.self.now c.in-Ok.draft d
    (record { view = c.self.view_is; held = c.self.invariant; some = some; moved = c.drain.ensures.moved }) c.in-Ok.ensures.draft c.in-Ok.ensures.goes_on (no_length c.in-Ok.draft.moved.items zero) stands

pub returns-in-Err-settle-clause-made : goal.returns-in-Err-settle-clause-made
returns-in-Err-settle-clause-made g c = λ d stands.
    let some : 0 < length c.self.inside.tables.items = search rules in
    let more : 0 < length c.in-Ok.draft.moved.items = search rules in
    let is = c.in-Ok.ensures.draft in
    let room = is.room in
    subst (λ (f : StoreFault). Makes g.D.Disk fault.Memory c.args.self.now c.args.self.now c.args.disk.now c.settle.new.disk (Err f) d (all_caught_up d)) (sym c.from.ensures)
    (store_makes g.D.Disk c.args.self.now _ c.args.self.now c.in-Err-settle.fault d (all_caught_up d)
    (drain_made g.D.Disk c.self.inside.root c.self.inside.last c.self.inside.tables.items c.args.self.now c.in-Ok.draft (c.in-Ok.draft.root.next - 1) _ d c.in-Err-settle.ensures.made
    (record { view = c.self.view_is; held = c.self.invariant; some = some; moved = c.drain.ensures.moved }) is c.in-Ok.ensures.goes_on (some_moved c.in-Ok.draft.moved.items more) (omega (arith, room, more)) stands))

pub returns-clause-made : goal.returns-clause-made
returns-clause-made g c = λ d stands.
    let some : 0 < length c.self.inside.tables.items = search rules in
    let more : 0 < length c.in-Ok.draft.moved.items = search rules in
    let is = c.in-Ok.ensures.draft in
    let room = is.room in
    store_done g.D.Disk c.args.self.now _ _ d (all_caught_up d)
    (drain_seen c.self.inside.root c.in-Ok.draft.root c.self.inside.last c.self.inside.tables.items c.put_all.new.tables.items c.args.self.now c.in-Ok.draft c.self.view_is is (some_moved c.in-Ok.draft.moved.items more) c.put_all.ensures)
    (drain_made g.D.Disk c.self.inside.root c.self.inside.last c.self.inside.tables.items c.args.self.now c.in-Ok.draft (c.in-Ok.draft.root.next - 1) _ d c.in-Ok-settle.ensures.made
    (record { view = c.self.view_is; held = c.self.invariant; some = some; moved = c.drain.ensures.moved }) is c.in-Ok.ensures.goes_on (some_moved c.in-Ok.draft.moved.items more) (omega (arith, room, more)) stands)

pub returns-clause-drawn : goal.returns-clause-drawn
returns-clause-drawn g c = λ d stands.
    let some : 0 < length c.self.inside.tables.items = search rules in
    let is = c.in-Ok.ensures.draft in
    draws_last (length c.in-Ok.draft.moved.items) (length (behind d)) c.self.inside.last c.args.self.now.catalogue c.in-Ok.draft.root
    (counted g.D.Disk c.self.inside.root c.self.inside.last c.self.inside.tables.items c.args.self.now c.in-Ok.draft d
    (record { view = c.self.view_is; held = c.self.invariant; some = some; moved = c.drain.ensures.moved }) is c.in-Ok.ensures.goes_on stands) is.draws

pub returns-in-Err-settle-clause-blamed : goal.returns-in-Err-settle-clause-blamed
returns-in-Err-settle-clause-blamed g c = λ m told.
    subst (λ (f : StoreFault). BlamesVectors c.args.self.now.stores m f) (sym c.from.ensures) (disk_any c.args.self.now.stores m c.in-Err-settle.fault)

pub returns-in-Err-clause-named : goal.returns-in-Err-clause-named
returns-in-Err-clause-named g c = λ m told. vectors_held c.args.self.now.stores m c.in-Err.fault (c.in-Err.ensures.blamed m told)

pub returns-in-Err-settle-clause-named : goal.returns-in-Err-settle-clause-named
returns-in-Err-settle-clause-named g c = λ m told.
    let stores = c.args.self.now.stores in
    subst (λ (f : StoreFault). BlamesHeld stores (Some m) f) (sym c.from.ensures) (disk_held stores (Some m) c.in-Err-settle.fault)
