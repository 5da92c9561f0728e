use Rattle.std.proofs.Common.{List, map, length, set, sym, ap, subst, arith}
use Rattle.std.specs.Prelude.{Err, Some}
use Rattle.std.specs.List.{All}
use Rattle.col_disk.specs.declared.disk.StoreFault.{StoreFault}
use Rattle.col_disk.specs.declared.disk.StoreFault.TheVariants as fault
use Rattle.proj_store.specs.Loaded.{Loaded}
use Rattle.store_commit.specs.Seen.{Seen}
use Rattle.store_commit.specs.Making.{Makes}
use Rattle.sound_laws.specs.Moves.{moved_at}
use Rattle.table_store.specs.Drawing.{Draws, DrawsJob}
use Rattle.table_store.specs.Held.{at_epoch, projections_of, IsHeld}
use Rattle.table_store.proofs.Drawn.{job_done, some_drawn}
use Rattle.table_store.specs.Moving.{IsFreshAt, IsRewritten}
use Rattle.table_store.proofs.Moved.{fresh_table, fresh_place, rewritten_catalogue}
use Rattle.table_store.proofs.Makes.{move_short, move_made, move_seen, move_held, store_makes, store_done}
use Rattle.col_disk.specs.Faults.{IsUnblamed}
use Rattle.table_store.specs.Faults.{BlamesHeld, BlamesVectorsAt, IsReadable}
use Rattle.table_store.proofs.Moves.{any_blamed, disk_at, disk_held, vectors_held}
use Rattle.table_store.proofs.Unblamed.{move_unblamed, of_disk}
use Rattle.table_store.proofs.store.TableStore.move_out.Goals as goal

pub prepare_move-requires-clause-held : goal.prepare_move-requires-clause-held
prepare_move-requires-clause-held g c = subst (λ (ts : List (List Loaded)). IsHeld c.self.inside.root ts) (sym c.as_slice.ensures.value) c.self.invariant

pub prepare_move-requires-clause-fresh : goal.prepare_move-requires-clause-fresh
prepare_move-requires-clause-fresh g c =
    subst (λ (ts : List (List Loaded)). IsFreshAt (map projections_of ts) c.args.table c.args.place) (sym c.as_slice.ensures.value)
    (subst (λ (s : Seen). IsFreshAt s.stores c.args.table c.args.place) (sym c.self.view_is) c.requires)

pub returns-in-Err-clause-made : goal.returns-in-Err-clause-made
returns-in-Err-clause-made g c = λ d stands.
    move_short g.D.Disk c.self.inside.root c.self.inside.last c.self.inside.tables.items c.args.self.now _ c.args.table c.args.place c.in-Err.fault d (moved_at c.args.table c.args.place d) c.self.view_is c.self.invariant
    (subst (λ (s : Seen). IsFreshAt s.stores c.args.table c.args.place) (sym c.self.view_is) c.requires) c.prepare_move.ensures.moved stands

pub returns-in-Err-settle-clause-made : goal.returns-in-Err-settle-clause-made
returns-in-Err-settle-clause-made g c = λ d stands.
    let items = c.self.inside.tables.items in
    let i = c.args.table in
    let j = c.args.place in
    let fresh : IsFreshAt (map projections_of items) i j = subst (λ (s : Seen). IsFreshAt s.stores i j) (sym c.self.view_is) c.requires in
    let rewritten : IsRewritten c.self.inside.last c.self.inside.root (map projections_of items) i j c.in-Ok.ready.version c.in-Ok.ready.catalogue c.in-Ok.ready.store.stored (g.D.Disk.holds c.args.disk.now) (g.D.Disk.holds c.prepare_move.new.disk) =
    subst (λ (ts : List (List Loaded)). IsRewritten c.self.inside.last c.self.inside.root (map projections_of ts) i j c.in-Ok.ready.version c.in-Ok.ready.catalogue c.in-Ok.ready.store.stored (g.D.Disk.holds c.args.disk.now) (g.D.Disk.holds c.prepare_move.new.disk))
    c.as_slice.ensures.value c.in-Ok.ensures.moved_out in
    subst (λ (f : StoreFault). Makes g.D.Disk fault.Memory c.args.self.now c.args.self.now c.args.disk.now c.settle.new.disk (Err f) d (moved_at i j d)) (sym c.from.ensures)
    (store_makes g.D.Disk c.args.self.now _ c.args.self.now c.in-Err-settle.fault d (moved_at i j d)
    (move_made c.what_is_read_is_stored.ensures.stored g.D.Disk c.self.inside.root c.in-Ok.ready.catalogue c.self.inside.last items c.args.self.now i j c.in-Ok.ready.version c.in-Ok.ready.store.stored _ d
    c.in-Err-settle.ensures.made c.self.view_is c.self.invariant fresh rewritten c.in-Ok.ensures.moved stands))

pub index_mut-requires : goal.index_mut-requires
index_mut-requires g c =
    let items = c.self.inside.tables.items in
    let fresh : IsFreshAt (map projections_of items) c.args.table c.args.place = subst (λ (s : Seen). IsFreshAt s.stores c.args.table c.args.place) (sym c.self.view_is) c.requires in
    let lt = fresh_table items c.args.table c.args.place fresh in
    omega (arith, lt, ap length c.as_slice.ensures.value, c.as_slice.ensures.len)

pub replace-requires : goal.replace-requires
replace-requires g c =
    fresh_place c.self.inside.tables.items c.args.table c.args.place c.index_mut.result.now c.index_mut.ensures.value (subst (λ (s : Seen). IsFreshAt s.stores c.args.table c.args.place) (sym c.self.view_is) c.requires)

pub invariant_of-self : goal.invariant_of-self
invariant_of-self g c =
    let items = c.self.inside.tables.items in
    let i = c.args.table in
    let j = c.args.place in
    let fresh : IsFreshAt (map projections_of items) i j = subst (λ (s : Seen). IsFreshAt s.stores i j) (sym c.self.view_is) c.requires in
    move_held c.self.inside.root c.in-Ok.ready.catalogue c.self.inside.last c.in-Ok.ready.version i j items (set items i c.replace.new.self) c.index_mut.result.now c.in-Ok.ready.store
    (fresh_table items i j fresh) c.index_mut.ensures.value (fresh_place items i j c.index_mut.result.now c.index_mut.ensures.value fresh) (ap (set items i) c.replace.ensures)
    (rewritten_catalogue c.self.inside.last c.self.inside.root (map projections_of c.as_slice.result.now) i j c.in-Ok.ready.version c.in-Ok.ready.catalogue c.in-Ok.ready.store.stored
    (g.D.Disk.holds c.args.disk.now) (g.D.Disk.holds c.prepare_move.new.disk) c.in-Ok.ensures.moved_out) c.self.invariant c.in-Ok.ensures.valid

pub returns-clause-made : goal.returns-clause-made
returns-clause-made g c = λ d stands.
    let items = c.self.inside.tables.items in
    let i = c.args.table in
    let j = c.args.place in
    let fresh : IsFreshAt (map projections_of items) i j = subst (λ (s : Seen). IsFreshAt s.stores i j) (sym c.self.view_is) c.requires in
    let rewritten : IsRewritten c.self.inside.last c.self.inside.root (map projections_of items) i j c.in-Ok.ready.version c.in-Ok.ready.catalogue c.in-Ok.ready.store.stored (g.D.Disk.holds c.args.disk.now) (g.D.Disk.holds c.prepare_move.new.disk) =
    subst (λ (ts : List (List Loaded)). IsRewritten c.self.inside.last c.self.inside.root (map projections_of ts) i j c.in-Ok.ready.version c.in-Ok.ready.catalogue c.in-Ok.ready.store.stored (g.D.Disk.holds c.args.disk.now) (g.D.Disk.holds c.prepare_move.new.disk))
    c.as_slice.ensures.value c.in-Ok.ensures.moved_out in
    store_done g.D.Disk c.args.self.now _ _ d (moved_at i j d)
    (move_seen c.self.inside.root c.in-Ok.ready.catalogue c.self.inside.last c.in-Ok.ready.version i j items (set items i c.replace.new.self) c.index_mut.result.now c.in-Ok.ready.store
    (fresh_table items i j fresh) c.index_mut.ensures.value (fresh_place items i j c.index_mut.result.now c.index_mut.ensures.value fresh) (ap (set items i) c.replace.ensures)
    (rewritten_catalogue c.self.inside.last c.self.inside.root (map projections_of items) i j c.in-Ok.ready.version c.in-Ok.ready.catalogue c.in-Ok.ready.store.stored
    (g.D.Disk.holds c.args.disk.now) (g.D.Disk.holds c.prepare_move.new.disk) rewritten))
    (move_made c.what_is_read_is_stored.ensures.stored g.D.Disk c.self.inside.root c.in-Ok.ready.catalogue c.self.inside.last items c.args.self.now i j c.in-Ok.ready.version c.in-Ok.ready.store.stored _ d
    c.in-Ok-settle.ensures.made c.self.view_is c.self.invariant fresh rewritten c.in-Ok.ensures.moved stands)

pub returns-clause-drawn : goal.returns-clause-drawn
returns-clause-drawn g c =
    let last = c.self.inside.last in
    subst (λ (s : Seen). Draws s.catalogue (at_epoch last c.in-Ok.ready.catalogue)) c.self.view_is (some_drawn c.self.inside.root c.in-Ok.ready.catalogue last last c.in-Ok.ensures.drawn)

pub returns-clause-job : goal.returns-clause-job
returns-clause-job g c =
    let last = c.self.inside.last in
    let i = c.args.table in
    let j = c.args.place in
    subst (λ (s : Seen). DrawsJob i j s.catalogue (at_epoch last c.in-Ok.ready.catalogue)) c.self.view_is (job_done c.self.inside.root c.in-Ok.ready.catalogue last i j c.in-Ok.ensures.job)

pub returns-in-Err-clause-unblamed : goal.returns-in-Err-clause-unblamed
returns-in-Err-clause-unblamed g c = λ d stands.
    move_unblamed g.D.Disk c.self.inside.root c.self.inside.last c.self.inside.tables.items c.args.self.now c.args.table c.args.place c.in-Err.fault d c.self.view_is c.self.invariant
    (subst (λ (s : Seen). IsFreshAt s.stores c.args.table c.args.place) (sym c.self.view_is) c.requires) c.prepare_move.ensures.moved stands
    (λ m n was now all. c.in-Err.ensures.unblamed m n was now (subst (λ (ts : List (List Loaded)). All (All (IsReadable m)) (map projections_of ts)) (sym c.as_slice.ensures.value) all))

pub returns-in-Err-settle-clause-unblamed : goal.returns-in-Err-settle-clause-unblamed
returns-in-Err-settle-clause-unblamed g c = λ d stands. subst IsUnblamed (sym c.from.ensures) (of_disk c.in-Err-settle.fault)

pub returns-in-Err-clause-blamed : goal.returns-in-Err-clause-blamed
returns-in-Err-clause-blamed g c = λ m told.
    let i = c.args.table in
    let j = c.args.place in
    subst (λ (s : Seen). BlamesVectorsAt s.stores i j m c.in-Err.fault) c.self.view_is
    (subst (λ (ts : List (List Loaded)). BlamesVectorsAt (map projections_of ts) i j m c.in-Err.fault) c.as_slice.ensures.value (c.in-Err.ensures.blamed m told))

pub returns-in-Err-settle-clause-blamed : goal.returns-in-Err-settle-clause-blamed
returns-in-Err-settle-clause-blamed g c = λ m told.
    let stores = c.args.self.now.stores in
    subst (λ (f : StoreFault). BlamesVectorsAt stores c.args.table c.args.place m f) (sym c.from.ensures) (disk_at stores c.args.table c.args.place m c.in-Err-settle.fault)

pub returns-in-Err-clause-named : goal.returns-in-Err-clause-named
returns-in-Err-clause-named g c = λ m told.
    let i = c.args.table in
    let j = c.args.place in
    let f = c.in-Err.fault in
    vectors_held c.args.self.now.stores m f
    (any_blamed c.args.self.now.stores i j m f
    (subst (λ (s : Seen). BlamesVectorsAt s.stores i j m f) c.self.view_is
    (subst (λ (ts : List (List Loaded)). BlamesVectorsAt (map projections_of ts) i j m f) c.as_slice.ensures.value (c.in-Err.ensures.blamed m told))))

pub returns-in-Err-settle-clause-named : goal.returns-in-Err-settle-clause-named
returns-in-Err-settle-clause-named g c = λ m told.
    let stores = c.args.self.now.stores in
    subst (λ (f : StoreFault). BlamesHeld stores (Some m) f) (sym c.from.ensures) (disk_held stores (Some m) c.in-Err-settle.fault)
