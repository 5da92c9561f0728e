use Rattle.std.proofs.Common.{◌≡◌, ◌<◌, ◌≤◌, List, length, set, sym, ap, ◌∙◌, subst, arith, rules}
use Rattle.std.specs.List.{insert}
use Rattle.std.proofs.lemmas.List.Edits.{length-insert}
use Rattle.col_disk.specs.declared.disk.DiskFault.TheVariants as disk_fault
use Rattle.proj_store.specs.Loaded.{Loaded}
use Rattle.store_commit.specs.Seen.{Seen}
use Rattle.store_commit.proofs.Settled.{made_nothing}
use Rattle.table_store.specs.Drawing.{DrawsOne}
use Rattle.table_store.specs.Held.{at_epoch, seen_of, IsHeld}
use Rattle.table_store.specs.Shaping.{new_shape, shaped_at}
use Rattle.table_store.proofs.Drawn.{one_drawn}
use Rattle.table_store.proofs.Makes.{settled_not, settled_done}
use Rattle.table_store.proofs.Shaped.{place_there, put_back, put_there, shape_draws, shape_held, shape_makes, shape_seen, table_there}
use Rattle.catalog_types.specs.declared.catalogue.Catalogue.{Catalogue}
use Rattle.table_store.proofs.store.TableStore.create_projection.Goals as goal

pub returns-in-Err-clause-made : goal.returns-in-Err-clause-made
returns-in-Err-clause-made g c = λ d stands none sound.
    made_nothing g.D.Disk c.args.self.now c.args.self.now disk_fault.Memory d (shaped_at c.args.table (new_shape c.args.projection c.args.self.now.catalogue.last) d) stands

pub index_mut-requires : goal.index_mut-requires
index_mut-requires g c =
    let lt : c.args.table < length c.self.inside.tables.items = table_there c.self.inside.root c.self.inside.last c.self.inside.tables.items c.args.self.now c.args.table c.self.view_is c.self.invariant c.requires.table in
    search rules

pub insert-requires : goal.insert-requires
insert-requires g c =
    let lt = table_there c.self.inside.root c.self.inside.last c.self.inside.tables.items c.args.self.now c.args.table c.self.view_is c.self.invariant c.requires.table in
    place_there c.self.inside.root c.self.inside.tables.items c.args.table c.in-Ok.ready.place c.args.projection c.index_mut.result.now c.self.invariant lt c.index_mut.ensures.value c.in-Ok.ensures.place

pub returns-in-Err-insert-clause-made : goal.returns-in-Err-insert-clause-made
returns-in-Err-insert-clause-made g c = λ d stands none sound.
    made_nothing g.D.Disk c.args.self.now _ disk_fault.Memory d (shaped_at c.args.table (new_shape c.args.projection c.args.self.now.catalogue.last) d) stands

pub index_mut-requires-in-Err-settle : goal.index_mut-requires-in-Err-settle
index_mut-requires-in-Err-settle g c =
    let lt : c.args.table < length c.self.inside.tables.items = table_there c.self.inside.root c.self.inside.last c.self.inside.tables.items c.args.self.now c.args.table c.self.view_is c.self.invariant c.requires.table in
    search rules

pub remove-requires : goal.remove-requires
remove-requires g c =
    let items = c.self.inside.tables.items in
    let lt = table_there c.self.inside.root c.self.inside.last items c.args.self.now c.args.table c.self.view_is c.self.invariant c.requires.table in
    let le : c.in-Ok.ready.place ≤ length c.index_mut.result.now =
    place_there c.self.inside.root items c.args.table c.in-Ok.ready.place c.args.projection c.index_mut.result.now c.self.invariant lt c.index_mut.ensures.value c.in-Ok.ensures.place in
    let again : c.index_mut-in-Err-settle.result.now ≡ insert c.index_mut.result.now c.in-Ok.ready.place c.in-Ok.ready.store =
    put_there items c.args.table c.insert.new.self c.index_mut-in-Err-settle.result.now lt c.index_mut-in-Err-settle.ensures.value ∙ c.in-Ok-insert.ensures.put in
    omega (arith, ap length again, length-insert c.index_mut.result.now c.in-Ok.ready.place c.in-Ok.ready.store le)

pub invariant_of-self-in-Err-settle : goal.invariant_of-self-in-Err-settle
invariant_of-self-in-Err-settle g c =
    let items = c.self.inside.tables.items in
    let ps = c.index_mut.result.now in
    let place = c.in-Ok.ready.place in
    let lt = table_there c.self.inside.root c.self.inside.last items c.args.self.now c.args.table c.self.view_is c.self.invariant c.requires.table in
    let le = place_there c.self.inside.root items c.args.table place c.args.projection ps c.self.invariant lt c.index_mut.ensures.value c.in-Ok.ensures.place in
    subst (IsHeld c.self.inside.root)
    (sym (put_back items c.args.table place ps c.insert.new.self c.index_mut-in-Err-settle.result.now c.remove.new.self c.in-Ok.ready.store lt c.index_mut.ensures.value le c.in-Ok-insert.ensures.put
    c.index_mut-in-Err-settle.ensures.value c.remove.ensures)) c.self.invariant

pub returns-in-Err-settle-clause-made : goal.returns-in-Err-settle-clause-made
returns-in-Err-settle-clause-made g c = λ d stands none sound.
    settled_not g.D.Disk c.args.self.now _ _ c.in-Err-settle.fault d (shaped_at c.args.table (new_shape c.args.projection c.args.self.now.catalogue.last) d)
    (shape_makes g.D.Disk c.self.inside.root c.self.inside.last c.self.inside.tables.items c.args.self.now c.args.projection c.args.table c.in-Ok.ready.place c.in-Ok.ready.catalogue _ d c.in-Err-settle.ensures.made
    c.self.view_is c.in-Ok.ensures.place c.in-Ok.ensures.catalogue stands none sound)

pub returns-in-Err-settle-clause-same : goal.returns-in-Err-settle-clause-same
returns-in-Err-settle-clause-same g c =
    let items = c.self.inside.tables.items in
    let ps = c.index_mut.result.now in
    let place = c.in-Ok.ready.place in
    let lt = table_there c.self.inside.root c.self.inside.last items c.args.self.now c.args.table c.self.view_is c.self.invariant c.requires.table in
    let le = place_there c.self.inside.root items c.args.table place c.args.projection ps c.self.invariant lt c.index_mut.ensures.value c.in-Ok.ensures.place in
    ap (λ (ts : List (List Loaded)). seen_of c.self.inside.root c.self.inside.last ts)
    (put_back items c.args.table place ps c.insert.new.self c.index_mut-in-Err-settle.result.now c.remove.new.self c.in-Ok.ready.store lt c.index_mut.ensures.value le c.in-Ok-insert.ensures.put
    c.index_mut-in-Err-settle.ensures.value c.remove.ensures) ∙ c.self.view_is

pub invariant_of-self-2 : goal.invariant_of-self-2
invariant_of-self-2 g c =
    let items = c.self.inside.tables.items in
    let lt = table_there c.self.inside.root c.self.inside.last items c.args.self.now c.args.table c.self.view_is c.self.invariant c.requires.table in
    shape_held c.self.inside.root c.self.inside.last items (set items c.args.table c.insert.new.self) c.args.projection c.args.table c.in-Ok.ready.place c.in-Ok.ready.catalogue c.index_mut.result.now c.in-Ok.ready.store
    lt c.index_mut.ensures.value (ap (set items c.args.table) c.in-Ok-insert.ensures.put) c.in-Ok.ensures.store c.in-Ok.ensures.catalogue c.self.invariant c.in-Ok.ensures.valid

pub returns-clause-made : goal.returns-clause-made
returns-clause-made g c = λ d stands none sound.
    let items = c.self.inside.tables.items in
    let lt = table_there c.self.inside.root c.self.inside.last items c.args.self.now c.args.table c.self.view_is c.self.invariant c.requires.table in
    settled_done g.D.Disk c.args.self.now _ _ d (shaped_at c.args.table (new_shape c.args.projection c.args.self.now.catalogue.last) d)
    (shape_seen c.self.inside.root c.self.inside.last items (set items c.args.table c.insert.new.self) c.args.projection c.args.table c.in-Ok.ready.place c.in-Ok.ready.catalogue c.index_mut.result.now c.in-Ok.ready.store
    lt c.index_mut.ensures.value (ap (set items c.args.table) c.in-Ok-insert.ensures.put) c.in-Ok.ensures.store c.in-Ok.ensures.catalogue)
    (shape_makes g.D.Disk c.self.inside.root c.self.inside.last items c.args.self.now c.args.projection c.args.table c.in-Ok.ready.place c.in-Ok.ready.catalogue _ d c.in-Ok-settle.ensures.made
    c.self.view_is c.in-Ok.ensures.place c.in-Ok.ensures.catalogue stands none sound)

pub returns-clause-drawn : goal.returns-clause-drawn
returns-clause-drawn g c =
    let root = c.self.inside.root in
    let last = c.self.inside.last in
    let catalogue = c.in-Ok.ready.catalogue in
    subst (λ (s : Seen). DrawsOne s.catalogue (at_epoch last catalogue)) c.self.view_is
    (one_drawn root catalogue last last (shape_draws root catalogue last c.args.table c.in-Ok.ready.place c.args.projection c.in-Ok.ensures.catalogue))

pub settle-requires-clause-drawn : goal.settle-requires-clause-drawn
settle-requires-clause-drawn g c = omega (arith, ap (λ (k : Catalogue). k.next) c.in-Ok.ensures.catalogue)
