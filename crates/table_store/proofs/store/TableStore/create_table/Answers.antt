use Rattle.std.proofs.Common.{map, length, ◌∙◌, ap, arith, subst}
use Rattle.std.specs.List.{insert}
use Rattle.std.proofs.lemmas.List.{length-map}
use Rattle.col_disk.specs.declared.disk.DiskFault.TheVariants as disk_fault
use Rattle.store_commit.proofs.Settled.{made_nothing}
use Rattle.store_commit.specs.Seen.{Seen}
use Rattle.table_store.specs.Drawing.{DrawsOne}
use Rattle.table_store.specs.Held.{at_epoch, projections_of}
use Rattle.table_store.proofs.Drawn.{create_draws, one_drawn}
use Rattle.table_store.specs.Creating.{created}
use Rattle.table_store.proofs.Standing.{held_still}
use Rattle.table_store.proofs.Makes.{settled_not, settled_done, create_makes, create_seen, create_held}
use Rattle.catalog_types.specs.declared.catalogue.Catalogue.{Catalogue}
use Rattle.table_store.proofs.store.TableStore.create_table.Goals as goal

pub returns-in-Err-clause-made : goal.returns-in-Err-clause-made
returns-in-Err-clause-made g c = λ d stands sound. made_nothing g.D.Disk c.args.self.now c.args.self.now disk_fault.Memory d (created c.args.name c.args.columns d) stands

pub returns-in-Err-reserve-clause-made : goal.returns-in-Err-reserve-clause-made
returns-in-Err-reserve-clause-made g c = λ d stands sound. made_nothing g.D.Disk c.args.self.now _ disk_fault.Memory d (created c.args.name c.args.columns d) stands

pub returns-in-Err-settle-clause-made : goal.returns-in-Err-settle-clause-made
returns-in-Err-settle-clause-made g c = λ d stands sound.
    settled_not g.D.Disk c.args.self.now _ _ c.in-Err-settle.fault d (created c.args.name c.args.columns d)
    (create_makes g.D.Disk c.self.inside.root c.self.inside.last c.self.inside.tables.items c.args.self.now c.args.name c.args.columns c.in-Ok.ready.place c.in-Ok.ready.catalogue _ d c.in-Err-settle.ensures.made
    c.self.view_is c.in-Ok.ensures.place c.in-Ok.ensures.catalogue stands sound)

pub put_parts-requires-clause-place : goal.put_parts-requires-clause-place
put_parts-requires-clause-place g c = omega (arith, c.in-Ok.ensures.within, ap length c.self.invariant.entries, length-map c.self.inside.root.tables (λ t. t.projections), length-map (map projections_of c.self.inside.tables.items) (λ ps. map (λ p. p.entry) ps), length-map c.self.inside.tables.items projections_of, ap length c.reserve.ensures.items)

pub invariant_of-self-2 : goal.invariant_of-self-2
invariant_of-self-2 g c =
    create_held c.self.inside.root c.self.inside.last c.reserve.new.self.items c.put_parts.new.tables.items c.args.name c.args.columns c.in-Ok.ready.place c.in-Ok.ready.catalogue c.in-Ok.ready.parts
    c.put_parts.ensures c.in-Ok.ensures.parts c.in-Ok.ensures.catalogue
    (held_still c.self.inside.root c.self.inside.tables.items c.reserve.new.self.items (ap (map projections_of) c.reserve.ensures.items) c.self.invariant) c.in-Ok.ensures.valid

pub returns-clause-made : goal.returns-clause-made
returns-clause-made g c = λ d stands sound.
    settled_done g.D.Disk c.args.self.now _ _ d (created c.args.name c.args.columns d)
    (create_seen c.self.inside.root c.self.inside.last c.self.inside.tables.items c.put_parts.new.tables.items c.args.name c.args.columns c.in-Ok.ready.place c.in-Ok.ready.catalogue c.in-Ok.ready.parts
    (c.put_parts.ensures ∙ ap (λ xs. insert xs c.in-Ok.ready.place c.in-Ok.ready.parts) c.reserve.ensures.items) c.in-Ok.ensures.parts c.in-Ok.ensures.catalogue)
    (create_makes g.D.Disk c.self.inside.root c.self.inside.last c.self.inside.tables.items c.args.self.now c.args.name c.args.columns c.in-Ok.ready.place c.in-Ok.ready.catalogue _ d c.in-Ok-settle.ensures.made
    c.self.view_is c.in-Ok.ensures.place c.in-Ok.ensures.catalogue stands sound)

pub returns-clause-drawn : goal.returns-clause-drawn
returns-clause-drawn g c =
    let root = c.self.inside.root in
    let last = c.self.inside.last in
    let catalogue = c.in-Ok.ready.catalogue in
    subst (λ (s : Seen). DrawsOne s.catalogue (at_epoch last catalogue)) c.self.view_is
    (one_drawn root catalogue last last (create_draws root catalogue last c.in-Ok.ready.place c.args.name c.args.columns c.in-Ok.ensures.catalogue))

pub settle-requires-clause-drawn : goal.settle-requires-clause-drawn
settle-requires-clause-drawn g c = omega (arith, ap (λ (k : Catalogue). k.next) c.in-Ok.ensures.catalogue)
