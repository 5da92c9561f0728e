use Rattle.std.proofs.Common.{◌<◌, length, set, sym, ap, subst, rules, arith}
use Rattle.std.specs.Prelude.{IsSomeAnd}
use Rattle.std.specs.List.{slice_get}
use Rattle.col_disk.specs.declared.disk.DiskFault.TheVariants as disk_fault
use Rattle.store_commit.specs.Seen.{Seen}
use Rattle.store_commit.proofs.Settled.{made_nothing}
use Rattle.table_store.specs.Drawing.{DrawsOne}
use Rattle.table_store.specs.Held.{at_epoch}
use Rattle.table_store.specs.Shaping.{unshaped_at}
use Rattle.table_store.proofs.Drawn.{one_drawn}
use Rattle.table_store.proofs.Makes.{settled_not, settled_done}
use Rattle.table_store.proofs.Unshaped.{place_inside, table_inside, unshape_draws, unshape_held, unshape_makes, unshape_seen}
use Rattle.catalog_types.specs.declared.catalogue.Catalogue.{Catalogue}
use Rattle.table_store.proofs.store.TableStore.drop_projection.Goals as goal

pub without_projection_at-requires-clause-there : goal.without_projection_at-requires-clause-there
without_projection_at-requires-clause-there g c = subst (λ (s : Seen). IsSomeAnd (slice_get s.catalogue.tables c.args.table) (λ t. c.args.place < length t.projections)) (sym c.self.view_is) c.requires

pub returns-in-Err-clause-made : goal.returns-in-Err-clause-made
returns-in-Err-clause-made g c = λ d stands sound. made_nothing g.D.Disk c.args.self.now c.args.self.now disk_fault.Memory d (unshaped_at c.args.table c.args.place d) stands

pub returns-in-Err-settle-clause-made : goal.returns-in-Err-settle-clause-made
returns-in-Err-settle-clause-made g c = λ d stands sound.
    settled_not g.D.Disk c.args.self.now _ _ c.in-Err-settle.fault d (unshaped_at c.args.table c.args.place d)
    (unshape_makes g.D.Disk c.self.inside.root c.self.inside.last c.self.inside.tables.items c.args.self.now c.args.table c.args.place c.in-Ok.catalogue _ d c.in-Err-settle.ensures.made
    c.self.view_is c.in-Ok.ensures.catalogue stands sound)

pub index_mut-requires : goal.index_mut-requires
index_mut-requires g c =
    let lt : c.args.table < length c.self.inside.tables.items = table_inside c.self.inside.root c.self.inside.last c.self.inside.tables.items c.args.self.now c.args.table c.args.place c.self.view_is c.self.invariant c.requires in
    search rules

pub remove-requires : goal.remove-requires
remove-requires g c =
    let items = c.self.inside.tables.items in
    let lt = table_inside c.self.inside.root c.self.inside.last items c.args.self.now c.args.table c.args.place c.self.view_is c.self.invariant c.requires in
    place_inside c.self.inside.root c.self.inside.last items c.args.self.now c.args.table c.args.place c.index_mut.result.now c.self.view_is c.self.invariant lt c.index_mut.ensures.value c.requires

pub invariant_of-self : goal.invariant_of-self
invariant_of-self g c =
    let items = c.self.inside.tables.items in
    let lt = table_inside c.self.inside.root c.self.inside.last items c.args.self.now c.args.table c.args.place c.self.view_is c.self.invariant c.requires in
    unshape_held c.self.inside.root c.self.inside.last items (set items c.args.table c.remove.new.self) c.args.table c.args.place c.in-Ok.catalogue c.index_mut.result.now lt c.index_mut.ensures.value
    (ap (set items c.args.table) c.remove.ensures) c.in-Ok.ensures.catalogue c.self.invariant c.in-Ok.ensures.valid

pub returns-clause-made : goal.returns-clause-made
returns-clause-made g c = λ d stands sound.
    let items = c.self.inside.tables.items in
    let lt = table_inside c.self.inside.root c.self.inside.last items c.args.self.now c.args.table c.args.place c.self.view_is c.self.invariant c.requires in
    settled_done g.D.Disk c.args.self.now _ _ d (unshaped_at c.args.table c.args.place d)
    (unshape_seen c.self.inside.root c.self.inside.last items (set items c.args.table c.remove.new.self) c.args.table c.args.place c.in-Ok.catalogue c.index_mut.result.now lt c.index_mut.ensures.value
    (ap (set items c.args.table) c.remove.ensures) c.in-Ok.ensures.catalogue)
    (unshape_makes g.D.Disk c.self.inside.root c.self.inside.last items c.args.self.now c.args.table c.args.place c.in-Ok.catalogue _ d c.in-Ok-settle.ensures.made
    c.self.view_is c.in-Ok.ensures.catalogue stands sound)

pub returns-clause-drawn : goal.returns-clause-drawn
returns-clause-drawn g c =
    let root = c.self.inside.root in
    let last = c.self.inside.last in
    subst (λ (s : Seen). DrawsOne s.catalogue (at_epoch last c.in-Ok.catalogue)) c.self.view_is
    (one_drawn root c.in-Ok.catalogue last last (unshape_draws root c.in-Ok.catalogue last c.args.table c.args.place c.in-Ok.ensures.catalogue))

pub settle-requires-clause-drawn : goal.settle-requires-clause-drawn
settle-requires-clause-drawn g c = omega (arith, ap (λ (k : Catalogue). k.next) c.in-Ok.ensures.catalogue)
