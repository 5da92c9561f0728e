use Rattle.std.proofs.Common.{refl}
use Rattle.col_disk.specs.declared.disk.DiskFault.TheVariants.{Memory}
use Rattle.db_model.specs.Events.{projection_created}
use Rattle.db_model.specs.Numbers.{IsDrawn}
use Rattle.store_core.proofs.Shaped.{decides_by, new_of, nothing_done, shape_does, table_there}
use Rattle.store_core.proofs.store.Store.create_projection.Goals as goal

pub returns-in-Err-clause-does : goal.returns-in-Err-clause-does
returns-in-Err-clause-does g c = λ state p here free named of. nothing_done g.D.Disk c.args.disk.now c.args.self.now state (IsDrawn state (projection_created p state)) here

pub returns-in-Err-parts_of-clause-does : goal.returns-in-Err-parts_of-clause-does
returns-in-Err-parts_of-clause-does g c = λ state p here free named of. nothing_done g.D.Disk c.args.disk.now c.args.self.now state (IsDrawn state (projection_created p state)) here

pub returns-clause-does : goal.returns-clause-does
returns-clause-does g c = λ state p here free named of.
    let was = c.self.inside.tables in
    let sessions = c.self.inside.txns in
    let current = c.self.inside.current in
    let mover = c.self.inside.mover in
    let root = c.root.result.now in
    let ts = c.tables.result.now in
    let lt = table_there was root ts sessions current mover c.args.self.now c.args.table c.self.view_is c.root.ensures.root c.root.ensures.entries c.tables.ensures c.requires.table in
    let decides = decides_by was root ts c.args.table c.index-tables-table.result c.as_slice-parts.result.now c.in-Ok.fresh c.root.ensures.root c.tables.ensures lt c.index-tables-table.is c.as_slice-parts.ensures c.in-Ok.ensures in
    shape_does g.D.Disk Memory was c.create_projection.new.self sessions current mover c.drop_work.new.self c.args.self.now c.args.table p (new_of c.args.name c.in-Ok-parts_of.columns c.args.shape.sort c.in-Ok.fresh) c.args.shape c.create_projection.result state
    c.self.view_is here c.drop_work.ensures (c.a_new_projection_is_sound.ensures state p free here.sound) decides named c.in-Ok-parts_of.ensures refl of c.create_projection.ensures.made c.create_projection.ensures.drawn
