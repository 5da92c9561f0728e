use Rattle.std.proofs.Common.{◌≡◌, List, map, get_or, sym, ◌∙◌, ap, subst, arith}
use Rattle.catalog_types.specs.declared.catalogue.Catalogue.{Catalogue}
use Rattle.catalog_types.specs.declared.catalogue.Projection.{Projection}
use Rattle.col_disk.proofs.Moving.{moved_join, moved_read}
use Rattle.proj_store.specs.Loaded.{Loaded}
use Rattle.table_store.specs.Held.{projections_of}
use Rattle.table_store.proofs.Drawn.{move_draws, move_job}
use Rattle.table_store.proofs.Moved.{drawn_later, fresh_table, fresh_place, rewritten}
use Rattle.col_disk.specs.Faults.{IsUnblamed}
use Rattle.table_store.proofs.Shapes.{moved_shape_at}
use Rattle.col_disk.specs.declared.disk.StoreFault.{StoreFault}
use Rattle.table_store.specs.Faults.{BlamesVectorsAt}
use Rattle.table_store.proofs.Moves.{disk_at, moved_blamed, written_blamed}
use Rattle.table_store.proofs.Unblamed.{moved_unblamed, of_disk}
use Rattle.table_store.proofs.store.prepare_move.Goals as goal

pub returns-in-Err-load-clause-moved : goal.returns-in-Err-load-clause-moved
returns-in-Err-load-clause-moved g c = moved_join g.D.Disk c.moveout.ensures.moved (moved_read g.D.Disk c.load.ensures.looks)

pub with_entry_at-requires-clause-shape : goal.with_entry_at-requires-clause-shape
with_entry_at-requires-clause-shape g c =
    let p = c.index-as_slice-place.result in
    let p_is : p ≡ get_or c.index-tables-table.result c.args.place p = c.index-as_slice-place.is ∙ ap (λ (qs : List Loaded). get_or qs c.args.place p) c.as_slice.ensures in
    moved_shape_at c.args.last c.args.root.now.next c.in-Ok.out.next c.args.table c.args.place c.args.root.now c.args.tables.now c.index-tables-table.result p c.in-Ok.out.entry c.requires.held c.requires.fresh c.index-tables-table.is p_is c.in-Ok.ensures.entry

pub returns-in-Ok-with_entry_at-clause-moved_out : goal.returns-in-Ok-with_entry_at-clause-moved_out
returns-in-Ok-with_entry_at-clause-moved_out g c =
    let tables = c.args.tables.now in
    let i = c.args.table in
    let j = c.args.place in
    let ps = c.index-tables-table.result in
    let p = c.index-as_slice-place.result in
    let p_is : p ≡ get_or ps j p = c.index-as_slice-place.is ∙ ap (λ (qs : List Loaded). get_or qs j p) c.as_slice.ensures in
    rewritten c.args.last c.args.root.now c.in-Ok-with_entry_at.catalogue tables i j c.in-Ok.out.next ps p c.in-Ok-load.store.stored c.in-Ok.out.entry c.in-Ok-entry_copy.copy
    (g.D.Disk.holds c.args.disk.now) (g.D.Disk.holds c.moveout.new.disk) (g.D.Disk.holds c.load.new.disk)
    (fresh_table tables i j c.requires.fresh) c.index-tables-table.is (fresh_place tables i j ps c.index-tables-table.is c.requires.fresh) p_is
    c.in-Ok.ensures.entry c.in-Ok.ensures.held c.in-Ok-entry_copy.ensures c.in-Ok-load.ensures.entry c.in-Ok-load.ensures.loaded c.load.ensures.looks.contents c.in-Ok-with_entry_at.ensures.catalogue

pub returns-in-Ok-with_entry_at-clause-moved : goal.returns-in-Ok-with_entry_at-clause-moved
returns-in-Ok-with_entry_at-clause-moved g c = moved_join g.D.Disk c.moveout.ensures.moved (moved_read g.D.Disk c.load.ensures.looks)

pub returns-in-Err-with_entry_at-clause-moved : goal.returns-in-Err-with_entry_at-clause-moved
returns-in-Err-with_entry_at-clause-moved g c = moved_join g.D.Disk c.moveout.ensures.moved (moved_read g.D.Disk c.load.ensures.looks)

pub returns-in-Ok-with_entry_at-clause-drawn : goal.returns-in-Ok-with_entry_at-clause-drawn
returns-in-Ok-with_entry_at-clause-drawn g c =
    let tables = c.args.tables.now in
    let i = c.args.table in
    let j = c.args.place in
    let ps = c.index-tables-table.result in
    let p = c.index-as_slice-place.result in
    let p_is : p ≡ get_or ps j p = c.index-as_slice-place.is ∙ ap (λ (qs : List Loaded). get_or qs j p) c.as_slice.ensures in
    move_draws c.args.root.now c.in-Ok-with_entry_at.catalogue tables c.args.last c.in-Ok.out.next i j ps p c.in-Ok.out.entry c.requires.held
    (fresh_table tables i j c.requires.fresh) c.index-tables-table.is (fresh_place tables i j ps c.index-tables-table.is c.requires.fresh) p_is
    (drawn_later c.args.last c.args.root.now.next c.in-Ok.out.next p.stored.entry c.in-Ok.out.entry c.in-Ok.ensures.entry) c.in-Ok.ensures.upto c.in-Ok.ensures.count c.in-Ok-with_entry_at.ensures.catalogue

pub returns-in-Ok-with_entry_at-clause-job : goal.returns-in-Ok-with_entry_at-clause-job
returns-in-Ok-with_entry_at-clause-job g c =
    let tables = c.args.tables.now in
    let i = c.args.table in
    let j = c.args.place in
    let ps = c.index-tables-table.result in
    let p = c.index-as_slice-place.result in
    let p_is : p ≡ get_or ps j p = c.index-as_slice-place.is ∙ ap (λ (qs : List Loaded). get_or qs j p) c.as_slice.ensures in
    move_job c.args.root.now c.in-Ok-with_entry_at.catalogue tables c.args.last c.in-Ok.out.next i j ps p c.in-Ok.out.entry c.requires.held
    (fresh_table tables i j c.requires.fresh) c.index-tables-table.is (fresh_place tables i j ps c.index-tables-table.is c.requires.fresh) p_is
    (drawn_later c.args.last c.args.root.now.next c.in-Ok.out.next p.stored.entry c.in-Ok.out.entry c.in-Ok.ensures.entry) c.in-Ok.ensures.upto c.in-Ok.ensures.count
    (ap (λ (e : Projection). e.lge) c.in-Ok.ensures.entry.is) c.in-Ok-with_entry_at.ensures.catalogue

pub returns-in-Err-clause-unblamed : goal.returns-in-Err-clause-unblamed
returns-in-Err-clause-unblamed g c = λ m n was now all. subst IsUnblamed (sym c.from.ensures) (of_disk c.in-Err.fault)

pub returns-in-Err-load-clause-unblamed : goal.returns-in-Err-load-clause-unblamed
returns-in-Err-load-clause-unblamed g c = λ m n was now all.
    let tables = c.args.tables.now in
    let j = c.args.place in
    let ps = c.index-tables-table.result in
    let p = c.index-as_slice-place.result in
    let p_is : p ≡ get_or ps j p = c.index-as_slice-place.is ∙ ap (λ (qs : List Loaded). get_or qs j p) c.as_slice.ensures in
    moved_unblamed m n c.args.root.now tables c.args.table j ps p c.in-Ok.out.entry c.in-Ok-entry_copy.copy (g.D.Disk.holds c.args.disk.now) (g.D.Disk.holds c.moveout.new.disk) (g.D.Disk.holds c.load.new.disk) c.in-Err-load.fault
    c.requires.held c.requires.fresh c.index-tables-table.is p_is c.in-Ok.ensures.held c.in-Ok-entry_copy.ensures c.in-Err-load.ensures.blamed c.load.ensures.looks.contents was now all

pub returns-in-Ok-with_entry_at-clause-version : goal.returns-in-Ok-with_entry_at-clause-version
returns-in-Ok-with_entry_at-clause-version g c = omega (arith, ap (λ (k : Catalogue). k.next) c.in-Ok-with_entry_at.ensures.catalogue)

pub returns-in-Err-clause-blamed : goal.returns-in-Err-clause-blamed
returns-in-Err-clause-blamed g c = λ m told.
    let tables = map projections_of c.args.tables.now in
    subst (λ (f : StoreFault). BlamesVectorsAt tables c.args.table c.args.place m f) (sym c.from.ensures) (disk_at tables c.args.table c.args.place m c.in-Err.fault)

pub returns-in-Err-load-clause-blamed : goal.returns-in-Err-load-clause-blamed
returns-in-Err-load-clause-blamed g c = λ m told.
    let ps = c.index-tables-table.result in
    let p = c.index-as_slice-place.result in
    let p_is : p ≡ get_or ps c.args.place p = c.index-as_slice-place.is ∙ ap (λ (qs : List Loaded). get_or qs c.args.place p) c.as_slice.ensures in
    moved_blamed c.args.tables.now c.args.table c.args.place ps p m c.in-Err-load.fault c.requires.fresh c.index-tables-table.is p_is
    (written_blamed c.in-Ok.out.next p.stored c.in-Ok.out.entry c.in-Ok-entry_copy.copy (g.D.Disk.holds c.moveout.new.disk) (g.D.Disk.holds c.load.new.disk) c.in-Err-load.fault
    c.in-Ok.ensures.vectors c.in-Ok-entry_copy.ensures c.in-Err-load.ensures.blamed c.load.ensures.looks.contents m told)
