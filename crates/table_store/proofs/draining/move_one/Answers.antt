use Rattle.std.proofs.Common.{◌≡◌, ℕ, get_or, true, false, List, sym, ◌∙◌, ap, subst, arith}
use Rattle.col_disk.proofs.Moving.{moved_none, moved_wider}
use Rattle.db_model.specs.Database.{is_behind}
use Rattle.folder_model.specs.Projections.{shape_of}
use Rattle.proj_store.specs.Loaded.{Loaded}
use Rattle.stored_rows.specs.Stored.{Projected}
use Rattle.moveout_job.specs.OnDisk.{IsMovedOut}
use Rattle.table_store.proofs.Moves.{drained_blamed}
use Rattle.table_store.specs.Moving.{with_entry_at}
use Rattle.table_store.proofs.Drained.{at_weaker, below_there, draft_moved, draft_still, fresh_of, goes_moved, later_is, readable_there, spare_from, stored_there}
use Rattle.table_store.proofs.Shapes.{draft_shape_at}
use Rattle.table_store.proofs.draining.move_one.Goals as goal

pub returns-then-not-is_behind-clause-draft : goal.returns-then-not-is_behind-clause-draft
returns-then-not-is_behind-clause-draft g c =
    let p = c.index-as_slice-place.result in
    let at = stored_there c.tables.result.now c.args.store.now.stores c.args.table c.args.place c.index-tables-table.result p c.tables.ensures c.requires.there c.index-tables-table.is (c.index-as_slice-place.is ∙ ap (λ (ps : List Loaded). get_or ps c.args.place p) c.as_slice.ensures) in
    draft_still c.args.store.now c.args.draft c.args.table c.args.place c.requires.draft
    (at_weaker c.args.store.now.stores c.args.table c.args.place (λ q. p.stored ≡ q) (λ q. is_behind c.args.store.now.catalogue.last (shape_of q.entry) ≡ false)
    (λ q is. ap (λ (x : Projected). is_behind c.args.store.now.catalogue.last (shape_of x.entry)) (sym is) ∙ later_is c.last-last.result c.args.store.now.catalogue.last c.entry.result.now p.stored.entry c.is_behind.result false c.last-last.ensures c.entry.ensures.entry c.is_behind.ensures c.if-not-is_behind.true) at)

pub returns-then-not-is_behind-clause-moved : goal.returns-then-not-is_behind-clause-moved
returns-then-not-is_behind-clause-moved g c = moved_none g.D.Disk c.args.disk.now

pub returns-in-Err-clause-moved : goal.returns-in-Err-clause-moved
returns-in-Err-clause-moved g c = moved_wider g.D.Disk (spare_from c.args.store.now c.args.draft c.args.table c.args.place c.requires.draft) (λ q is. is) c.write_out.ensures.moved

pub returns-in-Ok-with_moved-clause-moved : goal.returns-in-Ok-with_moved-clause-moved
returns-in-Ok-with_moved-clause-moved g c = moved_wider g.D.Disk (spare_from c.args.store.now c.args.draft c.args.table c.args.place c.requires.draft) (λ q is. is) c.write_out.ensures.moved

pub returns-in-Err-with_moved-clause-moved : goal.returns-in-Err-with_moved-clause-moved
returns-in-Err-with_moved-clause-moved g c = moved_wider g.D.Disk (spare_from c.args.store.now c.args.draft c.args.table c.args.place c.requires.draft) (λ q is. is) c.write_out.ensures.moved

pub returns-in-Err-clause-unblamed : goal.returns-in-Err-clause-unblamed
returns-in-Err-clause-unblamed g c = λ m n d was now of.
    let p = c.index-as_slice-place.result in
    let at = stored_there c.tables.result.now c.args.store.now.stores c.args.table c.args.place c.index-tables-table.result p c.tables.ensures c.requires.there c.index-tables-table.is (c.index-as_slice-place.is ∙ ap (λ (ps : List Loaded). get_or ps c.args.place p) c.as_slice.ensures) in
    let late = later_is c.last-last.result c.args.store.now.catalogue.last c.entry.result.now p.stored.entry c.is_behind.result true c.last-last.ensures c.entry.ensures.entry c.is_behind.ensures c.if-not-is_behind.false in
    c.in-Err.ensures.unblamed m n was now (fresh_of c.args.store.now.catalogue.last p.stored.entry late)
    (readable_there c.args.store.now c.args.draft c.args.table c.args.place p.stored m d c.requires.draft of at) (below_there c.args.store.now c.args.draft c.args.table c.args.place p.stored c.requires.draft at)

pub with_moved-requires-clause-shape : goal.with_moved-requires-clause-shape
with_moved-requires-clause-shape g c =
    let p = c.index-as_slice-place.result in
    let s = c.args.store.now in
    let at = stored_there c.tables.result.now s.stores c.args.table c.args.place c.index-tables-table.result p c.tables.ensures c.requires.there c.index-tables-table.is (c.index-as_slice-place.is ∙ ap (λ (ps : List Loaded). get_or ps c.args.place p) c.as_slice.ensures) in
    draft_shape_at c.last-last.result c.in-Ok.written.next c.args.table c.args.place s c.args.draft p.stored c.in-Ok.written.entry c.requires.draft at c.in-Ok.ensures.entry

pub returns-in-Ok-with_moved-clause-draft : goal.returns-in-Ok-with_moved-clause-draft
returns-in-Ok-with_moved-clause-draft g c =
    let p = c.index-as_slice-place.result in
    let s = c.args.store.now in
    let w = c.in-Ok.written in
    let at = stored_there c.tables.result.now s.stores c.args.table c.args.place c.index-tables-table.result p c.tables.ensures c.requires.there c.index-tables-table.is (c.index-as_slice-place.is ∙ ap (λ (ps : List Loaded). get_or ps c.args.place p) c.as_slice.ensures) in
    let moved = subst (λ (l : ℕ). IsMovedOut l c.args.draft.root.next w.next p.stored.entry w.entry) c.last-last.ensures c.in-Ok.ensures.entry in
    draft_moved s c.root-root.result.now c.args.draft c.in-Ok-with_moved.draft c.args.table c.args.place w.next p.stored w.entry w.store c.requires.draft c.root-root.ensures.root c.root-root.ensures.valid c.root-root.ensures.entries at moved
    c.in-Ok.ensures.upto c.in-Ok.ensures.count c.in-Ok.ensures.same
    (subst (λ (l : ℕ). c.in-Ok-with_moved.draft.root ≡ with_entry_at l w.next c.args.table c.args.place w.entry c.args.draft.root) c.last-last.ensures c.in-Ok-with_moved.ensures.root) c.in-Ok-with_moved.ensures.valid c.in-Ok-with_moved.ensures.moved

pub returns-in-Ok-with_moved-clause-goes_on : goal.returns-in-Ok-with_moved-clause-goes_on
returns-in-Ok-with_moved-clause-goes_on g c =
    let p = c.index-as_slice-place.result in
    let s = c.args.store.now in
    let w = c.in-Ok.written in
    let at = stored_there c.tables.result.now s.stores c.args.table c.args.place c.index-tables-table.result p c.tables.ensures c.requires.there c.index-tables-table.is (c.index-as_slice-place.is ∙ ap (λ (ps : List Loaded). get_or ps c.args.place p) c.as_slice.ensures) in
    let moved = subst (λ (l : ℕ). IsMovedOut l c.args.draft.root.next w.next p.stored.entry w.entry) c.last-last.ensures c.in-Ok.ensures.entry in
    let late = later_is c.last-last.result s.catalogue.last c.entry.result.now p.stored.entry c.is_behind.result true c.last-last.ensures c.entry.ensures.entry c.is_behind.ensures c.if-not-is_behind.false in
    goes_moved c.what_is_read_is_stored.ensures.stored g.D.Disk s c.args.draft c.in-Ok-with_moved.draft c.args.table c.args.place w.next p.stored w.entry w.store c.requires.draft at late (fresh_of s.catalogue.last p.stored.entry late)
    moved c.in-Ok.ensures.rows c.in-Ok.ensures.loaded c.in-Ok.ensures.same c.write_out.ensures.moved
    (subst (λ (l : ℕ). c.in-Ok-with_moved.draft.root ≡ with_entry_at l w.next c.args.table c.args.place w.entry c.args.draft.root) c.last-last.ensures c.in-Ok-with_moved.ensures.root) c.in-Ok-with_moved.ensures.moved

pub returns-in-Err-clause-blamed : goal.returns-in-Err-clause-blamed
returns-in-Err-clause-blamed g c = λ m told.
    let p = c.index-as_slice-place.result in
    let s = c.args.store.now in
    let at = stored_there c.tables.result.now s.stores c.args.table c.args.place c.index-tables-table.result p c.tables.ensures c.requires.there c.index-tables-table.is (c.index-as_slice-place.is ∙ ap (λ (ps : List Loaded). get_or ps c.args.place p) c.as_slice.ensures) in
    drained_blamed s.stores c.args.table c.args.place p.stored m c.in-Err.fault at (c.in-Err.ensures.blamed m told)
