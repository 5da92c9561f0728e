use Rattle.std.proofs.Common.{◌≡◌, ℕ, ◌+◌, ◌*◌, List, length, sym, ◌∙◌, ap, subst, arith}
use Rattle.std.specs.Prelude.{Some}
use Rattle.catalog_types.specs.declared.catalogue.Projection.{Projection}
use Rattle.col_disk.specs.declared.disk.StoreFault.{StoreFault}
use Rattle.col_disk.specs.Moved.{Moved, NoName}
use Rattle.col_disk.proofs.Moving.{moved_none, moved_still}
use Rattle.container_writer.specs.Writing.{DataFrom}
use Rattle.folder_model.specs.Projections.{ordinals}
use Rattle.table_store.specs.Faults.{BlamesEntry}
use Rattle.table_store.proofs.Unblamed.{part_unblamed}
use Rattle.table_jobs.specs.Sources.{ordinals_of, ArePlaces}
use Rattle.table_jobs.proofs.Made.{IsOn, begun_moved, is_made, made_moved}
use Rattle.table_jobs.proofs.Named.{disk_named, rows_named}
use Rattle.table_jobs.proofs.refreshing.refresh_from.Goals as goal

pub returns-then-next-ge-MOST_NUMBERS-clause-moved : goal.returns-then-next-ge-MOST_NUMBERS-clause-moved
returns-then-next-ge-MOST_NUMBERS-clause-moved g c = moved_none g.D.Disk c.args.disk.now

pub returns-in-Err-clause-moved : goal.returns-in-Err-clause-moved
returns-in-Err-clause-moved g c = moved_none g.D.Disk c.args.disk.now

pub returns-in-Err-begin-clause-unblamed : goal.returns-in-Err-begin-clause-unblamed
returns-in-Err-begin-clause-unblamed g c = λ m told below readable.
    part_unblamed m (g.D.Disk.holds c.args.disk.now) c.args.source.now.stored c.in-Err-begin.fault told c.requires.fresh readable c.in-Err-begin.ensures.blamed

pub returns-in-Err-begin-clause-moved : goal.returns-in-Err-begin-clause-moved
returns-in-Err-begin-clause-moved g c = moved_still g.D.Disk c.begin.ensures.moved

pub returns-in-Err-write_columns-clause-moved : goal.returns-in-Err-write_columns-clause-moved
returns-in-Err-write_columns-clause-moved g c =
    begun_moved g.D.Disk c.in-Ok-begin.job.draft.base c.args.next c.in-Ok-begin.ensures.base c.begin.ensures.moved c.write_columns.ensures.moved

pub returns-in-Ok-install-clause-made : goal.returns-in-Ok-install-clause-made
returns-in-Ok-install-clause-made g c =
    let entry = c.in-Ok-install.refreshed.entry in
    let via = c.in-Ok.via.items in
    let moved : Moved g.D.Disk (DataFrom c.args.next) NoName c.begin.new.disk c.write_columns.new.disk =
    subst (λ (n : ℕ). Moved g.D.Disk (DataFrom n) NoName c.begin.new.disk c.write_columns.new.disk) c.in-Ok-begin.ensures.base c.write_columns.ensures.moved in
    let on : IsOn c.in-Ok-begin.job c.write_columns.new.job =
    record { mark = c.write_columns.ensures.mark; via = c.write_columns.ensures.via; rows = c.write_columns.ensures.rows; places = c.write_columns.ensures.places } in
    let from : ordinals_of c.as_slice.result.now ≡ ordinals c.args.source.now.stored.entry = ap ordinals_of (c.as_slice.ensures ∙ ap (λ (e : Projection). e.columns) c.entry.ensures.entry) in
    let new : ordinals_of c.as_slice-columns.result.now ≡ ordinals entry = ap ordinals_of c.as_slice-columns.ensures ∙ sym (ap ordinals c.in-Ok-install.ensures.entry.is) in
    let are : ArePlaces (ordinals c.args.source.now.stored.entry) via (ordinals entry) =
    subst (λ (xs : List ℕ). ArePlaces xs via (ordinals entry)) from (subst (λ (xs : List ℕ). ArePlaces (ordinals_of c.as_slice.result.now) via xs) new c.in-Ok.ensures) in
    is_made g.D.Disk c.args.mark c.args.next via c.args.source.now.stored c.args.shape.now entry c.in-Ok-begin.job c.write_columns.new.job c.begin.ensures.kept c.in-Ok-begin.ensures.begun c.in-Ok-begin.ensures.draft moved
    c.in-Ok-write_columns.ensures.draft on (λ m n told left vectors still draft. c.in-Ok-install.ensures.refreshes m n told left vectors still draft c.in-Ok-write_columns.ensures.done) c.in-Ok-begin.ensures.mark c.in-Ok-begin.ensures.via are

pub returns-in-Ok-install-clause-moved : goal.returns-in-Ok-install-clause-moved
returns-in-Ok-install-clause-moved g c =
    made_moved g.D.Disk c.args.next (c.args.next + 2 * (length c.as_slice-columns.result.now + 1)) (omega arith)
    (begun_moved g.D.Disk c.in-Ok-begin.job.draft.base c.args.next c.in-Ok-begin.ensures.base c.begin.ensures.moved c.write_columns.ensures.moved) c.install.ensures.moved

pub returns-clause-moved : goal.returns-clause-moved
returns-clause-moved g c =
    made_moved g.D.Disk c.args.next (c.args.next + 2 * (length c.as_slice-columns.result.now + 1)) (omega arith)
    (begun_moved g.D.Disk c.in-Ok-begin.job.draft.base c.args.next c.in-Ok-begin.ensures.base c.begin.ensures.moved c.write_columns.ensures.moved) c.install.ensures.moved

pub returns-in-Err-begin-clause-named : goal.returns-in-Err-begin-clause-named
returns-in-Err-begin-clause-named g c = λ m told below.
    rows_named g.D.Disk c.args.source.now.stored.entry c.args.next c.in-Err-begin.fault below (moved_still g.D.Disk c.begin.ensures.moved) c.in-Err-begin.ensures.blamed m told

pub returns-in-Err-write_columns-clause-named : goal.returns-in-Err-write_columns-clause-named
returns-in-Err-write_columns-clause-named g c = λ m told below.
    let p = c.args.source.now.stored.entry in
    subst (λ (f : StoreFault). BlamesEntry p (Some m) f) (sym c.from.ensures) (disk_named p (Some m) c.in-Err-write_columns.fault)

pub returns-clause-named : goal.returns-clause-named
returns-clause-named g c = λ m told below.
    let p = c.args.source.now.stored.entry in
    subst (λ (f : StoreFault). BlamesEntry p (Some m) f) (sym c.from-in-Err-install.ensures) (disk_named p (Some m) c.in-Err-install.fault)
