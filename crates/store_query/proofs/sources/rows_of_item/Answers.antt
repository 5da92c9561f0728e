use Rattle.std.proofs.Common.{◌≡◌, ◌∙◌, ◌∷◌, false, ℕ, List, [], Some, ap, map, length, refl, subst}
use Rattle.std.specs.Prelude.{Option}
use Rattle.common_laws.specs.Maps.{Contents}
use Rattle.exec_scan.specs.Counting.{SpendsUpto}
use Rattle.exec_scan.specs.Scanning.{start}
use Rattle.col_disk.proofs.Moving.{moved_none}
use Rattle.col_value.specs.declared.row.Asked.{Asked}
use Rattle.catalog_types.specs.declared.catalogue.ProjColumn.{ProjColumn}
use Rattle.catalog_types.specs.declared.catalogue.Projection.{Projection}
use Rattle.row_history.specs.History.{visible}
use Rattle.folder_model.specs.Projections.{ordinals}
use Rattle.table_store.proofs.Blames.{stored_blamed}
use Rattle.query_cover.specs.Seen.{placed}
use Rattle.store_query.specs.Feeding.{Passes}
use Rattle.store_query.specs.Lessening.{cleared, deletes_of, HasChanges}
use Rattle.store_query.specs.Placing.{ArePlacesOf}
use Rattle.store_query.specs.Reading.{epoch_of, pending_of}
use Rattle.store_query.proofs.Counted.{reads_none, reads_one}
use Rattle.store_query.proofs.ItemRows.{item_suffices, item_unblamed, AreBounds, AreRows}
use Rattle.store_query.proofs.sources.rows_of_item.Goals as goal

pub returns-in_default-clause-moved : goal.returns-in_default-clause-moved
returns-in_default-clause-moved g c = moved_none g.D.Disk c.args.disk.now

pub returns-in-Err-clause-moved : goal.returns-in-Err-clause-moved
returns-in-Err-clause-moved g c = moved_none g.D.Disk c.args.disk.now

pub returns-in-Err-from_slice-clause-moved : goal.returns-in-Err-from_slice-clause-moved
returns-in-Err-from_slice-clause-moved g c = moved_none g.D.Disk c.args.disk.now

pub returns-in-Err-bounds_for-clause-moved : goal.returns-in-Err-bounds_for-clause-moved
returns-in-Err-bounds_for-clause-moved g c = moved_none g.D.Disk c.args.disk.now

pub returns-in-Err-scan_within-clause-unblamed : goal.returns-in-Err-scan_within-clause-unblamed
returns-in-Err-scan_within-clause-unblamed g c = λ m told d read over.
    item_unblamed m c.args.tables.now c.args.changes.now c.args.at c.args.query.now c.args.item d c.in-Some.store.now.stored c.in-Err-scan_within.fault c.in-Some.ensures read over (c.in-Err-scan_within.ensures.unblamed m told)

pub returns-in-Err-scan_within-clause-blamed : goal.returns-in-Err-scan_within-clause-blamed
returns-in-Err-scan_within-clause-blamed g c =
    let taken = c.in-Some.ensures in
    stored_blamed c.args.tables.now.stores c.args.item.table taken.place taken.stores c.in-Some.store.now.stored (g.D.Disk.holds c.args.disk.now) c.in-Err-scan_within.fault taken.beside taken.stored c.in-Err-scan_within.ensures.blamed

pub returns-in-Ok-with_changes-clause-suffice : goal.returns-in-Ok-with_changes-clause-suffice
returns-in-Ok-with_changes-clause-suffice g c = λ m told d read.
    let s = c.args.tables.now in
    let f = c.args.item in
    let q = c.args.query.now in
    let p = c.in-Some.store.now.stored in
    let places = c.in-Ok.places.items in
    let columns : c.as_slice-columns.result.now ≡ p.entry.columns = c.as_slice-columns.ensures ∙ ap (λ (x : Projection). x.columns) c.entry.ensures.entry in
    let are : ArePlacesOf q f.first f.columns (ordinals p.entry) places = subst (λ (ks : List ProjColumn). ArePlacesOf q f.first f.columns (map (λ k. k.ordinal) ks) places) columns c.in-Ok.ensures.places in
    let copied : c.in-Ok-from_slice.scanned.items ≡ places = c.in-Ok-from_slice.ensures.items ∙ c.as_slice.ensures.value in
    let gone = λ (ps : List (Option ℕ)). map (λ (a : Asked). cleared ps a.row) (deletes_of c.args.at s.catalogue.tables c.args.changes.now f) in
    let within = c.in-Ok-bounds_for.bounds.items in
    let bounds : AreBounds q f.first f.columns within = record { own = c.in-Ok-bounds_for.ensures.own; kept = c.in-Ok-bounds_for.ensures.kept } in
    let rows : AreRows s c.args.changes.now c.args.at f m p c.epoch_of-epoch.result places within c.in-Ok-with_changes.rows.items =
    record {
      scanned = c.in-Ok-scan_within.rows.items;
      found = λ stored stores.
          subst (λ (ps : List (Option ℕ)). Passes within (length ps) (map (placed ps) (visible c.epoch_of-epoch.result stored)) c.in-Ok-scan_within.rows.items) copied (c.in-Ok-scan_within.ensures.passes m told stored stores);
      changed = subst (λ (ps : List (Option ℕ)). HasChanges (gone ps) (pending_of c.args.at s.catalogue.tables c.args.changes.now f) c.in-Ok-scan_within.rows.items c.in-Ok-with_changes.rows.items) c.as_slice-2.ensures.value
          c.in-Ok-with_changes.ensures.changed;
    } in
    item_suffices m s c.args.changes.now c.args.at q f d p c.epoch_of-epoch.result places within c.in-Ok-with_changes.rows.items c.in-Some.ensures read are (c.epoch_of-epoch.ensures ∙ ap (epoch_of c.args.at) c.last.ensures) bounds rows

pub returns-in_default-clause-steps : goal.returns-in_default-clause-steps
returns-in_default-clause-steps g c = λ m told. reads_none m c.args.tables.now c.args.query.now (c.args.item ∷ []) c.args.steps.now c.args.steps.now refl

pub returns-in-Err-clause-steps : goal.returns-in-Err-clause-steps
returns-in-Err-clause-steps g c = λ m told. reads_none m c.args.tables.now c.args.query.now (c.args.item ∷ []) c.args.steps.now c.args.steps.now refl

pub returns-in-Err-from_slice-clause-steps : goal.returns-in-Err-from_slice-clause-steps
returns-in-Err-from_slice-clause-steps g c = λ m told. reads_none m c.args.tables.now c.args.query.now (c.args.item ∷ []) c.args.steps.now c.args.steps.now refl

pub returns-in-Err-bounds_for-clause-steps : goal.returns-in-Err-bounds_for-clause-steps
returns-in-Err-bounds_for-clause-steps g c = λ m told. reads_none m c.args.tables.now c.args.query.now (c.args.item ∷ []) c.args.steps.now c.args.steps.now refl

pub returns-in-Err-scan_within-clause-steps : goal.returns-in-Err-scan_within-clause-steps
returns-in-Err-scan_within-clause-steps g c = λ m told.
    let f = c.args.item in
    let q = c.args.query.now in
    let p = c.in-Some.store.now.stored in
    let places = c.in-Ok.places.items in
    let columns : c.as_slice-columns.result.now ≡ p.entry.columns = c.as_slice-columns.ensures ∙ ap (λ (x : Projection). x.columns) c.entry.ensures.entry in
    let are : ArePlacesOf q f.first f.columns (ordinals p.entry) places = subst (λ (ks : List ProjColumn). ArePlacesOf q f.first f.columns (map (λ k. k.ordinal) ks) places) columns c.in-Ok.ensures.places in
    let copied : c.in-Ok-from_slice.scanned.items ≡ places = c.in-Ok-from_slice.ensures.items ∙ c.as_slice.ensures.value in
    reads_one m c.args.tables.now q f p c.epoch_of-epoch.result places c.in-Ok-bounds_for.bounds.items c.args.steps.now c.scan_within.new.steps c.in-Some.ensures are c.in-Ok-bounds_for.ensures.set
    (subst (λ (ps : List (Option ℕ)). SpendsUpto (Some m) p (start c.epoch_of-epoch.result ps c.in-Ok-bounds_for.bounds.items false) c.args.steps.now c.scan_within.new.steps) copied
    (subst (λ (h : Option Contents). SpendsUpto h p (start c.epoch_of-epoch.result c.in-Ok-from_slice.scanned.items c.in-Ok-bounds_for.bounds.items false) c.args.steps.now c.scan_within.new.steps) told c.scan_within.ensures.steps))

pub returns-in-Ok-with_changes-clause-steps : goal.returns-in-Ok-with_changes-clause-steps
returns-in-Ok-with_changes-clause-steps g c = λ m told.
    let f = c.args.item in
    let q = c.args.query.now in
    let p = c.in-Some.store.now.stored in
    let places = c.in-Ok.places.items in
    let columns : c.as_slice-columns.result.now ≡ p.entry.columns = c.as_slice-columns.ensures ∙ ap (λ (x : Projection). x.columns) c.entry.ensures.entry in
    let are : ArePlacesOf q f.first f.columns (ordinals p.entry) places = subst (λ (ks : List ProjColumn). ArePlacesOf q f.first f.columns (map (λ k. k.ordinal) ks) places) columns c.in-Ok.ensures.places in
    let copied : c.in-Ok-from_slice.scanned.items ≡ places = c.in-Ok-from_slice.ensures.items ∙ c.as_slice.ensures.value in
    reads_one m c.args.tables.now q f p c.epoch_of-epoch.result places c.in-Ok-bounds_for.bounds.items c.args.steps.now c.scan_within.new.steps c.in-Some.ensures are c.in-Ok-bounds_for.ensures.set
    (subst (λ (ps : List (Option ℕ)). SpendsUpto (Some m) p (start c.epoch_of-epoch.result ps c.in-Ok-bounds_for.bounds.items false) c.args.steps.now c.scan_within.new.steps) copied
    (subst (λ (h : Option Contents). SpendsUpto h p (start c.epoch_of-epoch.result c.in-Ok-from_slice.scanned.items c.in-Ok-bounds_for.bounds.items false) c.args.steps.now c.scan_within.new.steps) told c.scan_within.ensures.steps))

pub returns-clause-steps : goal.returns-clause-steps
returns-clause-steps g c = λ m told.
    let f = c.args.item in
    let q = c.args.query.now in
    let p = c.in-Some.store.now.stored in
    let places = c.in-Ok.places.items in
    let columns : c.as_slice-columns.result.now ≡ p.entry.columns = c.as_slice-columns.ensures ∙ ap (λ (x : Projection). x.columns) c.entry.ensures.entry in
    let are : ArePlacesOf q f.first f.columns (ordinals p.entry) places = subst (λ (ks : List ProjColumn). ArePlacesOf q f.first f.columns (map (λ k. k.ordinal) ks) places) columns c.in-Ok.ensures.places in
    let copied : c.in-Ok-from_slice.scanned.items ≡ places = c.in-Ok-from_slice.ensures.items ∙ c.as_slice.ensures.value in
    reads_one m c.args.tables.now q f p c.epoch_of-epoch.result places c.in-Ok-bounds_for.bounds.items c.args.steps.now c.scan_within.new.steps c.in-Some.ensures are c.in-Ok-bounds_for.ensures.set
    (subst (λ (ps : List (Option ℕ)). SpendsUpto (Some m) p (start c.epoch_of-epoch.result ps c.in-Ok-bounds_for.bounds.items false) c.args.steps.now c.scan_within.new.steps) copied
    (subst (λ (h : Option Contents). SpendsUpto h p (start c.epoch_of-epoch.result c.in-Ok-from_slice.scanned.items c.in-Ok-bounds_for.bounds.items false) c.args.steps.now c.scan_within.new.steps) told c.scan_within.ensures.steps))
