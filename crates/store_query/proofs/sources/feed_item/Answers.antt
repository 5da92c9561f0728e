use Rattle.std.proofs.Common.{◌≡◌, ◌∙◌, ◌∷◌, false, ℕ, List, [], ap, map, refl, subst}
use Rattle.std.specs.Prelude.{Option}
use Rattle.common_laws.specs.Maps.{Contents}
use Rattle.exec_scan.specs.Counting.{SpendsUpto}
use Rattle.exec_scan.specs.Scanning.{start}
use Rattle.col_disk.proofs.Moving.{moved_none}
use Rattle.col_value.specs.declared.row.Asked.{Asked}
use Rattle.col_value.specs.declared.value.Value.{Value}
use Rattle.catalog_types.specs.declared.catalogue.ProjColumn.{ProjColumn}
use Rattle.catalog_types.specs.declared.catalogue.Projection.{Projection}
use Rattle.folder_model.specs.Projections.{ordinals}
use Rattle.table_store.proofs.Blames.{stored_blamed}
use Rattle.wanted_rows.specs.Wanted.{need_in, tally}
use Rattle.store_query.specs.Feeding.{TakesRows}
use Rattle.store_query.specs.Lessening.{asked, cleared, deletes_of}
use Rattle.store_query.specs.Placing.{ArePlacesOf}
use Rattle.store_query.specs.Reading.{epoch_of}
use Rattle.store_query.proofs.Counted.{reads_none, reads_one}
use Rattle.store_query.proofs.ItemRows.{item_taken, item_unblamed, AreBounds}
use Rattle.store_query.proofs.sources.feed_item.Goals as goal

pub returns-in_default-clause-moved : goal.returns-in_default-clause-moved
returns-in_default-clause-moved g c = moved_none g.D.Disk c.args.disk.now

pub returns-in-Err-clause-moved : goal.returns-in-Err-clause-moved
returns-in-Err-clause-moved g c = moved_none g.D.Disk c.args.disk.now

pub returns-in-Err-wants_of-clause-moved : goal.returns-in-Err-wants_of-clause-moved
returns-in-Err-wants_of-clause-moved g c = moved_none g.D.Disk c.args.disk.now

pub returns-in-Err-bounds_for-clause-moved : goal.returns-in-Err-bounds_for-clause-moved
returns-in-Err-bounds_for-clause-moved g c = moved_none g.D.Disk c.args.disk.now

pub returns-in-Err-feed_scan-clause-unblamed : goal.returns-in-Err-feed_scan-clause-unblamed
returns-in-Err-feed_scan-clause-unblamed g c = λ m told d read over.
    item_unblamed m c.args.tables.now c.args.changes.now c.args.at c.args.query.now c.args.item d c.in-Some.store.now.stored c.in-Err-feed_scan.fault c.in-Some.ensures read over (c.in-Err-feed_scan.ensures.unblamed m told)

pub returns-in-Err-feed_scan-clause-blamed : goal.returns-in-Err-feed_scan-clause-blamed
returns-in-Err-feed_scan-clause-blamed g c =
    let taken = c.in-Some.ensures in
    stored_blamed c.args.tables.now.stores c.args.item.table taken.place taken.stores c.in-Some.store.now.stored (g.D.Disk.holds c.args.disk.now) c.in-Err-feed_scan.fault taken.beside taken.stored c.in-Err-feed_scan.ensures.blamed

pub returns-in-Ok-feed_rows-clause-taken : goal.returns-in-Ok-feed_rows-clause-taken
returns-in-Ok-feed_rows-clause-taken g c = λ m told d read over.
    let s = c.args.tables.now in
    let f = c.args.item in
    let q = c.args.query.now in
    let p = c.in-Some.store.now.stored in
    let places = c.in-Ok.places.items in
    let columns : c.as_slice-columns.result.now ≡ p.entry.columns = c.as_slice-columns.ensures ∙ ap (λ (x : Projection). x.columns) c.entry.ensures.entry in
    let are : ArePlacesOf q f.first f.columns (ordinals p.entry) places = subst (λ (ks : List ProjColumn). ArePlacesOf q f.first f.columns (map (λ k. k.ordinal) ks) places) columns c.in-Ok.ensures.places in
    let first : (a : Asked) → need_in c.in-Ok-wants_of.wants a ≡ tally a (map (λ x. asked (cleared places x.row)) c.deletes_of-deletes.result.now) =
    subst (λ (ps : List (Option ℕ)). (a : Asked) → need_in c.in-Ok-wants_of.wants a ≡ tally a (map (λ x. asked (cleared ps x.row)) c.deletes_of-deletes.result.now)) c.as_slice.ensures.value c.in-Ok-wants_of.ensures in
    let bounds : AreBounds q f.first f.columns c.in-Ok-bounds_for.bounds.items = record { own = c.in-Ok-bounds_for.ensures.own; kept = c.in-Ok-bounds_for.ensures.kept } in
    item_taken m s c.args.changes.now c.args.at q f d p c.epoch_of-epoch.result places c.in-Ok-bounds_for.bounds.items (need_in c.in-Ok-wants_of.wants) c.args.run.now c.feed_scan.new.run c.feed_rows.new.run c.in-Some.ensures are
    (c.epoch_of-epoch.ensures ∙ ap (epoch_of c.args.at) c.last.ensures)
    (λ a. first a ∙ ap (λ (ds : List Asked). tally a (map (λ x. asked (cleared places x.row)) ds)) c.deletes_of-deletes.ensures)
    bounds
    (c.in-Ok-feed_scan.ensures.fed m told)
    (subst (λ (rows : List (List Value)). TakesRows q rows c.feed_scan.new.run c.feed_rows.new.run) c.pending_of.ensures.rows c.in-Ok-feed_rows.ensures.rows) read over

pub returns-in_default-clause-steps : goal.returns-in_default-clause-steps
returns-in_default-clause-steps g c = λ m told. reads_none m c.args.tables.now c.args.query.now (c.args.item ∷ []) c.args.steps.now c.args.steps.now refl

pub returns-in-Err-clause-steps : goal.returns-in-Err-clause-steps
returns-in-Err-clause-steps g c = λ m told. reads_none m c.args.tables.now c.args.query.now (c.args.item ∷ []) c.args.steps.now c.args.steps.now refl

pub returns-in-Err-wants_of-clause-steps : goal.returns-in-Err-wants_of-clause-steps
returns-in-Err-wants_of-clause-steps g c = λ m told. reads_none m c.args.tables.now c.args.query.now (c.args.item ∷ []) c.args.steps.now c.args.steps.now refl

pub returns-in-Err-bounds_for-clause-steps : goal.returns-in-Err-bounds_for-clause-steps
returns-in-Err-bounds_for-clause-steps g c = λ m told. reads_none m c.args.tables.now c.args.query.now (c.args.item ∷ []) c.args.steps.now c.args.steps.now refl

pub returns-in-Err-feed_scan-clause-steps : goal.returns-in-Err-feed_scan-clause-steps
returns-in-Err-feed_scan-clause-steps g c = λ m told.
    let f = c.args.item in
    let q = c.args.query.now in
    let p = c.in-Some.store.now.stored in
    let places = c.in-Ok.places.items in
    let columns : c.as_slice-columns.result.now ≡ p.entry.columns = c.as_slice-columns.ensures ∙ ap (λ (x : Projection). x.columns) c.entry.ensures.entry in
    let are : ArePlacesOf q f.first f.columns (ordinals p.entry) places = subst (λ (ks : List ProjColumn). ArePlacesOf q f.first f.columns (map (λ k. k.ordinal) ks) places) columns c.in-Ok.ensures.places in
    reads_one m c.args.tables.now q f p c.epoch_of-epoch.result places c.in-Ok-bounds_for.bounds.items c.args.steps.now c.feed_scan.new.steps c.in-Some.ensures are c.in-Ok-bounds_for.ensures.set
    (subst (λ (h : Option Contents). SpendsUpto h p (start c.epoch_of-epoch.result places c.in-Ok-bounds_for.bounds.items false) c.args.steps.now c.feed_scan.new.steps) told c.feed_scan.ensures.steps)

pub returns-in-Ok-feed_rows-clause-steps : goal.returns-in-Ok-feed_rows-clause-steps
returns-in-Ok-feed_rows-clause-steps g c = λ m told.
    let f = c.args.item in
    let q = c.args.query.now in
    let p = c.in-Some.store.now.stored in
    let places = c.in-Ok.places.items in
    let columns : c.as_slice-columns.result.now ≡ p.entry.columns = c.as_slice-columns.ensures ∙ ap (λ (x : Projection). x.columns) c.entry.ensures.entry in
    let are : ArePlacesOf q f.first f.columns (ordinals p.entry) places = subst (λ (ks : List ProjColumn). ArePlacesOf q f.first f.columns (map (λ k. k.ordinal) ks) places) columns c.in-Ok.ensures.places in
    reads_one m c.args.tables.now q f p c.epoch_of-epoch.result places c.in-Ok-bounds_for.bounds.items c.args.steps.now c.feed_scan.new.steps c.in-Some.ensures are c.in-Ok-bounds_for.ensures.set
    (subst (λ (h : Option Contents). SpendsUpto h p (start c.epoch_of-epoch.result places c.in-Ok-bounds_for.bounds.items false) c.args.steps.now c.feed_scan.new.steps) told c.feed_scan.ensures.steps)

pub returns-in-Err-feed_rows-clause-steps : goal.returns-in-Err-feed_rows-clause-steps
returns-in-Err-feed_rows-clause-steps g c = λ m told.
    let f = c.args.item in
    let q = c.args.query.now in
    let p = c.in-Some.store.now.stored in
    let places = c.in-Ok.places.items in
    let columns : c.as_slice-columns.result.now ≡ p.entry.columns = c.as_slice-columns.ensures ∙ ap (λ (x : Projection). x.columns) c.entry.ensures.entry in
    let are : ArePlacesOf q f.first f.columns (ordinals p.entry) places = subst (λ (ks : List ProjColumn). ArePlacesOf q f.first f.columns (map (λ k. k.ordinal) ks) places) columns c.in-Ok.ensures.places in
    reads_one m c.args.tables.now q f p c.epoch_of-epoch.result places c.in-Ok-bounds_for.bounds.items c.args.steps.now c.feed_scan.new.steps c.in-Some.ensures are c.in-Ok-bounds_for.ensures.set
    (subst (λ (h : Option Contents). SpendsUpto h p (start c.epoch_of-epoch.result places c.in-Ok-bounds_for.bounds.items false) c.args.steps.now c.feed_scan.new.steps) told c.feed_scan.ensures.steps)
