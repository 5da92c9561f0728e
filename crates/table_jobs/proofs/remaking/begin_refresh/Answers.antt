use Rattle.std.proofs.Common.{◌≡◌, ◌≤◌, ◌∙◌, [], length, sym, ap, subst}
use Rattle.catalog_types.specs.declared.catalogue.Catalogue.{Catalogue}
use Rattle.catalog_types.specs.declared.catalogue.Projection.{Projection}
use Rattle.col_disk.proofs.Moving.{moved_none}
use Rattle.table_jobs.specs.Remaking.{IsMadeOver, Remaking}
use Rattle.table_jobs.proofs.BeingMade.{begins_being_made, begins_over}
use Rattle.table_jobs.proofs.Raising.{IsRooted}
use Rattle.table_jobs.proofs.Rooted.{own_narrow}
use Rattle.table_jobs.proofs.There.{IsSource, IsTarget, parts_there, source, stale_bare, target}
use Rattle.table_jobs.proofs.remaking.begin_refresh.Goals as goal

pub bounds-parts-place : goal.bounds-parts-place
bounds-parts-place g c =
    let rooted : IsRooted c.args.store.now c.root-root.result.now = record { catalogue = c.root-root.ensures.root; entries = c.root-root.ensures.entries; valid = c.root-root.ensures.valid } in
    parts_there c.args.store.now c.root-root.result.now c.args.table c.args.place c.tables.result.now c.index-tables-table.result c.as_slice-parts.result.now rooted c.tables.ensures c.requires.stale c.index-tables-table.is c.as_slice-parts.ensures

pub returns-in-None-clause-moved : goal.returns-in-None-clause-moved
returns-in-None-clause-moved g c = moved_none g.D.Disk c.args.disk.now

pub begin_from-requires-clause-bare : goal.begin_from-requires-clause-bare
begin_from-requires-clause-bare g c =
    let rooted : IsRooted c.args.store.now c.root-root.result.now = record { catalogue = c.root-root.ensures.root; entries = c.root-root.ensures.entries; valid = c.root-root.ensures.valid } in
    let p = c.index-parts-place.result.stored in
    let to : IsTarget c.args.store.now c.root-root.result.now c.args.table c.args.place p =
    target c.args.store.now c.root-root.result.now c.args.table c.args.place c.tables.result.now c.index-tables-table.result c.as_slice-parts.result.now c.index-parts-place.result rooted c.tables.ensures c.requires.stale c.index-tables-table.is c.as_slice-parts.ensures c.index-parts-place.is in
    subst (λ (e : Projection). e.containers ≡ []) (sym c.entry-shape.ensures.entry) (stale_bare c.root-root.result.now p.entry to.stale to.valid)

pub begin_from-requires-clause-narrow : goal.begin_from-requires-clause-narrow
begin_from-requires-clause-narrow g c =
    let rooted : IsRooted c.args.store.now c.root-root.result.now = record { catalogue = c.root-root.ensures.root; entries = c.root-root.ensures.entries; valid = c.root-root.ensures.valid } in
    let p = c.index-parts-place.result.stored in
    let to : IsTarget c.args.store.now c.root-root.result.now c.args.table c.args.place p =
    target c.args.store.now c.root-root.result.now c.args.table c.args.place c.tables.result.now c.index-tables-table.result c.as_slice-parts.result.now c.index-parts-place.result rooted c.tables.ensures c.requires.stale c.index-tables-table.is c.as_slice-parts.ensures c.index-parts-place.is in
    subst (λ (e : Projection). length e.columns ≤ 64) (sym c.entry-shape.ensures.entry) (own_narrow c.root-root.result.now p.entry to.valid)

pub returns-in-Ok-clause-begun : goal.returns-in-Ok-clause-begun
returns-in-Ok-clause-begun g c = λ d m stands told.
    let rooted : IsRooted c.args.store.now c.root-root.result.now = record { catalogue = c.root-root.ensures.root; entries = c.root-root.ensures.entries; valid = c.root-root.ensures.valid } in
    let q = c.index-parts-from.result.stored in
    let from : IsSource c.args.store.now c.root-root.result.now c.args.table c.in-Some.from q =
    source c.args.store.now c.root-root.result.now c.args.table c.args.place c.in-Some.from c.tables.result.now c.index-tables-table.result c.as_slice-parts.result.now c.index-parts-from.result rooted c.tables.ensures c.requires.stale c.index-tables-table.is c.as_slice-parts.ensures c.index-parts-from.is c.in-Some.ensures.fresh in
    begins_being_made g.D.Disk c.args.disk.now c.args.store.now c.root-root.result.now c.args.table c.in-Some.from q c.in-Ok.work d m rooted from.there from.fresh c.in-Ok.ensures.source c.in-Ok.ensures.mark
    c.in-Ok.ensures.columns (c.in-Ok.ensures.begun m told) (c.in-Ok.ensures.draft m) stands told

pub returns-in-Ok-clause-over : goal.returns-in-Ok-clause-over
returns-in-Ok-clause-over g c =
    let rooted : IsRooted c.args.store.now c.root-root.result.now = record { catalogue = c.root-root.ensures.root; entries = c.root-root.ensures.entries; valid = c.root-root.ensures.valid } in
    let p = c.index-parts-place.result.stored in
    let to : IsTarget c.args.store.now c.root-root.result.now c.args.table c.args.place p =
    target c.args.store.now c.root-root.result.now c.args.table c.args.place c.tables.result.now c.index-tables-table.result c.as_slice-parts.result.now c.index-parts-place.result rooted c.tables.ensures c.requires.stale c.index-tables-table.is c.as_slice-parts.ensures c.index-parts-place.is in
    let q = c.index-parts-from.result.stored in
    let from : IsSource c.args.store.now c.root-root.result.now c.args.table c.in-Some.from q =
    source c.args.store.now c.root-root.result.now c.args.table c.args.place c.in-Some.from c.tables.result.now c.index-tables-table.result c.as_slice-parts.result.now c.index-parts-from.result rooted c.tables.ensures c.requires.stale c.index-tables-table.is c.as_slice-parts.ensures c.index-parts-from.is c.in-Some.ensures.fresh in
    begins_over c.args.store.now c.root-root.result.now c.args.table c.args.place c.in-Some.from p q c.in-Ok.work rooted to from c.in-Ok.ensures.table c.in-Ok.ensures.place c.in-Ok.ensures.from (c.in-Ok.ensures.shape ∙ c.entry-shape.ensures.entry) c.in-Ok.ensures.source c.in-Ok.ensures.base c.in-Ok.ensures.mark
