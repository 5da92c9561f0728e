use Rattle.std.proofs.Common.{List, sym, ap, ◌∙◌, subst, map, []}
use Rattle.std.specs.List.{All, AllZip}
use Rattle.col_disk.proofs.Moving.{looks_none, looks_join}
use Rattle.container_cut.proofs.Joins.{at_place}
use Rattle.catalog_types.specs.declared.catalogue.Projection.{Projection}
use Rattle.catalog_types.specs.declared.catalogue.Table.{Table}
use Rattle.proj_store.specs.Loaded.{Loaded}
use Rattle.proj_store.specs.Sound.{IsLoadable}
use Rattle.cut_job.specs.Listed.{HasLoadable}
use Rattle.cut_model.specs.Loaded.{IsLoadedEntry, AreLoadedEntries}
use Rattle.table_store.specs.Held.{projections_of}
use Rattle.store_opening.specs.Loading.{entries_of}
use Rattle.store_opening.proofs.Readings.{made_more, zip_more, all_made, zip_all}
use Rattle.store_opening.proofs.Blames.{table_blamed}
use Rattle.store_opening.proofs.loading.load_tables.Goals as goal

pub loop-table-init : goal.loop-table-init
loop-table-init g c = record {
  entries = ap (map entries_of) c.new-out.ensures.items;
  loaded = λ m told. subst (λ (ps : List (List Loaded)). AllZip (AreLoadedEntries m) [] (map projections_of ps)) (sym c.new-out.ensures.items) tt;
  looks = looks_none g.D.Disk c.args.disk.now;
}

pub load_table-requires : goal.load_table-requires
load_table-requires g c =
    subst (All IsLoadable) (sym c.as_slice.ensures) (at_place HasLoadable c.args.tables.now c.loop-table.table-index c.table-item.result c.loop-table-test.true c.table-item.is c.requires)

pub loop-table-preserved : goal.loop-table-preserved
loop-table-preserved g c =
    let ts = c.args.tables.now in
    let i = c.loop-table.table-index in
    let t = c.table-item.result in
    let ps = c.loop-table.out.items in
    let more = c.push.new.self.items in
    let p = c.new.result in
    let inv = c.loop-table.invariant in
    let pushed = c.in-Ok-push.ensures.items in
    record {
      entries = made_more entries_of (λ (x : Table). x.projections) ts i t ps more p c.loop-table-test.true c.table-item.is pushed (ap entries_of c.new.ensures ∙ c.in-Ok.ensures.entries ∙ c.as_slice.ensures) inv.entries;
      loaded = λ m told.
          zip_more (AreLoadedEntries m) projections_of ts i t ps more p c.loop-table-test.true c.table-item.is pushed (inv.loaded m told)
          (subst (λ (qs : List Loaded). AreLoadedEntries m t (projections_of qs)) (sym c.new.ensures)
          (subst (λ (es : List Projection). AllZip (IsLoadedEntry m) es (projections_of c.in-Ok.parts.items)) c.as_slice.ensures (c.in-Ok.ensures.loaded m (inv.looks.contents ∙ told))));
      looks = looks_join g.D.Disk inv.looks c.load_table.ensures.looks;
    }

pub returns-clause-entries : goal.returns-clause-entries
returns-clause-entries g c = all_made entries_of (λ (x : Table). x.projections) c.args.tables.now c.loop-table.table-index c.loop-table.out.items c.loop-table-test.false c.loop-table.invariant.entries

pub returns-clause-loaded : goal.returns-clause-loaded
returns-clause-loaded g c = λ m told. zip_all (AreLoadedEntries m) c.args.tables.now c.loop-table.table-index (map projections_of c.loop-table.out.items) c.loop-table-test.false (c.loop-table.invariant.loaded m told)

pub returns-in-Err-clause-blamed : goal.returns-in-Err-clause-blamed
returns-in-Err-clause-blamed g c =
    table_blamed c.args.tables.now c.loop-table.table-index c.table-item.result c.as_slice.result.now (g.D.Disk.holds c.args.disk.now) (g.D.Disk.holds c.loop-table.disk) c.in-Err.fault c.loop-table-test.true
    c.table-item.is c.as_slice.ensures c.loop-table.invariant.looks.contents c.in-Err.ensures.blamed

pub returns-in-Err-clause-looks : goal.returns-in-Err-clause-looks
returns-in-Err-clause-looks g c = looks_join g.D.Disk c.loop-table.invariant.looks c.load_table.ensures.looks

pub returns-in-Err-push-clause-looks : goal.returns-in-Err-push-clause-looks
returns-in-Err-push-clause-looks g c = looks_join g.D.Disk c.loop-table.invariant.looks c.load_table.ensures.looks
