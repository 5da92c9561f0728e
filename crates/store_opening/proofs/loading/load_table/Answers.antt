use Rattle.std.proofs.Common.{List, sym, ap, ◌∙◌, subst, []}
use Rattle.std.specs.List.{AllZip}
use Rattle.col_disk.proofs.Moving.{looks_none, looks_join}
use Rattle.container_cut.proofs.Joins.{at_place}
use Rattle.proj_store.specs.Loaded.{Loaded}
use Rattle.proj_store.specs.Sound.{IsLoadable}
use Rattle.cut_model.specs.Loaded.{IsLoadedEntry}
use Rattle.table_store.specs.Held.{projections_of}
use Rattle.store_opening.specs.Loading.{entries_of}
use Rattle.store_opening.proofs.Readings.{same_more, zip_more, loaded_entry, all_front, zip_all}
use Rattle.store_opening.proofs.Blames.{entry_blamed}
use Rattle.store_opening.proofs.loading.load_table.Goals as goal

pub loop-entry-init : goal.loop-entry-init
loop-entry-init g c = record {
  entries = ap entries_of c.new-out.ensures.items;
  loaded = λ m told. subst (λ (ps : List Loaded). AllZip (IsLoadedEntry m) [] (projections_of ps)) (sym c.new-out.ensures.items) tt;
  looks = looks_none g.D.Disk c.args.disk.now;
}

pub load_one-requires : goal.load_one-requires
load_one-requires g c = at_place IsLoadable c.args.entries.now c.loop-entry.entry-index c.entry-item.result c.loop-entry-test.true c.entry-item.is c.requires

pub loop-entry-preserved : goal.loop-entry-preserved
loop-entry-preserved g c =
    let es = c.args.entries.now in
    let i = c.loop-entry.entry-index in
    let e = c.entry-item.result in
    let ps = c.loop-entry.out.items in
    let more = c.push.new.self.items in
    let p = c.in-Ok.one in
    let inv = c.loop-entry.invariant in
    let pushed = c.in-Ok-push.ensures.items in
    record {
      entries = same_more (λ (x : Loaded). x.stored.entry) es i e ps more p c.loop-entry-test.true c.entry-item.is pushed c.in-Ok.ensures.entry inv.entries;
      loaded = λ m told.
          zip_more (IsLoadedEntry m) (λ (x : Loaded). x.stored) es i e ps more p c.loop-entry-test.true c.entry-item.is pushed (inv.loaded m told)
          (loaded_entry m e p.stored c.in-Ok.ensures.entry (c.in-Ok.ensures.loaded m (inv.looks.contents ∙ told)));
      looks = looks_join g.D.Disk inv.looks c.load_one.ensures.looks;
    }

pub returns-clause-entries : goal.returns-clause-entries
returns-clause-entries g c = all_front (λ (x : Loaded). x.stored.entry) c.args.entries.now c.loop-entry.entry-index c.loop-entry.out.items c.loop-entry-test.false c.loop-entry.invariant.entries

pub returns-clause-loaded : goal.returns-clause-loaded
returns-clause-loaded g c = λ m told. zip_all (IsLoadedEntry m) c.args.entries.now c.loop-entry.entry-index (projections_of c.loop-entry.out.items) c.loop-entry-test.false (c.loop-entry.invariant.loaded m told)

pub returns-in-Err-clause-blamed : goal.returns-in-Err-clause-blamed
returns-in-Err-clause-blamed g c =
    entry_blamed c.args.entries.now c.loop-entry.entry-index c.entry-item.result (g.D.Disk.holds c.args.disk.now) (g.D.Disk.holds c.loop-entry.disk) c.in-Err.fault c.loop-entry-test.true c.entry-item.is
    c.loop-entry.invariant.looks.contents c.in-Err.ensures.blamed

pub returns-in-Err-clause-looks : goal.returns-in-Err-clause-looks
returns-in-Err-clause-looks g c = looks_join g.D.Disk c.loop-entry.invariant.looks c.load_one.ensures.looks

pub returns-in-Err-push-clause-looks : goal.returns-in-Err-push-clause-looks
returns-in-Err-push-clause-looks g c = looks_join g.D.Disk c.loop-entry.invariant.looks c.load_one.ensures.looks
