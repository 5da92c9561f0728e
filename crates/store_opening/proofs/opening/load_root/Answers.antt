use Rattle.std.proofs.Common.{List, map, sym, subst, ◌∙◌, inl}
use Rattle.std.specs.List.{All, AllZip}
use Rattle.std.proofs.lemmas.Result.{IfOk-weaker}
use Rattle.col_disk.proofs.Moving.{looks_join}
use Rattle.catalog_types.specs.declared.catalogue.Table.{Table}
use Rattle.cut_job.specs.Listed.{HasLoadable}
use Rattle.cut_job.proofs.Entries.{valid_loadable}
use Rattle.cut_model.specs.Loaded.{AreLoadedEntries}
use Rattle.table_store.specs.Held.{projections_of}
use Rattle.store_opening.proofs.Blames.{blamed_wider}
use Rattle.store_opening.proofs.Readings.{entries_are}
use Rattle.store_opening.proofs.There.{all_there}
use Rattle.store_opening.proofs.opening.load_root.Goals as goal

pub load_tables-requires : goal.load_tables-requires
load_tables-requires g c = subst (All HasLoadable) (sym c.as_slice.ensures) (valid_loadable c.args.root.now c.requires)

pub returns-clause-entries : goal.returns-clause-entries
returns-clause-entries g c = IfOk-weaker c.load_tables.result _ _ (λ v is. entries_are c.args.root.now c.as_slice.result.now v.items c.as_slice.ensures is) c.load_tables.ensures.entries

pub returns-clause-there : goal.returns-clause-there
returns-clause-there g c =
    IfOk-weaker c.load_tables.result _ _
    (λ v loaded m told.
    all_there m c.args.root.now (map projections_of v.items) (c.in-Ok.ensures.there m told)
    (subst (λ (ts : List Table). AllZip (AreLoadedEntries m) ts (map projections_of v.items)) c.as_slice.ensures (loaded m (c.look_for_files.ensures.looks.contents ∙ told))))
    c.load_tables.ensures.loaded

pub returns-clause-looks : goal.returns-clause-looks
returns-clause-looks g c = looks_join g.D.Disk c.look_for_files.ensures.looks c.load_tables.ensures.looks

pub returns-in-Err-clause-blamed : goal.returns-in-Err-clause-blamed
returns-in-Err-clause-blamed g c = blamed_wider _ _ c.in-Err.fault (λ q absent. inl absent) c.in-Err.ensures.blamed
