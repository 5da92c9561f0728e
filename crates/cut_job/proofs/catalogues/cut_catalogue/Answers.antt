use Rattle.std.proofs.Common.{refl, rules, List, ◌≤◌, ◌+◌, sym, subst}
use Rattle.std.specs.Prelude.{sum_by}
use Rattle.std.specs.List.{All}
use Rattle.catalog_types.specs.declared.catalogue.Table.{Table}
use Rattle.cut_job.specs.Listed.{IsTableBelow, HasLoadable, table_count}
use Rattle.cut_job.specs.Blamed.{BlamesInTables}
use Rattle.cut_job.proofs.Entries.{catalogue_cut, valid_below, valid_loadable}
use Rattle.cut_job.proofs.catalogues.cut_catalogue.Goals as goal

pub cut_tables-requires-clause-below : goal.cut_tables-requires-clause-below
cut_tables-requires-clause-below g c = subst (All (IsTableBelow c.args.c.now.next)) (sym c.as_slice.ensures) (valid_below c.args.c.now c.requires)

pub cut_tables-requires-clause-loadable : goal.cut_tables-requires-clause-loadable
cut_tables-requires-clause-loadable g c = subst (All HasLoadable) (sym c.as_slice.ensures) (valid_loadable c.args.c.now c.requires)

pub returns-in-Ok-clause-cut : goal.returns-in-Ok-clause-cut
returns-in-Ok-clause-cut g c = catalogue_cut c.args.c.now _ c.as_slice.result.now c.in-Ok.done.tables.items c.least_lge-last.result _ _ c.as_slice.ensures c.least_lge-last.ensures refl refl (search rules) c.in-Ok.ensures.cut

pub returns-in-Ok-clause-few : goal.returns-in-Ok-clause-few
returns-in-Ok-clause-few g c = subst (λ (ts : List Table). c.in-Ok.done.next ≤ c.args.c.now.next + sum_by table_count ts) c.as_slice.ensures c.in-Ok.ensures.few

pub returns-in-Err-clause-blamed : goal.returns-in-Err-clause-blamed
returns-in-Err-clause-blamed g c = subst (λ (ts : List Table). BlamesInTables ts (g.D.Disk.holds c.args.disk.now) c.in-Err.fault) c.as_slice.ensures c.in-Err.ensures.blamed

pub returns-in-Ok-clause-loadable : goal.returns-in-Ok-clause-loadable
returns-in-Ok-clause-loadable g c = subst (All HasLoadable) (sym c.new.ensures) c.in-Ok.ensures.loadable
