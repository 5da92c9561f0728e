use Rattle.std.proofs.Common.{rules, List, ◌≤◌, ◌+◌, sym, subst}
use Rattle.std.specs.Prelude.{sum_by}
use Rattle.std.specs.List.{All}
use Rattle.catalog_types.specs.Numbers.{number_count}
use Rattle.catalog_types.specs.declared.catalogue.Projection.{Projection}
use Rattle.proj_store.specs.Sound.{IsLoadable}
use Rattle.container_cut.specs.Listed.{IsListedBelow}
use Rattle.cut_job.specs.Blamed.{BlamesProjections}
use Rattle.cut_job.proofs.Entries.{table_cut, table_listed, table_loads}
use Rattle.cut_job.proofs.catalogues.cut_table.Goals as goal

pub returns-in-Ok-with_projections-clause-cut : goal.returns-in-Ok-with_projections-clause-cut
returns-in-Ok-with_projections-clause-cut g c = table_cut c.args.epoch c.args.t.now c.in-Ok-with_projections.table c.as_slice.result.now c.in-Ok.done.entries.items _ _ c.as_slice.ensures (search rules) c.in-Ok.ensures.cut

pub returns-in-Ok-with_projections-clause-below : goal.returns-in-Ok-with_projections-clause-below
returns-in-Ok-with_projections-clause-below g c = table_listed c.in-Ok.done.next c.args.t.now c.in-Ok-with_projections.table c.in-Ok.done.entries.items (search rules) c.in-Ok.ensures.below

pub returns-in-Ok-with_projections-clause-loadable : goal.returns-in-Ok-with_projections-clause-loadable
returns-in-Ok-with_projections-clause-loadable g c = table_loads c.args.t.now c.in-Ok-with_projections.table c.in-Ok.done.entries.items (search rules) c.in-Ok.ensures.loadable

pub returns-in-Err-clause-blamed : goal.returns-in-Err-clause-blamed
returns-in-Err-clause-blamed g c =
    subst (λ (ps : List Projection). BlamesProjections ps (g.D.Disk.holds c.args.disk.now) c.in-Err.fault) c.as_slice.ensures c.in-Err.ensures.blamed

pub returns-in-Ok-with_projections-clause-few : goal.returns-in-Ok-with_projections-clause-few
returns-in-Ok-with_projections-clause-few g c =
    subst (λ (ps : List Projection). c.in-Ok.done.next ≤ c.args.next + sum_by number_count ps) c.as_slice.ensures c.in-Ok.ensures.few

pub cut_projections-requires-clause-below : goal.cut_projections-requires-clause-below
cut_projections-requires-clause-below g c = subst (All (IsListedBelow c.args.next)) (sym c.as_slice.ensures) c.requires.below

pub cut_projections-requires-clause-loadable : goal.cut_projections-requires-clause-loadable
cut_projections-requires-clause-loadable g c = subst (All IsLoadable) (sym c.as_slice.ensures) c.requires.loadable
