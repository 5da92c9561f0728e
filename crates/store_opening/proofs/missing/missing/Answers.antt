use Rattle.std.proofs.Common.{List, subst}
use Rattle.std.specs.List.{All}
use Rattle.catalog_types.specs.declared.catalogue.Projection.{Projection}
use Rattle.store_opening.specs.Missing.{HasFilesIn, HasFilesAmong}
use Rattle.store_opening.proofs.Absent.{all_more, all_seen}
use Rattle.store_opening.proofs.missing.missing.Goals as goal

pub loop-table-preserved : goal.loop-table-preserved
loop-table-preserved c =
    all_more (HasFilesAmong c.args.names.now) c.args.tables.now c.loop-table.table-index c.table-item.result c.loop-table-test.true c.table-item.is c.loop-table.invariant
    (subst (λ (xs : List Projection). All (HasFilesIn c.args.names.now) xs) c.as_slice.ensures c.in-None.ensures.none)

pub returns-clause-none : goal.returns-clause-none
returns-clause-none c = all_seen (HasFilesAmong c.args.names.now) c.args.tables.now c.loop-table.table-index c.loop-table-test.false c.loop-table.invariant
