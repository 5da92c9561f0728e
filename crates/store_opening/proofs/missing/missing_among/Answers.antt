use Rattle.std.proofs.Common.{List, subst}
use Rattle.std.specs.List.{All}
use Rattle.catalog_types.specs.declared.catalogue.Container.{Container}
use Rattle.store_opening.specs.Missing.{HasFilesOf, HasFilesIn}
use Rattle.store_opening.proofs.Absent.{all_more, all_seen}
use Rattle.store_opening.proofs.missing.missing_among.Goals as goal

pub loop-projection-preserved : goal.loop-projection-preserved
loop-projection-preserved c =
    all_more (HasFilesIn c.args.names.now) c.args.projections.now c.loop-projection.projection-index c.projection-item.result c.loop-projection-test.true c.projection-item.is c.loop-projection.invariant
    (subst (λ (xs : List Container). All (HasFilesOf c.args.names.now) xs) c.as_slice.ensures c.in-None.ensures.none)

pub returns-clause-none : goal.returns-clause-none
returns-clause-none c = all_seen (HasFilesIn c.args.names.now) c.args.projections.now c.loop-projection.projection-index c.loop-projection-test.false c.loop-projection.invariant
