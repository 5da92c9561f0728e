use Rattle.container_cut.proofs.Joins.{item, item_is}
use Rattle.store_opening.specs.Missing.{HasFilesOf}
use Rattle.store_opening.proofs.Absent.{all_more, all_seen}
use Rattle.store_opening.proofs.missing.missing_in.Goals as goal

pub loop-container-preserved : goal.loop-container-preserved
loop-container-preserved c =
    let ks = c.args.containers.now in
    let i = c.loop-container.container-index in
    all_more (HasFilesOf c.args.names.now) ks i (item ks i) c.loop-container-test.true (item_is ks i c.loop-container-test.true) c.loop-container.invariant c.in-None.ensures.none

pub returns-clause-none : goal.returns-clause-none
returns-clause-none c = all_seen (HasFilesOf c.args.names.now) c.args.containers.now c.loop-container.container-index c.loop-container-test.false c.loop-container.invariant
