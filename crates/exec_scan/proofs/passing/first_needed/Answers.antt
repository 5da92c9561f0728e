use Rattle.std.proofs.Common.{IsTrue, rules}
use Rattle.exec_scan.proofs.Passed.{passed_next}
use Rattle.exec_scan.proofs.passing.first_needed.Goals as goal

pub loop-block-preserved : goal.loop-block-preserved
loop-block-preserved c =
    let hit : IsTrue c.is_passed.result = search rules in
    passed_next c.args.bounds.now c.args.indexes.now c.args.first c.loop-block.block c.loop-block.invariant (c.is_passed.ensures.passed hit)
