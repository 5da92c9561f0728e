use Rattle.std.proofs.Common.{arith}
use Rattle.catalog_laws.proofs.Apart.{one_more}
use Rattle.catalog_laws.proofs.runs.are_apart.Goals as goal

pub loop-run-preserved : goal.loop-run-preserved
loop-run-preserved c = one_more c.args.runs.now c.loop-run.run-index c.loop-run.low c.max-low.result c.loop-run-test.true (omega arith) (omega arith) (omega arith) c.loop-run.invariant.0 c.loop-run.invariant.1
