use Rattle.exec_scan.proofs.Keeping.{none_next, one_found}
use Rattle.exec_scan.proofs.retained.retains.Goals as goal

pub returns-then-branch : goal.returns-then-branch
returns-then-branch c = one_found c.args.mark c.args.store.now.stored c.loop-i.i c.in_ok-container_keeps.field-0 c.if-branch.true c.in_ok-container_keeps.ensures c.loop-i.invariant

pub loop-i-preserved : goal.loop-i-preserved
loop-i-preserved c = none_next c.args.mark c.args.store.now.stored c.loop-i.i c.in_ok-container_keeps.field-0 c.if-branch.false c.in_ok-container_keeps.ensures c.loop-i.invariant
