use Rattle.std.proofs.Common.{arith}
use Rattle.store_core.proofs.Dropping.{dropped_next, dropped_eight}
use Rattle.store_core.proofs.store.moving.drop_eight.Goals as goal

pub loop-session-preserved : goal.loop-session-preserved
loop-session-preserved c = record {
  first = omega arith;
  last = omega (arith, c.loop-session-test.true);
  dropped = dropped_next c.loop-session.session c.args.txns.now c.loop-session.txns c.take.new.self c.loop-session.invariant.first c.loop-session.invariant.dropped c.take.ensures.left;
}

pub returns : goal.returns
returns c = dropped_eight c.loop-session.session c.args.txns.now c.loop-session.txns (omega (arith, c.loop-session-test.false, c.loop-session.invariant.last)) c.loop-session.invariant.dropped
