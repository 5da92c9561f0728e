use Rattle.std.proofs.Common.{arith}
use Rattle.col_value.specs.Order.{IsRow}
use Rattle.exec_group.proofs.Together.{rows_from, some_from, within_more}
use Rattle.exec_group.specs.Columns.{row_of}
use Rattle.query_run.proofs.Together.{goes_all, goes_from, goes_not}
use Rattle.query_run.proofs.collected.Collected.take_each.Goals as goal

pub take_next-requires-clause-some : goal.take_next-requires-clause-some
take_next-requires-clause-some c = some_from c.args.places.now c.loop-at.at c.loop-at-test.true

pub take_next-requires-clause-rows : goal.take_next-requires-clause-rows
take_next-requires-clause-rows c = rows_from (λ i. IsRow (row_of c.args.columns.now i)) c.args.places.now c.loop-at.at c.requires.rows

pub loop-at-init : goal.loop-at-init
loop-at-init c = record {
  within = omega arith;
  goes = goes_not c.args.query.now c.args.self.now;
}

pub loop-at-preserved : goal.loop-at-preserved
loop-at-preserved c = record {
  within = within_more c.args.places.now c.loop-at.at c.in_ok-n.n c.loop-at.invariant.within c.in_ok-n.ensures.within;
  goes = goes_from c.args.query.now c.args.self.now c.loop-at.self c.take_next.new.self c.args.columns.now c.args.places.now c.loop-at.at c.in_ok-n.n c.loop-at.invariant.goes c.in_ok-n.ensures.taken;
}

pub returns : goal.returns
returns c = goes_all c.args.query.now c.args.self.now c.loop-at.self c.args.columns.now c.args.places.now c.loop-at.at (omega (arith, c.loop-at-test.false)) c.loop-at.invariant.goes
