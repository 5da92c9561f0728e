use Rattle.std.proofs.Common.{◌≡◌, ℕ, length, rules}
use Rattle.col_value.specs.Order.{IsRow}
use Rattle.exec_group.specs.Accumulators.{argument_in}
use Rattle.exec_group.specs.Columns.{row_of}
use Rattle.exec_group.proofs.Together.{long_from, put_further, rows_from, some_from, within_more}
use Rattle.exec_group.proofs.kept.take_columns.Goals as goal

pub take_next-requires-clause-rows : goal.take_next-requires-clause-rows
take_next-requires-clause-rows c = rows_from (λ i. IsRow (row_of c.args.columns.now i)) c.args.places.now c.loop-at.at c.requires.rows

pub take_next-requires-clause-long : goal.take_next-requires-clause-long
take_next-requires-clause-long c = long_from c.args.groups.now c.args.places.now c.loop-at.at c.requires.long

pub take_next-requires-clause-some : goal.take_next-requires-clause-some
take_next-requires-clause-some c = some_from c.args.places.now c.loop-at.at c.loop-at-test.true

pub loop-at-preserved : goal.loop-at-preserved
loop-at-preserved c = record {
  within = within_more c.args.places.now c.loop-at.at c.in_ok-n.n c.loop-at.invariant.within c.in_ok-n.ensures.within;
  taken =
      put_further (λ (p : ℕ). argument_in c.args.a.now.arg (row_of c.args.columns.now p)) c.args.groups.now c.args.places.now c.loop-at.at c.in_ok-n.n c.args.list.now.items c.loop-at.list.items c.take_next.new.list.items c.requires.long
      c.loop-at.invariant.within c.loop-at.invariant.taken c.in_ok-n.ensures.taken;
}
