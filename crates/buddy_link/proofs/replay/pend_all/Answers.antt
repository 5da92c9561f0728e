use Rattle.std.proofs.Common.{rules}
use Rattle.buddy_link.proofs.Pended.{dropped_more, pended_more}
use Rattle.buddy_link.proofs.replay.pend_all.Goals as goal

pub loop-table-preserved : goal.loop-table-preserved
loop-table-preserved c = record {
  pends = pended_more c.args.epoch c.loop-table.table-index c.args.tables.now c.table-item.result c.args.behind.now c.loop-table.behind c.pend_one.new.behind (search rules) (search rules) c.loop-table.invariant.pends c.in_ok-pend_one.ensures.pends;
  dropped = dropped_more c.args.epoch c.table-item.result c.args.behind.now c.loop-table.behind c.pend_one.new.behind c.loop-table.invariant.dropped c.in_ok-pend_one.ensures.pends;
}
