use Rattle.std.proofs.Common.{◌≡◌, rules}
use Rattle.exec_group.proofs.Counting.{counted_further}
use Rattle.exec_group.proofs.Together.{some_from, within_more}
use Rattle.exec_group.proofs.kept.count_runs.Goals as goal

pub count_next-requires : goal.count_next-requires
count_next-requires c = record { some = some_from c.args.groups.now c.loop-at.at c.loop-at-test.true }

pub loop-at-preserved : goal.loop-at-preserved
loop-at-preserved c = record {
  within = within_more c.args.groups.now c.loop-at.at c.in_ok-n.n c.loop-at.invariant.within c.in_ok-n.ensures.within;
  counted = counted_further c.args.groups.now c.loop-at.at c.in_ok-n.n c.args.counts.now.items c.loop-at.counts.items c.count_next.new.counts.items c.loop-at.invariant.counted c.in_ok-n.ensures.counted;
}
