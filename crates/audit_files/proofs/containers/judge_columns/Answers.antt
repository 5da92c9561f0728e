use Rattle.std.proofs.Common.{rules}
use Rattle.col_disk.proofs.Moving.{moved_join, moved_none}
use Rattle.audit_files.proofs.Joins.{walk_none}
use Rattle.audit_files.proofs.Lists.{column_more, column_stopped, columns_ended}
use Rattle.audit_files.proofs.containers.judge_columns.Goals as goal

pub loop-i-init : goal.loop-i-init
loop-i-init g c = record { judged = walk_none (g.D.Disk.holds c.args.disk.now); kept = search rules; moved = moved_none g.D.Disk c.args.disk.now }

pub loop-i-preserved : goal.loop-i-preserved
loop-i-preserved g c = record {
  judged = column_more c.args.shape.now c.args.entry.now c.loop-i.i (g.D.Disk.holds c.args.disk.now) (g.D.Disk.holds c.loop-i.disk) c.loop-i-test.true c.loop-i.invariant.kept c.loop-i.invariant.judged c.in-Ok.ensures.judged;
  kept = search rules;
  moved = moved_join g.D.Disk c.loop-i.invariant.moved c.judge_column.ensures.moved;
}

pub returns-in-Err-clause-judged : goal.returns-in-Err-clause-judged
returns-in-Err-clause-judged g c = column_stopped c.args.shape.now c.args.entry.now c.loop-i.i (g.D.Disk.holds c.args.disk.now) (g.D.Disk.holds c.loop-i.disk) c.in-Err.fault c.loop-i-test.true c.loop-i.invariant.kept c.loop-i.invariant.judged c.in-Err.ensures.judged

pub returns-in-Err-clause-moved : goal.returns-in-Err-clause-moved
returns-in-Err-clause-moved g c = moved_join g.D.Disk c.loop-i.invariant.moved c.judge_column.ensures.moved

pub returns-clause-judged : goal.returns-clause-judged
returns-clause-judged g c = columns_ended c.args.shape.now c.args.entry.now c.loop-i.i (g.D.Disk.holds c.args.disk.now) c.loop-i-test.false c.loop-i.invariant.judged
