use Rattle.std.proofs.Common.{rules}
use Rattle.col_disk.proofs.Moving.{moved_join, moved_none}
use Rattle.audit_files.specs.Columns.{MayStand}
use Rattle.audit_files.proofs.Blocks.{such_started, such_on, such_ended, none_such}
use Rattle.audit_files.proofs.columns.judge_body.Goals as goal

pub loop-k-init : goal.loop-k-init
loop-k-init g c = record {
  so_far = such_started (MayStand c.args.entry.now c.args.column) c.args.encoding c.args.body c.args.at.now (g.D.Disk.holds c.args.disk.now);
  kept = search rules;
  moved = moved_none g.D.Disk c.args.disk.now;
}

pub loop-k-preserved : goal.loop-k-preserved
loop-k-preserved g c = record {
  so_far = such_on (MayStand c.args.entry.now c.args.column) c.args.encoding c.args.body c.args.at.now c.loop-k.k (g.D.Disk.holds c.args.disk.now) (g.D.Disk.holds c.loop-k.disk) c.requires (search rules) c.loop-k.invariant.kept c.loop-k.invariant.so_far c.in-Ok.ensures.found;
  kept = search rules;
  moved = moved_join g.D.Disk c.loop-k.invariant.moved c.judge_block.ensures.moved;
}

pub returns-clause-found : goal.returns-clause-found
returns-clause-found g c = such_ended (MayStand c.args.entry.now c.args.column) c.args.encoding c.args.body c.args.at.now c.loop-k.k (g.D.Disk.holds c.args.disk.now) c.requires (search rules) c.loop-k.invariant.so_far

pub returns-in-Err-clause-blamed : goal.returns-in-Err-clause-blamed
returns-in-Err-clause-blamed g c = none_such (MayStand c.args.entry.now c.args.column) c.args.encoding c.args.body c.args.at.now c.loop-k.k (g.D.Disk.holds c.args.disk.now) (g.D.Disk.holds c.loop-k.disk) c.in-Err.fault (search rules) c.loop-k.invariant.kept c.in-Err.ensures.blamed

pub returns-in-Err-clause-moved : goal.returns-in-Err-clause-moved
returns-in-Err-clause-moved g c = moved_join g.D.Disk c.loop-k.invariant.moved c.judge_block.ensures.moved
