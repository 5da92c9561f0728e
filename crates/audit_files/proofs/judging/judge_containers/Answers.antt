use Rattle.std.proofs.Common.{rules}
use Rattle.col_disk.proofs.Moving.{moved_join, moved_none}
use Rattle.audit_files.specs.Walks.{container_files, IsNamed}
use Rattle.audit_files.proofs.Joins.{at_place, walk_none, walk_more, walk_stopped, walk_ended}
use Rattle.audit_files.proofs.Lists.{item, item_is}
use Rattle.audit_files.proofs.judging.judge_containers.Goals as goal

pub loop-container-init : goal.loop-container-init
loop-container-init g c = record { judged = walk_none (g.D.Disk.holds c.args.disk.now); kept = search rules; moved = moved_none g.D.Disk c.args.disk.now }

pub judge_container-requires : goal.judge_container-requires
judge_container-requires g c =
    let ks = c.args.containers.now in
    let i = c.loop-container.container-index in
    at_place IsNamed ks i (item ks i) c.loop-container-test.true (item_is ks i c.loop-container-test.true) c.requires

pub loop-container-preserved : goal.loop-container-preserved
loop-container-preserved g c =
    let ks = c.args.containers.now in
    let i = c.loop-container.container-index in
    let inv = c.loop-container.invariant in
    record {
      judged = walk_more (container_files c.args.shape.now) ks i (item ks i) (g.D.Disk.holds c.args.disk.now) (g.D.Disk.holds c.loop-container.disk) c.loop-container-test.true (item_is ks i c.loop-container-test.true) inv.kept inv.judged c.in-Ok.ensures.judged;
      kept = search rules;
      moved = moved_join g.D.Disk inv.moved c.judge_container.ensures.moved;
    }

pub returns-in-Err-clause-judged : goal.returns-in-Err-clause-judged
returns-in-Err-clause-judged g c =
    let ks = c.args.containers.now in
    let i = c.loop-container.container-index in
    let inv = c.loop-container.invariant in
    walk_stopped (container_files c.args.shape.now) ks i (item ks i) (g.D.Disk.holds c.args.disk.now) (g.D.Disk.holds c.loop-container.disk) c.in-Err.fault c.loop-container-test.true (item_is ks i c.loop-container-test.true) inv.kept inv.judged c.in-Err.ensures.judged

pub returns-in-Err-clause-moved : goal.returns-in-Err-clause-moved
returns-in-Err-clause-moved g c = moved_join g.D.Disk c.loop-container.invariant.moved c.judge_container.ensures.moved

pub returns-clause-judged : goal.returns-clause-judged
returns-clause-judged g c = walk_ended (container_files c.args.shape.now) c.args.containers.now c.loop-container.container-index (g.D.Disk.holds c.args.disk.now) c.loop-container-test.false c.loop-container.invariant.judged
