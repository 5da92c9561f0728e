use Rattle.std.proofs.Common.{◌≤◌, ◌∙◌, length, refl, arith}
use Rattle.col_disk.proofs.Moving.{moved_join, moved_none}
use Rattle.audit_rows.proofs.Places.{ahead_none, ahead_more, ahead_here, ahead_all, only, singles}
use Rattle.audit_rows.proofs.Gathering.{readable_at, item, item_is}
use Rattle.audit_rows.proofs.judging.judge_projection.Goals as goal

pub loop-container-init : goal.loop-container-init
loop-container-init g c = record {
  ahead = ahead_none (only c.args.table.now c.args.shape.now) (g.D.Disk.holds c.args.disk.now) c.args.epoch c.args.mark _ c.as_slice-containers.result.now _ c.as_slice-containers.ensures (singles c.args.table.now c.args.shape.now c.args.shape.now.containers);
  kept = refl;
  moved = moved_none g.D.Disk c.args.disk.now;
}

pub judge_container-requires-clause-readable : goal.judge_container-requires-clause-readable
judge_container-requires-clause-readable g c =
    let ks = c.as_slice-containers.result.now in
    let i = c.loop-container.container-index in
    readable_at c.args.shape.now.columns ks c.args.shape.now.containers i (item ks i) c.as_slice-containers.ensures c.requires c.loop-container-test.true (item_is ks i c.loop-container-test.true)

pub loop-container-preserved : goal.loop-container-preserved
loop-container-preserved g c =
    let xs = c.as_slice-containers.result.now in
    let i = c.loop-container.container-index in
    let now = c.loop-container.invariant in
    record {
      ahead = ahead_more (only c.args.table.now c.args.shape.now) (g.D.Disk.holds c.loop-container.disk) (g.D.Disk.holds c.args.disk.now) c.args.epoch c.args.mark _ xs i (item xs i) now.kept c.loop-container-test.true (item_is xs i c.loop-container-test.true) now.ahead c.in-Ok-None.field-0 c.in-Ok-None.field-0-is c.in-Ok-None.ensures.judged;
      kept = c.judge_container.ensures.kept ∙ now.kept;
      moved = moved_join g.D.Disk now.moved c.judge_container.ensures.moved;
    }

pub returns-in-Ok-Some-clause-judged : goal.returns-in-Ok-Some-clause-judged
returns-in-Ok-Some-clause-judged g c =
    let xs = c.as_slice-containers.result.now in
    let i = c.loop-container.container-index in
    let now = c.loop-container.invariant in
    ahead_here (only c.args.table.now c.args.shape.now) (g.D.Disk.holds c.loop-container.disk) (g.D.Disk.holds c.args.disk.now) c.args.epoch c.args.mark _ xs i (item xs i) c.in-Ok-Some.verdict now.kept c.loop-container-test.true (item_is xs i c.loop-container-test.true) now.ahead c.in-Ok-Some.field-0 c.in-Ok-Some.field-0-is c.in-Ok-Some.ensures.judged

pub returns-in-Ok-Some-clause-moved : goal.returns-in-Ok-Some-clause-moved
returns-in-Ok-Some-clause-moved g c = moved_join g.D.Disk c.loop-container.invariant.moved c.judge_container.ensures.moved

pub returns-in-Err-clause-moved : goal.returns-in-Err-clause-moved
returns-in-Err-clause-moved g c = moved_none g.D.Disk c.args.disk.now

pub returns-in-Err-judge_container-clause-moved : goal.returns-in-Err-judge_container-clause-moved
returns-in-Err-judge_container-clause-moved g c = moved_join g.D.Disk c.loop-container.invariant.moved c.judge_container.ensures.moved

pub returns-clause-judged : goal.returns-clause-judged
returns-clause-judged g c =
    let xs = c.as_slice-containers.result.now in
    let past : length xs ≤ c.loop-container.container-index = omega (arith, c.loop-container-test.false) in
    ahead_all (only c.args.table.now c.args.shape.now) (g.D.Disk.holds c.args.disk.now) c.args.epoch c.args.mark _ xs c.loop-container.container-index past c.loop-container.invariant.ahead
