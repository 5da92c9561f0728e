use Rattle.std.proofs.Common.{◌≤◌, ◌∙◌, length, refl, arith}
use Rattle.col_disk.proofs.Moving.{moved_join, moved_none}
use Rattle.audit_model.specs.Listed.{places_in}
use Rattle.audit_rows.proofs.Places.{ahead_none, ahead_more, ahead_here, ahead_all}
use Rattle.audit_rows.proofs.judging.judge_table.Goals as goal

pub loop-shape-init : goal.loop-shape-init
loop-shape-init g c = record {
  ahead = ahead_none (places_in c.args.table.now) (g.D.Disk.holds c.args.disk.now) c.args.epoch c.args.mark _ c.as_slice-shapes.result.now _ c.as_slice-shapes.ensures refl;
  kept = refl;
  moved = moved_none g.D.Disk c.args.disk.now;
}

pub loop-shape-preserved : goal.loop-shape-preserved
loop-shape-preserved g c =
    let xs = c.as_slice-shapes.result.now in
    let i = c.loop-shape.shape-index in
    let now = c.loop-shape.invariant in
    record {
      ahead = ahead_more (places_in c.args.table.now) (g.D.Disk.holds c.loop-shape.disk) (g.D.Disk.holds c.args.disk.now) c.args.epoch c.args.mark _ xs i c.shape-item.result now.kept c.loop-shape-test.true c.shape-item.is now.ahead c.in-Ok-None.field-0 c.in-Ok-None.field-0-is c.in-Ok-None.ensures.judged;
      kept = c.judge_projection.ensures.kept ∙ now.kept;
      moved = moved_join g.D.Disk now.moved c.judge_projection.ensures.moved;
    }

pub returns-in-Ok-Some-clause-judged : goal.returns-in-Ok-Some-clause-judged
returns-in-Ok-Some-clause-judged g c =
    let xs = c.as_slice-shapes.result.now in
    let i = c.loop-shape.shape-index in
    let now = c.loop-shape.invariant in
    ahead_here (places_in c.args.table.now) (g.D.Disk.holds c.loop-shape.disk) (g.D.Disk.holds c.args.disk.now) c.args.epoch c.args.mark _ xs i c.shape-item.result c.in-Ok-Some.verdict now.kept c.loop-shape-test.true c.shape-item.is now.ahead c.in-Ok-Some.field-0 c.in-Ok-Some.field-0-is c.in-Ok-Some.ensures.judged

pub returns-in-Ok-Some-clause-moved : goal.returns-in-Ok-Some-clause-moved
returns-in-Ok-Some-clause-moved g c = moved_join g.D.Disk c.loop-shape.invariant.moved c.judge_projection.ensures.moved

pub returns-in-Err-clause-moved : goal.returns-in-Err-clause-moved
returns-in-Err-clause-moved g c = moved_join g.D.Disk c.loop-shape.invariant.moved c.judge_projection.ensures.moved

pub returns-clause-judged : goal.returns-clause-judged
returns-clause-judged g c =
    let xs = c.as_slice-shapes.result.now in
    let past : length xs ≤ c.loop-shape.shape-index = omega (arith, c.loop-shape-test.false) in
    ahead_all (places_in c.args.table.now) (g.D.Disk.holds c.args.disk.now) c.args.epoch c.args.mark _ xs c.loop-shape.shape-index past c.loop-shape.invariant.ahead
