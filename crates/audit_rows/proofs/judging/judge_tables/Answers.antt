use Rattle.std.proofs.Common.{◌≤◌, ◌∙◌, length, refl, arith}
use Rattle.col_disk.proofs.Moving.{moved_join, moved_none}
use Rattle.audit_model.specs.Listed.{places_of}
use Rattle.audit_rows.proofs.Places.{ahead_none, ahead_more, ahead_here, ahead_all}
use Rattle.audit_rows.proofs.judging.judge_tables.Goals as goal

pub loop-table-init : goal.loop-table-init
loop-table-init g c = record {
  ahead = ahead_none places_of (g.D.Disk.holds c.args.disk.now) c.args.epoch c.args.mark _ c.args.tables.now _ refl refl;
  kept = refl;
  moved = moved_none g.D.Disk c.args.disk.now;
}

pub loop-table-preserved : goal.loop-table-preserved
loop-table-preserved g c =
    let xs = c.args.tables.now in
    let i = c.loop-table.table-index in
    let now = c.loop-table.invariant in
    record {
      ahead = ahead_more places_of (g.D.Disk.holds c.loop-table.disk) (g.D.Disk.holds c.args.disk.now) c.args.epoch c.args.mark _ xs i c.table-item.result now.kept c.loop-table-test.true c.table-item.is now.ahead c.in-Ok-None.field-0 c.in-Ok-None.field-0-is c.in-Ok-None.ensures.judged;
      kept = c.judge_table.ensures.kept ∙ now.kept;
      moved = moved_join g.D.Disk now.moved c.judge_table.ensures.moved;
    }

pub returns-in-Ok-Some-clause-judged : goal.returns-in-Ok-Some-clause-judged
returns-in-Ok-Some-clause-judged g c =
    let xs = c.args.tables.now in
    let i = c.loop-table.table-index in
    let now = c.loop-table.invariant in
    ahead_here places_of (g.D.Disk.holds c.loop-table.disk) (g.D.Disk.holds c.args.disk.now) c.args.epoch c.args.mark _ xs i c.table-item.result c.in-Ok-Some.verdict now.kept c.loop-table-test.true c.table-item.is now.ahead c.in-Ok-Some.field-0 c.in-Ok-Some.field-0-is c.in-Ok-Some.ensures.judged

pub returns-in-Ok-Some-clause-moved : goal.returns-in-Ok-Some-clause-moved
returns-in-Ok-Some-clause-moved g c = moved_join g.D.Disk c.loop-table.invariant.moved c.judge_table.ensures.moved

pub returns-in-Err-clause-moved : goal.returns-in-Err-clause-moved
returns-in-Err-clause-moved g c = moved_join g.D.Disk c.loop-table.invariant.moved c.judge_table.ensures.moved

pub returns-clause-judged : goal.returns-clause-judged
returns-clause-judged g c =
    let xs = c.args.tables.now in
    let past : length xs ≤ c.loop-table.table-index = omega (arith, c.loop-table-test.false) in
    ahead_all places_of (g.D.Disk.holds c.args.disk.now) c.args.epoch c.args.mark _ xs c.loop-table.table-index past c.loop-table.invariant.ahead
