use Rattle.std.proofs.Common.{◌<◌, length, refl, arith}
use Rattle.exec_scan.proofs.Gathered.{row_next, rows_next}
use Rattle.store_query.proofs.gathering.add_batch.Goals as goal

pub loop-i-preserved : goal.loop-i-preserved
loop-i-preserved c =
    let lt : c.loop-i.i < length c.args.batch.now.rows = grind (arith, c.loop-i-test.true, c.len-i-end.ensures) in
    record {
      rows = row_next c.args.out.now.items c.loop-i.out.items c.push.new.self.items c.args.batch.now.rows c.loop-i.i c.in_ok-row_at.field-0 c.in_ok-row_at.field-0 lt c.in_ok-row_at.ensures.row refl
          c.in_ok-push.ensures.items c.loop-i.invariant.rows;
      valid = rows_next c.loop-i.out.items c.push.new.self.items c.in_ok-row_at.field-0 c.in_ok-push.ensures.items c.loop-i.invariant.valid c.in_ok-row_at.ensures.valid;
    }
