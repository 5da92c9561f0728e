use Rattle.exec_scan.proofs.Blocks.{push_valid, put_more}
use Rattle.exec_scan.proofs.batch.put_row.Goals as goal

pub loop-place-preserved : goal.loop-place-preserved
loop-place-preserved c = record {
  put = put_more c.args.values.now.items c.loop-place.values.items c.push.new.self.items c.args.places.now c.args.row.now c.loop-place.place-index c.in_ok-value_of.field-0
      c.loop-place-test.true c.in_ok-push.ensures.items c.in_ok-value_of.ensures.value c.loop-place.invariant.put;
  valid = push_valid c.loop-place.values.items c.push.new.self.items c.in_ok-value_of.field-0 c.in_ok-push.ensures.items c.loop-place.invariant.valid c.in_ok-value_of.ensures.valid;
}
