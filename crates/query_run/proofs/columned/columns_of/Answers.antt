use Rattle.std.proofs.Common.{arith}
use Rattle.query_run.proofs.Finding.{all_up_to, one_up_to}
use Rattle.query_run.proofs.columned.columns_of.Goals as goal

pub loop-column-preserved : goal.loop-column-preserved
loop-column-preserved c =
    one_up_to c.args.rows.now c.loop-column.column c.args.width c.loop-column.out.items c.push.new.self.items c.in_ok-column_in.field-0 c.requires c.loop-column-test.true c.in_ok-push.ensures.items c.in_ok-column_in.ensures c.loop-column.invariant

pub returns : goal.returns
returns c = all_up_to c.args.rows.now c.loop-column.column c.args.width c.loop-column.out.items c.requires (omega (arith, c.loop-column-test.false)) c.loop-column.invariant
