use Rattle.std.proofs.Common.{rules}
use Rattle.statement_plan.proofs.Taken.{repeated_at, rest_at, names_at}
use Rattle.statement_plan.proofs.creating.repeated.Goals as goal

pub returns-then-not-is_new : goal.returns-then-not-is_new
returns-then-not-is_new c =
    repeated_at c.loop-column.seen c.in_ok-copy.field-0 c.args.columns.now c.loop-column.column-index c.column-item.result _
    c.loop-column-test.true c.column-item.is (search rules) c.loop-column.invariant.names c.loop-column.invariant.rest (search rules)

pub loop-column-preserved : goal.loop-column-preserved
loop-column-preserved c = record {
  names = names_at c.loop-column.seen c.insert.new.self c.in_ok-copy.field-0 c.args.columns.now c.loop-column.column-index c.column-item.result
      c.loop-column-test.true c.column-item.is (search rules) c.loop-column.invariant.names c.in_ok-is_new.ensures.updates;
  rest = rest_at c.loop-column.seen c.in_ok-copy.field-0 c.args.columns.now c.loop-column.column-index c.column-item.result _
      c.loop-column-test.true c.column-item.is (search rules) c.loop-column.invariant.names c.loop-column.invariant.rest (search rules);
}
