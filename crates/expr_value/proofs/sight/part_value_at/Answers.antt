use Rattle.std.proofs.Common.{ap, sym, ◌∙◌, arith}
use Rattle.col_value.specs.Order.{widened}
use Rattle.expr_value.proofs.Parts.{null_before, value_past}
use Rattle.expr_value.proofs.sight.part_value_at.Goals as goal

pub returns-then-i-first : goal.returns-then-i-first
returns-then-i-first c = ap widened (sym (null_before c.args.first c.args.values.now c.args.i c.if-i-first.true))

pub returns-else-i-first : goal.returns-else-i-first
returns-else-i-first c = c.value_at.ensures ∙ ap widened (sym (value_past c.args.first c.args.values.now c.args.i (omega arith)))
