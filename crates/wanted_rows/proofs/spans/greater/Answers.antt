use Rattle.std.proofs.Common.{sym}
use Rattle.wanted_rows.proofs.Spanning.{le_itself, le_other}
use Rattle.wanted_rows.proofs.spans.greater.Goals as goal

pub returns-then-is_at_most : goal.returns-then-is_at_most
returns-then-is_at_most c = (sym c.if-is_at_most.ensures, le_itself c.args.b.now)

pub returns-else-is_at_most : goal.returns-else-is_at_most
returns-else-is_at_most c = (le_itself c.args.a.now, le_other c.args.a.now c.args.b.now (sym c.if-is_at_most.ensures))
