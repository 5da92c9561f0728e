use Rattle.std.proofs.Common.{arith, sym, ◌∙◌}
use Rattle.sql_words.proofs.Quotes.{past_byte_at, past_twin_at}
use Rattle.sql_words.proofs.bytes.inner_size.Goals as goal

pub loop-at-preserved-then-text-at-ne39 : goal.loop-at-preserved-then-text-at-ne39
loop-at-preserved-then-text-at-ne39 c = (sym (past_byte_at _ _ c.loop-at-test.true c.if-text-at-ne39.true) ∙ c.loop-at.invariant.0, omega arith)

pub loop-at-preserved : goal.loop-at-preserved
loop-at-preserved c = (sym (past_twin_at c.args.text.now c.loop-at.at (omega arith) c.if-text-at-ne39.false c.if-text-at-ne39-2.false) ∙ c.loop-at.invariant.0, omega arith)
