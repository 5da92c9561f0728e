use Rattle.std.proofs.Common.{◌≡◌, ◌++◌, ◌∙◌, ◌&&◌, ◌==◌, sym, ap, List, ℕ, true, get_or, rules}
use Rattle.sql_words.proofs.Quotes.{twin_on}
use Rattle.sql_words.proofs.spelled.unquoted.Goals as goal

pub loop-b-preserved-then-is_second : goal.loop-b-preserved-then-is_second
loop-b-preserved-then-is_second c =
    let second : (c.loop-b.is_twin && (get_or c.args.inner.now c.loop-b.b-index 0 == 39)) ≡ true = search rules in
    ap (λ (more : List ℕ). c.loop-b.said.items ++ more) (sym (twin_on c.args.inner.now c.loop-b.is_twin c.loop-b.b-index c.loop-b-test.true second)) ∙ c.loop-b.invariant
