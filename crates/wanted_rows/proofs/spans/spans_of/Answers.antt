use Rattle.std.proofs.lemmas.Result.{IfOk-weaker}
use Rattle.wanted_rows.proofs.Spanning.{spans_cover}
use Rattle.wanted_rows.proofs.spans.spans_of.Goals as goal

pub returns-in-Some : goal.returns-in-Some
returns-in-Some c = IfOk-weaker c.each_span.result _ _ (λ spans are. spans_cover c.args.rows.now spans.items are) c.each_span.ensures
