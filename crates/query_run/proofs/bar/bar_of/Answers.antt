use Rattle.std.proofs.Common.{◌≡◌, length, arith}
use Rattle.std.proofs.lemmas.Result.{IfOk-weaker}
use Rattle.query_run.proofs.Bars.{last_bars_all}
use Rattle.query_run.proofs.bar.bar_of.Goals as goal

pub returns-in-Some : goal.returns-in-Some
returns-in-Some c =
    let q = c.args.query.now in
    let long : length c.args.rows.now ≡ c.in-Some.count = omega (arith, c.if-rows-count.true) in
    IfOk-weaker c.last_of.result _ _ (λ bar last. last_bars_all q.order q.limit c.in-Some.count c.args.rows.now bar c.in-Some.is long last) c.last_of.ensures
