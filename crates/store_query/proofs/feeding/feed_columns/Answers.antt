use Rattle.std.proofs.Common.{map, rules}
use Rattle.std.proofs.lemmas.Result.{IfOk-weaker}
use Rattle.exec_scan.specs.Batches.{row_of}
use Rattle.wanted_rows.specs.Wanted.{need_in}
use Rattle.store_query.proofs.Fed.{made_feed}
use Rattle.store_query.proofs.feeding.feed_columns.Goals as goal

pub returns-in-Some-clause-fed : goal.returns-in-Some-clause-fed
returns-in-Some-clause-fed c =
    let made = map (row_of c.in-Some.columns.now) c.in-Some.places.now in
    IfOk-weaker c.take_columns.result _ _
    (λ took takes yes. made_feed c.args.query.now c.args.batch.now.rows made (need_in c.args.wants.now) c.args.run.now c.take_columns.new.self c.in-Some.ensures.rows (c.is_done.ensures (search rules)) (takes yes))
    c.take_columns.ensures.taken
