use Rattle.std.proofs.lemmas.Result.{IfOk-weaker}
use Rattle.container_draft.proofs.Gathering.{gathered_same}
use Rattle.container_draft.proofs.values.column_values.Goals as goal

pub returns-in-Some-clause-same : goal.returns-in-Some-clause-same
returns-in-Some-clause-same c =
    let held = rw c.in-Some.is at c.in_ok-lane.ensures in
    IfOk-weaker c.gathered.result _ _
    (λ v is. gathered_same c.args.column c.args.rows.now c.in-Some.lane.items c.as_slice.result.now c.args.places.now v.items held c.as_slice.ensures.value is) c.gathered.ensures.same
