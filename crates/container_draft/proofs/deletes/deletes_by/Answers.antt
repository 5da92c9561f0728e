use Rattle.std.proofs.lemmas.Result.{IfOk-weaker}
use Rattle.container_draft.proofs.Joining.{deletes_are}
use Rattle.container_draft.proofs.deletes.deletes_by.Goals as goal

pub returns : goal.returns
returns c =
    IfOk-weaker c.padded.result _ _
    (λ v is. deletes_are c.args.held.now c.args.fresh.now c.args.count c.in_ok-found.found.items c.as_slice.result.now v.items c.in_ok-found.ensures c.as_slice.ensures.value is) c.padded.ensures
