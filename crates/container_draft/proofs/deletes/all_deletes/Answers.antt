use Rattle.std.proofs.Common.{◌≡◌, length, rules, ap}
use Rattle.std.proofs.lemmas.Result.{IfOk-weaker}
use Rattle.container_draft.proofs.Joining.{all_chosen_deletes}
use Rattle.container_draft.proofs.deletes.all_deletes.Goals as goal

pub returns : goal.returns
returns c =
    let p = c.args.p.now.stored in
    let shown : c.as_slice.result.now ≡ p.entry.containers = search rules in
    IfOk-weaker c.chosen_deletes.result _ _
    (λ v is. all_chosen_deletes p (length c.as_slice.result.now) c.in_ok-all.all.items c.as_slice-2.result.now v.items c.entry.ensures.sound (ap length shown) c.in_ok-all.ensures c.as_slice-2.ensures.value is) c.chosen_deletes.ensures
