use Rattle.std.proofs.Common.{◌≡◌, ◌≤◌, ◌∙◌, arith}
use Rattle.container_draft.proofs.Loaded.{constant_more}
use Rattle.container_draft.proofs.loading.constant.Goals as goal

pub loop-left-preserved : goal.loop-left-preserved
loop-left-preserved c =
    let now = c.loop-left.invariant in
    let some = c.min-some.ensures in
    let most = now.left in
    record {
      made = constant_more c.args.value.now c.args.count c.loop-left.left c.min-some.result c.loop-left.column c.of.result c.push.new.self (omega (arith, some)) most now.made (c.of.ensures ∙ c.in_ok-repeated.ensures) c.in_ok-push.ensures;
      left = omega (arith, most);
    }
