use Rattle.std.proofs.Common.{◌≡◌, ◌+◌, rules}
use Rattle.std.proofs.lemmas.Result.{IfOk-weaker}
use Rattle.row_bounds.proofs.Sets.{set_unmoved}
use Rattle.row_bounds.specs.Setting.{unmoved}
use Rattle.row_bounds.proofs.shifting.bounds_from.Goals as goal

pub returns-in_ok-bounds_of-in-Some-clause-set : goal.returns-in_ok-bounds_of-in-Some-clause-set
returns-in_ok-bounds_of-in-Some-clause-set c =
    let first = c.args.first in
    let end : c.in-Some.end ≡ first + c.args.columns = search rules in
    IfOk-weaker c.shifted.result _ _
    (λ v moved b set. moved b (c.in_ok-bounds_of-in-Some.ensures.set (unmoved first b) (set_unmoved c.args.keep.now first c.args.columns c.in-Some.end b end set))) c.shifted.ensures.moved
