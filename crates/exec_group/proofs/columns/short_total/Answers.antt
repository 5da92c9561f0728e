use Rattle.std.proofs.Common.{◌≡◌, ◌+◌, ◌+ℤ◌, ℤ, of_z, rules, subst, take, to_z, unsigned_abs}
use Rattle.std.specs.Int.{w64}
use Rattle.exec_group.specs.Columns.{IsTotalOf}
use Rattle.exec_group.proofs.Spans.{at, lane_more}
use Rattle.exec_group.proofs.columns.short_total.Goals as goal

pub loop-n-preserved : goal.loop-n-preserved
loop-n-preserved c =
    let i = c.loop-n.n-index in
    let more : to_z w64 (of_z w64 c.in-Some.more) ≡ c.loop-n.sum +ℤ at c.args.lane.now i = search rules in
    let wider : c.in-Some-checked_add.wider ≡ c.loop-n.size + unsigned_abs (at c.args.lane.now i) = search rules in
    let same : to_z w64 c.loop-n.sum-bits ≡ c.loop-n.sum = search rules in
    lane_more c.args.columns.now c.args.e.now c.args.places.now c.args.lane.now i c.loop-n.sum _ c.loop-n.size c.in-Some-checked_add.wider c.requires c.loop-n-test.true more wider
    (subst (λ (z : ℤ). IsTotalOf c.args.columns.now c.args.e.now (take i c.args.places.now) z c.loop-n.size) same c.loop-n.invariant)
