use Rattle.std.proofs.Common.{◌≡◌, ◌+◌, ◌+ℤ◌, ℤ, of_z, rules, subst, take, to_z, unsigned_abs}
use Rattle.std.specs.Int.{w128}
use Rattle.exec_group.specs.Columns.{IsTotalOf}
use Rattle.exec_group.proofs.Spans.{at, lane_more}
use Rattle.exec_group.proofs.columns.wide_total.Goals as goal

pub loop-n-preserved : goal.loop-n-preserved
loop-n-preserved c =
    let i = c.loop-n.n-index in
    let more : to_z w128 (of_z w128 c.in-Some.more) ≡ c.loop-n.sum +ℤ at c.args.lane.now i = search rules in
    let greater : c.in-Some-checked_add.greater ≡ c.loop-n.size + unsigned_abs (at c.args.lane.now i) = search rules in
    let same : to_z w128 c.loop-n.sum-bits ≡ c.loop-n.sum = search rules in
    lane_more c.args.columns.now c.args.e.now c.args.places.now c.args.lane.now i c.loop-n.sum _ c.loop-n.size c.in-Some-checked_add.greater c.requires c.loop-n-test.true more greater
    (subst (λ (z : ℤ). IsTotalOf c.args.columns.now c.args.e.now (take i c.args.places.now) z c.loop-n.size) same c.loop-n.invariant)
