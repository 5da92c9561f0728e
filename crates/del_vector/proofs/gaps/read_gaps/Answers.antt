use Rattle.std.proofs.Common.{◌≡◌, ◌++◌, ◌∷◌, []}
use Rattle.std.proofs.lemmas.Result.{err_from_is_err_and}
use Rattle.col_bytes.specs.Parts.{many}
use Rattle.col_bytes.proofs.ReadOn.{goes_on, stops, is_done}
use Rattle.del_vector.specs.Fronts.{gap_at}
use Rattle.del_vector.proofs.gaps.read_gaps.Goals as goal

pub returns-in_err-gap : goal.returns-in_err-gap
returns-in_err-gap c =
    let p = err_from_is_err_and c.from_residual.result c.from_residual.ensures.1 in
    rw (p.1, p.2) (stops gap_at c.in_err-gap.field-0.0 c.loop.gaps.items c.args.count c.loop.counter c.loop.rest.now (many gap_at c.args.count c.args.bytes.now) c.loop-test.true c.in_err-gap.ensures c.loop.invariant)

pub loop-preserved : goal.loop-preserved
loop-preserved c =
    let e : c.push.new.self.items ≡ c.loop.gaps.items ++ c.in_ok-gap.gap ∷ [] = c.in_ok-push.ensures.items in
    rw e (goes_on gap_at c.loop.gaps.items c.args.count c.loop.counter c.loop.rest.now c.in_ok-gap.gap c.in_ok-gap.after.now (many gap_at c.args.count c.args.bytes.now) c.loop-test.true c.in_ok-gap.ensures c.loop.invariant)

pub returns : goal.returns
returns c = is_done gap_at c.loop.gaps.items c.args.count c.loop.counter c.loop.rest.now (many gap_at c.args.count c.args.bytes.now) c.loop-test.false c.loop.invariant
