use Rattle.std.proofs.Common.{rules, pos, slice_index_or, w64, List, ℕ, ◌++◌, ap, ◌∙◌}
use Rattle.std.proofs.lemmas.Int.{to_z-of_z}
use Rattle.enc_delta.proofs.Lane.{above_at, all_deltas}
use Rattle.enc_delta.proofs.numbers.put_deltas.Goals as goal

pub delta_of-requires : goal.delta_of-requires
delta_of-requires c =
    let at = slice_index_or c.args.numbers.now c.loop-n.n-index (pos 0) in
    rw (to_z-of_z w64 c.args.base c.ranges.base, to_z-of_z w64 at (search rules)) (above_at c.args.base c.args.numbers.now c.loop-n.n-index c.loop-n-test.true c.requires.above)

pub returns : goal.returns
returns c = (rw (to_z-of_z w64 c.args.base c.ranges.base) at c.loop-n.invariant.put) ∙ ap (λ (bs : List ℕ). c.args.out.now.items ++ bs) (all_deltas c.args.base c.args.numbers.now c.loop-n.n-index c.loop-n-test.false)
