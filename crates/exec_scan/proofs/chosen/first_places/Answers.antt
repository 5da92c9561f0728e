use Rattle.std.proofs.Common.{◌∙◌, arith}
use Rattle.std.specs.List.{range_with_len}
use Rattle.std.proofs.lemmas.List.{map-id}
use Rattle.std.proofs.lemmas.List.FromFn.{fill_by_all}
use Rattle.exec_scan.proofs.chosen.first_places.Goals as goal

pub returns : goal.returns
returns c =
    fill_by_all (λ k. k) c.loop-i.places.items c.args.count 0 c.loop-i.invariant.long (λ k lt. c.loop-i.invariant.each k (omega (arith, lt, c.loop-i-test.false)))
    ∙ map-id (range_with_len 0 c.args.count)
