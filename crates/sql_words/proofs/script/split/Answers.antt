use Rattle.std.proofs.Common.{arith, ◌≡◌, ◌∙◌, ◌++◌, sym, ap, List, ℕ, length, drop, length-drop, filter}
use Rattle.sql_words.specs.Texts.{has_token, spans_to}
use Rattle.sql_words.proofs.Ends.{part_goes}
use Rattle.sql_words.proofs.script.split.Goals as goal

pub loop-at-preserved-then-rest-ne59 : goal.loop-at-preserved-then-rest-ne59
loop-at-preserved-then-rest-ne59 c =
    let goes = part_goes c.args.script.now c.behind-rest.result.now c.loop-at.at c.part_size-at.result c.behind-rest.ensures c.if-rest-ne59.true c.part_size-at.ensures.size c.part_size-at.ensures.some c.part_size-at.ensures.within in
    let as_long : length c.behind-rest.result.now ≡ length (drop c.loop-at.at c.args.script.now) = ap (λ (x : List ℕ). length x) c.behind-rest.ensures in
    record {
      spans = ap (λ (ends : List ℕ). c.loop-at.found.items ++ filter (has_token c.args.script.now) (spans_to c.loop-at.start ends)) (sym goes) ∙ c.loop-at.invariant.spans;
      order = omega arith;
      place = omega (arith, length-drop c.loop-at.at c.args.script.now);
      within = c.loop-at.invariant.within;
    }
