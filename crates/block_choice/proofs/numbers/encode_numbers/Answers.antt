use Rattle.std.proofs.Common.{◌≡◌, ◌≤◌, ◌<◌, ◌+◌, length, map, ap, sym, subst, ◌∙◌, arith}
use Rattle.std.specs.Prelude.{IfOk}
use Rattle.std.proofs.lemmas.List.{length-map}
use Rattle.block_codec.specs.Held.{number_value}
use Rattle.block_choice.specs.declared.codec.Codec.{Codec}
use Rattle.block_choice.specs.declared.codec.Codec.TheVariants.{Rle, BlockDict, Plain}
use Rattle.block_choice.specs.Codecs.{spelled_by}
use Rattle.block_choice.proofs.Lane.{lane_undated}
use Rattle.block_choice.proofs.Shortest.{long, auto_rle, auto_dict, auto_plain, auto_first, other_codec}
use Rattle.block_choice.proofs.numbers.encode_numbers.Goals as goal

pub returns-then-rle-numbers : goal.returns-then-rle-numbers
unfolding spelled_by
returns-then-rle-numbers c =
    let vs = map number_value c.args.numbers.now in
    let few : long vs Rle ≤ length vs + 2 = omega (arith, c.numbers_block_len-rle.ensures, c.if-rle-numbers.true, length-map c.args.numbers.now number_value) in
    subst (λ (k : Codec). IfOk c.encode_as.result (λ b. b.items ≡ spelled_by k vs)) (sym (auto_rle vs few)) c.encode_as.ensures

pub returns-in-Some : goal.returns-in-Some
unfolding spelled_by
returns-in-Some c =
    let vs = map number_value c.args.numbers.now in
    let f = c.first_of-first.result.0 in
    let made = rw c.in-Some.is at c.in_ok-block.ensures.found in
    let same : length c.in-Some.block.items ≡ long vs BlockDict = ap length made.0 in
    let first : long vs BlockDict < long vs f = omega (arith, made.1, same, c.min.ensures, c.first_of-first.ensures.len) in
    let other : long vs BlockDict ≤ long vs Plain = omega (arith, made.1, same, c.min.ensures, c.numbers_block_len-plain.ensures.exact) in
    made.0 ∙ ap (λ (k : Codec). spelled_by k vs) (sym (other_codec vs (lane_undated c.args.numbers.now) ∙ auto_dict vs f c.first_of-first.ensures.codec first other))

pub returns-then-plain-len : goal.returns-then-plain-len
unfolding spelled_by
returns-then-plain-len c =
    let vs = map number_value c.args.numbers.now in
    let f = c.first_of-first.result.0 in
    let none = rw c.in-None.is at c.in_ok-block.ensures.none in
    let first : long vs Plain < long vs f = omega (arith, c.if-plain-len.true, c.first_of-first.ensures.len, c.numbers_block_len-plain.ensures.exact) in
    let other : long vs Plain < long vs BlockDict = omega (arith, none, c.min.ensures, c.if-plain-len.true, c.numbers_block_len-plain.ensures.exact) in
    subst (λ (k : Codec). IfOk c.encode_as-then-plain-len.result (λ b. b.items ≡ spelled_by k vs)) (sym (other_codec vs (lane_undated c.args.numbers.now) ∙ auto_plain vs f c.first_of-first.ensures.codec first other)) c.encode_as-then-plain-len.ensures

pub returns-else-plain-len : goal.returns-else-plain-len
unfolding spelled_by
returns-else-plain-len c =
    let vs = map number_value c.args.numbers.now in
    let f = c.first_of-first.result.0 in
    let none = rw c.in-None.is at c.in_ok-block.ensures.none in
    let first : long vs f ≤ long vs Plain = omega (arith, c.if-plain-len.false, c.first_of-first.ensures.len, c.numbers_block_len-plain.ensures.exact) in
    let other : long vs f ≤ long vs BlockDict = omega (arith, none, c.min.ensures, c.if-plain-len.false, c.first_of-first.ensures.len) in
    subst (λ (k : Codec). IfOk c.encode_as-else-plain-len.result (λ b. b.items ≡ spelled_by k vs)) (sym (other_codec vs (lane_undated c.args.numbers.now) ∙ auto_first vs f c.first_of-first.ensures.codec first other)) c.encode_as-else-plain-len.ensures
