use Rattle.std.proofs.Common.{◌≡◌, ◌≤◌, ◌<◌, length, ap, sym, subst, ◌∙◌, arith}
use Rattle.std.specs.Prelude.{IfOk}
use Rattle.block_choice.specs.declared.codec.Codec.{Codec}
use Rattle.block_choice.specs.declared.codec.Codec.TheVariants.{Rle, BlockDict, Plain}
use Rattle.block_choice.specs.Codecs.{spelled_by}
use Rattle.block_choice.proofs.Shortest.{long, no_numbers, auto_dict, auto_plain, auto_first, other_codec}
use Rattle.block_choice.proofs.auto.encode_mixed.Goals as goal

pub returns-in-Some : goal.returns-in-Some
unfolding spelled_by
returns-in-Some c =
    let vs = c.args.values.now in
    let made = rw c.in-Some.is at c.in_ok-block.ensures.found in
    let same : length c.in-Some.block.items ≡ long vs BlockDict = ap length made.0 in
    let first : long vs BlockDict < long vs Rle = omega (arith, made.1, same, c.min.ensures, c.requires.rle) in
    let other : long vs BlockDict ≤ long vs Plain = omega (arith, made.1, same, c.min.ensures, c.block_len-plain.ensures.exact) in
    made.0 ∙ ap (λ (k : Codec). spelled_by k vs) (sym (other_codec vs c.requires.dates ∙ auto_dict vs Rle (sym (no_numbers vs c.requires.numbers)) first other))

pub returns-then-plain-rle : goal.returns-then-plain-rle
unfolding spelled_by
returns-then-plain-rle c =
    let vs = c.args.values.now in
    let none = rw c.in-None.is at c.in_ok-block.ensures.none in
    let first : long vs Plain < long vs Rle = omega (arith, c.if-plain-rle.true, c.requires.rle, c.block_len-plain.ensures.exact) in
    let other : long vs Plain < long vs BlockDict = omega (arith, none, c.min.ensures, c.if-plain-rle.true, c.block_len-plain.ensures.exact) in
    subst (λ (k : Codec). IfOk c.encode.result (λ b. b.items ≡ spelled_by k vs)) (sym (other_codec vs c.requires.dates ∙ auto_plain vs Rle (sym (no_numbers vs c.requires.numbers)) first other)) c.encode.ensures

pub returns-else-plain-rle : goal.returns-else-plain-rle
unfolding spelled_by
returns-else-plain-rle c =
    let vs = c.args.values.now in
    let none = rw c.in-None.is at c.in_ok-block.ensures.none in
    let first : long vs Rle ≤ long vs Plain = omega (arith, c.if-plain-rle.false, c.requires.rle, c.block_len-plain.ensures.exact) in
    let other : long vs Rle ≤ long vs BlockDict = omega (arith, none, c.min.ensures, c.if-plain-rle.false, c.requires.rle) in
    subst (λ (k : Codec). IfOk c.encode-else-plain-rle.result (λ b. b.items ≡ spelled_by k vs)) (sym (other_codec vs c.requires.dates ∙ auto_first vs Rle (sym (no_numbers vs c.requires.numbers)) first other)) c.encode-else-plain-rle.ensures
