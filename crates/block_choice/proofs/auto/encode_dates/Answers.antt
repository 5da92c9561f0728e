use Rattle.std.proofs.Common.{◌≡◌, ◌≤◌, ◌<◌, length, ap, sym, subst, ◌∙◌, arith}
use Rattle.std.specs.Prelude.{IfOk}
use Rattle.block_choice.specs.declared.codec.Codec.{Codec}
use Rattle.block_choice.specs.declared.codec.Codec.TheVariants.{Rle, BlockDict, Plain, DateDelta}
use Rattle.block_choice.specs.Codecs.{spelled_by}
use Rattle.block_choice.proofs.Shortest.{long, auto_dict, auto_plain, auto_first, auto_date, kept_four, date_firsts}
use Rattle.block_choice.proofs.auto.encode_dates.Goals as goal

pub returns-in-Some : goal.returns-in-Some
unfolding spelled_by
returns-in-Some c =
    let vs = c.args.values.now in
    let made = rw c.in-Some.is at c.in_ok-block.ensures.found in
    let same : length c.in-Some.block.items ≡ long vs BlockDict = ap length made.0 in
    let first : long vs BlockDict < long vs Rle = omega (arith, made.1, same, c.min.ensures, c.requires.rle) in
    let plain : long vs BlockDict ≤ long vs Plain = omega (arith, made.1, same, c.min.ensures, c.min-least.ensures, c.block_len-plain.ensures.exact) in
    let date : long vs BlockDict ≤ long vs DateDelta = omega (arith, made.1, same, c.min.ensures, c.min-least.ensures, c.date_block_len-date.ensures) in
    made.0 ∙ ap (λ (k : Codec). spelled_by k vs) (sym (kept_four vs BlockDict (auto_dict vs Rle (date_firsts vs c.requires.dates) first plain) date))

pub returns-then-date-most : goal.returns-then-date-most
unfolding spelled_by
returns-then-date-most c =
    let vs = c.args.values.now in
    let none = rw c.in-None.is at c.in_ok-block.ensures.none in
    let rle : long vs DateDelta < long vs Rle = omega (arith, c.if-date-most.true, c.min-most.ensures, c.date_block_len-date.ensures, c.requires.rle) in
    let plain : long vs DateDelta < long vs Plain = omega (arith, c.if-date-most.true, c.min-most.ensures, c.date_block_len-date.ensures, c.block_len-plain.ensures.exact) in
    let dict : long vs DateDelta < long vs BlockDict = omega (arith, none, c.min.ensures, c.min-least.ensures, c.if-date-most.true, c.min-most.ensures, c.date_block_len-date.ensures) in
    subst (λ (k : Codec). IfOk c.encode.result (λ b. b.items ≡ spelled_by k vs)) (sym (auto_date vs c.requires.dates rle dict plain)) c.encode.ensures

pub returns-then-plain-rle : goal.returns-then-plain-rle
unfolding spelled_by
returns-then-plain-rle c =
    let vs = c.args.values.now in
    let none = rw c.in-None.is at c.in_ok-block.ensures.none in
    let first : long vs Plain < long vs Rle = omega (arith, c.if-plain-rle.true, c.block_len-plain.ensures.exact, c.requires.rle) in
    let dict : long vs Plain < long vs BlockDict = omega (arith, none, c.min.ensures, c.min-least.ensures, c.if-date-most.false, c.min-most.ensures, c.if-plain-rle.true, c.block_len-plain.ensures.exact) in
    let date : long vs Plain ≤ long vs DateDelta = omega (arith, c.if-date-most.false, c.min-most.ensures, c.if-plain-rle.true, c.block_len-plain.ensures.exact, c.date_block_len-date.ensures) in
    subst (λ (k : Codec). IfOk c.encode-then-plain-rle.result (λ b. b.items ≡ spelled_by k vs)) (sym (kept_four vs Plain (auto_plain vs Rle (date_firsts vs c.requires.dates) first dict) date)) c.encode-then-plain-rle.ensures

pub returns-else-plain-rle : goal.returns-else-plain-rle
unfolding spelled_by
returns-else-plain-rle c =
    let vs = c.args.values.now in
    let none = rw c.in-None.is at c.in_ok-block.ensures.none in
    let plain : long vs Rle ≤ long vs Plain = omega (arith, c.if-plain-rle.false, c.block_len-plain.ensures.exact, c.requires.rle) in
    let dict : long vs Rle ≤ long vs BlockDict = omega (arith, none, c.min.ensures, c.min-least.ensures, c.if-date-most.false, c.min-most.ensures, c.if-plain-rle.false, c.requires.rle) in
    let date : long vs Rle ≤ long vs DateDelta = omega (arith, c.if-date-most.false, c.min-most.ensures, c.if-plain-rle.false, c.requires.rle, c.date_block_len-date.ensures) in
    subst (λ (k : Codec). IfOk c.encode-else-plain-rle.result (λ b. b.items ≡ spelled_by k vs)) (sym (kept_four vs Rle (auto_first vs Rle (date_firsts vs c.requires.dates) plain dict) date)) c.encode-else-plain-rle.ensures
