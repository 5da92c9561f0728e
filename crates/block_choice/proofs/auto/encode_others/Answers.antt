use Rattle.std.proofs.Common.{◌≡◌, ◌≤◌, ◌+◌, length, sym, subst, arith}
use Rattle.std.specs.Prelude.{IfOk}
use Rattle.block_choice.specs.declared.codec.Codec.{Codec}
use Rattle.block_choice.specs.declared.codec.Codec.TheVariants.{Rle}
use Rattle.block_choice.specs.Codecs.{spelled_by}
use Rattle.block_choice.proofs.Shortest.{long, auto_rle}
use Rattle.block_choice.proofs.auto.encode_others.Goals as goal

pub returns-then-rle-values : goal.returns-then-rle-values
unfolding spelled_by
returns-then-rle-values c =
    let vs = c.args.values.now in
    let few : long vs Rle ≤ length vs + 2 = omega (arith, c.block_len-rle.ensures, c.if-rle-values.true) in
    subst (λ (k : Codec). IfOk c.encode.result (λ b. b.items ≡ spelled_by k vs)) (sym (auto_rle vs few)) c.encode.ensures
