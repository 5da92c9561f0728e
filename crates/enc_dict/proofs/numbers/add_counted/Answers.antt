use Rattle.std.proofs.Common.{arith, rules, w64}
use Rattle.std.proofs.lemmas.Int.{to_z-of_z}
use Rattle.block_codec.specs.Held.{number_value}
use Rattle.enc_dict.proofs.Weights.{added, not_added}
use Rattle.enc_dict.proofs.numbers.add_counted.Goals as goal

pub returns-then-len-before-clause-bytes : goal.returns-then-len-before-clause-bytes
returns-then-len-before-clause-bytes c =
    added number_value c.args.words.now.items c.add_word.new.words.items (number_value c.args.n.now) c.number_len.result c.len-before.result c.len.result (rw (to_z-of_z w64 c.args.n.now (search rules)) at c.number_len.ensures.exact) (search rules) (search rules) c.in_ok-add_word.ensures (omega arith)

pub returns-else-len-before-clause-bytes : goal.returns-else-len-before-clause-bytes
returns-else-len-before-clause-bytes c =
    not_added number_value c.args.words.now.items c.add_word.new.words.items (number_value c.args.n.now) c.len-before.result c.len.result (search rules) (search rules) c.in_ok-add_word.ensures (omega arith)
