use Rattle.std.proofs.Common.{rules, w64}
use Rattle.std.proofs.lemmas.Int.{to_z-of_z}
use Rattle.block_codec.specs.Held.{number_value}
use Rattle.enc_dict.proofs.Steps.{add_there, add_new}
use Rattle.enc_dict.proofs.numbers.add_word.Goals as goal

pub returns-then-is_word : goal.returns-then-is_word
returns-then-is_word c =
    add_there number_value c.args.words.now.items c.as_slice.result.now c.as_slice-2.result.now (number_value c.args.n.now) c.place-at.result c.is_word.result c.as_slice.ensures.value c.as_slice-2.ensures.value c.place-at.ensures.exact c.is_word.ensures c.if-is_word.true

pub returns : goal.returns
returns c =
    add_new number_value c.args.words.now.items c.as_slice.result.now c.as_slice-2.result.now c.insert.new.self.items c.args.n.now c.place-at.result c.is_word.result c.as_slice.ensures.value c.as_slice-2.ensures.value c.place-at.ensures.exact c.is_word.ensures c.if-is_word.false
    (rw (to_z-of_z w64 c.args.n.now (search rules)) at c.in_ok-insert.ensures.items)
