use Rattle.std.proofs.Common.{rules, true, ◌≡◌}
use Rattle.run_words.specs.Words.{is_plain}
use Rattle.run_words.proofs.Digits.{not_read}
use Rattle.run_words.proofs.numbers.number_in.Goals as goal

pub returns-in-Err-clause-value : goal.returns-in-Err-clause-value
returns-in-Err-clause-value c =
    let plain : is_plain c.args.word.now ≡ true = search rules in
    not_read c.in-Err.field-0 c.args.least c.args.most c.args.word.now plain (search rules) c.in-Err.ensures.value.0
