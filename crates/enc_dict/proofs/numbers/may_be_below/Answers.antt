use Rattle.std.proofs.Common.{◌≡◌, ◌≤◌, ◌+◌, length, map, refl, arith}
use Rattle.std.specs.Prelude.{IfOk}
use Rattle.std.proofs.lemmas.List.{length-map}
use Rattle.block_codec.specs.Held.{number_value}
use Rattle.enc_dict.specs.Dict.{dict}
use Rattle.enc_dict.proofs.Lane.{told_more}
use Rattle.enc_dict.proofs.Weights.{dict_least}
use Rattle.enc_dict.proofs.numbers.may_be_below.Goals as goal

pub returns-then-limit-least : goal.returns-then-limit-least
returns-then-limit-least c _ = omega (arith, dict_least (map number_value c.args.numbers.now), length-map c.args.numbers.now number_value, c.if-limit-least.true)

pub returns : goal.returns
returns c = told_more c.args.numbers.now c.args.limit (length c.args.numbers.now + 3) refl (omega (arith, c.if-limit-least.false)) c.are_within.result c.are_within.ensures
