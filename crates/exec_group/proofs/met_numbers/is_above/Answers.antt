use Rattle.std.proofs.Common.{rules}
use Rattle.exec_group.proofs.Rising.{above_all}
use Rattle.exec_group.proofs.met_numbers.is_above.Goals as goal

pub returns : goal.returns
returns c = λ t. above_all c.args.n c.args.numbers.now c.requires (λ some. search (rules, t, c.is_less_at.ensures.less))
