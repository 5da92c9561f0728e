use Rattle.one_text.proofs.Lasting.{numbers_last}
use Rattle.one_text.proofs.laws.numbers_last.Goals as goal

pub returns : goal.returns
returns c = numbers_last
