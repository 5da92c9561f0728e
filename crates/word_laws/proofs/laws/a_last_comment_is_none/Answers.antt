use Rattle.word_laws.proofs.Cuts.{last_comment}
use Rattle.word_laws.proofs.laws.a_last_comment_is_none.Goals as goal

pub returns : goal.returns
returns c = last_comment
