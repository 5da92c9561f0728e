use Rattle.word_laws.proofs.Unclosed.{unfinished_one, unfinished_last, unfinished_bad, unfinished_unknown}
use Rattle.word_laws.proofs.laws.an_unfinished_text_takes_the_rest.Goals as goal

pub returns : goal.returns
returns c = record { one = unfinished_one; last = unfinished_last; bad = unfinished_bad; unknown = unfinished_unknown }
