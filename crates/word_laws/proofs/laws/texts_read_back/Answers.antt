use Rattle.word_laws.proofs.Quoting.{reads_back, one_token, says_it, others_bad}
use Rattle.word_laws.proofs.laws.texts_read_back.Goals as goal

pub returns : goal.returns
returns c = record { bytes = reads_back; token = one_token; says = says_it; other = others_bad }
