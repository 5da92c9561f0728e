use Rattle.del_vector.proofs.Reading.{one_spelling}
use Rattle.del_vector.proofs.laws.one_vector.Goals as goal

pub returns : goal.returns
returns c = one_spelling
