use Rattle.col_value.proofs.Calendar.{known_first, known_1970, known_last}
use Rattle.col_value.proofs.Characters.{one_text, says_or_not}
use Rattle.col_value.proofs.laws.days_are_known.Goals as goal

pub returns-clause-first : goal.returns-clause-first
returns-clause-first c = known_first

pub returns-clause-epoch : goal.returns-clause-epoch
returns-clause-epoch c = known_1970

pub returns-clause-last : goal.returns-clause-last
returns-clause-last c = known_last

pub returns-clause-one_text : goal.returns-clause-one_text
returns-clause-one_text c = one_text

pub returns-clause-decided : goal.returns-clause-decided
returns-clause-decided c = says_or_not
