use Rattle.word_laws.proofs.Cuts.{blanks_between, blanks_first, blanks_last}
use Rattle.word_laws.proofs.laws.blanks_are_none.Goals as goal

pub returns : goal.returns
returns c = record { between = blanks_between; before = blanks_first; behind = blanks_last }
