use Rattle.exec_scan.proofs.There.{stored_indexes}
use Rattle.exec_scan.proofs.laws.stored_rows_have_indexes.Goals as goal

pub returns : goal.returns
returns c = λ m p rows places stores own defaults. stored_indexes m p rows places stores own defaults
