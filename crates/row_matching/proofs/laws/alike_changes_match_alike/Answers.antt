use Rattle.row_matching.proofs.Alike.{found_alike}
use Rattle.row_matching.proofs.laws.alike_changes_match_alike.Goals as goal

pub returns : goal.returns
returns c = found_alike
