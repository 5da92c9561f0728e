use Rattle.db_laws.proofs.Cuts.{like_itself, like_back, like_on}
use Rattle.db_laws.proofs.laws.alike_from_the_mark.Goals as goal

pub returns : goal.returns
returns c = record { itself = like_itself; other_way = like_back; chained = like_on }
