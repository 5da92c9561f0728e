use Rattle.query_cover.proofs.Placed.{shows_same}
use Rattle.query_cover.proofs.laws.a_projection_shows_the_table.Goals as goal

pub returns : goal.returns
returns c = shows_same
