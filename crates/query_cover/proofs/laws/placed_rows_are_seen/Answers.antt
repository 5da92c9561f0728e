use Rattle.query_cover.proofs.Placed.{placed_seen}
use Rattle.query_cover.proofs.laws.placed_rows_are_seen.Goals as goal

pub returns : goal.returns
returns c = placed_seen
