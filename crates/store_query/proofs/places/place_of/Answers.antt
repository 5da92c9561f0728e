use Rattle.std.proofs.Common.{rules}
use Rattle.store_query.proofs.Putting.{place_first}
use Rattle.store_query.proofs.places.place_of.Goals as goal

pub returns : goal.returns
returns c = place_first c.args.query.now c.args.first c.args.columns.now c.args.c c.place_in.result (c.may_be_used.ensures.only (search rules)) c.place_in.ensures
