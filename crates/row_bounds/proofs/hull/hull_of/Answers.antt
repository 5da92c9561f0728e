use Rattle.row_bounds.proofs.Hulls.{in_hull}
use Rattle.row_bounds.proofs.hull.hull_of.Goals as goal

pub returns-clause-first : goal.returns-clause-first
returns-clause-first c = in_hull c.args.a c.args.a.column c.in_ok-least.least c.in_ok-greatest.greatest c.in_ok-least.ensures.first c.in_ok-greatest.ensures.first

pub returns-clause-second : goal.returns-clause-second
returns-clause-second c = in_hull c.args.b.now c.args.a.column c.in_ok-least.least c.in_ok-greatest.greatest c.in_ok-least.ensures.second c.in_ok-greatest.ensures.second
