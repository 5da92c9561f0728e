use Rattle.std.proofs.Common.{rules}
use Rattle.bag_difference.specs.Walks.{rows_of}
use Rattle.bag_difference.proofs.Walks.{least_of}
use Rattle.bag_difference.proofs.difference.least_difference.Goals as goal

pub returns-clause-differ : goal.returns-clause-differ
returns-clause-differ c =
    least_of c.args.xs.items c.args.ys.items (rows_of c.in_ok-first.first.items) (rows_of c.in_ok-second.second.items)
    (search rules) (search rules) (search rules) (search rules)
    c.in-Some.row.now _ _ _ (search rules) (search rules) (search rules) (search rules)
