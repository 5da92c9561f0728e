use Rattle.bag_difference.specs.Differences.{IsLeastDifference}
use Rattle.store_audit.proofs.Compared.{at_some}
use Rattle.store_audit.proofs.comparing.compared.Goals as goal

pub returns-in_ok-differ-in-Some-clause-differ : goal.returns-in_ok-differ-in-Some-clause-differ
returns-in_ok-differ-in-Some-clause-differ c =
    let xs = c.args.rows.0.items in
    let ys = c.args.rows.1.items in
    c.in_ok-differ-in-Some.ensures xs ys
    (at_some (λ d. IsLeastDifference xs ys d.row d.first d.second) c.in_ok-least_difference.field-0 c.in-Some.found c.in-Some.is c.in_ok-least_difference.ensures.differ)
