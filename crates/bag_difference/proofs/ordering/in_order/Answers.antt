use Rattle.std.proofs.Common.{rules}
use Rattle.std.proofs.lemmas.List.MinMax.{ranks_by}
use Rattle.std.proofs.lemmas.Fn.{always_returns_same}
use Rattle.std.specs.Ordering.{is_lt}
use Rattle.bag_difference.specs.Differences.{stamped_cmp}
use Rattle.bag_difference.specs.Walks.{stamped_of}
use Rattle.bag_difference.proofs.Orders.{stamped_total}
use Rattle.bag_difference.proofs.ordering.in_order.Goals as goal

pub returns-clause-ascending : goal.returns-clause-ascending
returns-clause-ascending c =
    c.in_ok-sort_by.ensures.sorted (λ x y. is_lt (stamped_cmp (stamped_of x) (stamped_of y))) (ranks_by stamped_total stamped_of) (always_returns_same _ _ _ (λ a r g h. search rules))
