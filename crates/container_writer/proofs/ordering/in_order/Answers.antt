use Rattle.std.proofs.Common.{rules}
use Rattle.std.proofs.lemmas.List.MinMax.{ranks_by}
use Rattle.std.proofs.lemmas.Fn.{always_returns_same}
use Rattle.std.specs.Ordering.{is_lt}
use Rattle.container_writer.specs.Ordered.{asked_of, container_cmp}
use Rattle.container_writer.proofs.Orders.{container_total}
use Rattle.container_writer.proofs.ordering.in_order.Goals as goal

pub returns-clause-ascending : goal.returns-clause-ascending
returns-clause-ascending c =
    c.in_ok-sort_by.ensures.sorted (λ x y. is_lt (container_cmp c.args.shape.now (asked_of x) (asked_of y))) (ranks_by (container_total c.args.shape.now) asked_of) (always_returns_same _ _ _ (λ a r g h. search rules))
