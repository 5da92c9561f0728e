use Rattle.std.proofs.Common.{length, map, subst, ap}
use Rattle.ros_container.specs.Rows.{AreWide}
use Rattle.container_writer.specs.Ordered.{asked_of}
use Rattle.container_writer.proofs.Orders.{still_wide, weaker_ok}
use Rattle.container_writer.proofs.ordering.ordered.Goals as goal

pub returns-clause-wide : goal.returns-clause-wide
returns-clause-wide c =
    weaker_ok _ _ c.in_order.result
    (λ v same.
    subst (λ n. AreWide n (map asked_of v.items)) (ap length c.as_slice-columns.ensures)
    (still_wide (length c.as_slice-columns.result.now) c.in_ok-with_ranks.field-0.items c.in_ok-near.near.items v.items c.in_ok-with_ranks.ensures.wide c.in_ok-near.ensures same)) c.in_order.ensures.same
