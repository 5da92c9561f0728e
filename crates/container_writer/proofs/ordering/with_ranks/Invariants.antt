use Rattle.std.proofs.Common.{◌≡◌, ◌++◌, map}
use Rattle.ros_container.specs.Rows.{AreWide}
use Rattle.container_writer.specs.Ordered.{asked_of, restamp, stamped_of}
use Rattle.container_writer.proofs.ordering.with_ranks.Given as goal

abbrev pub invariant-loop-stamped : goal.invariant-loop-stamped
invariant-loop-stamped l = record {
  same : map restamp l.out.items ++ map stamped_of l.stamped-iterator.rest.items ≡ map stamped_of l.fn.rows.items;
  wide : AreWide l.columns (map asked_of l.out.items);
}
