use Rattle.std.proofs.Common.{◌≡◌, ◌++◌, length}
use Rattle.ros_container.specs.Parts.{with_values}
use Rattle.ros_container.proofs.transpose.with_values.Given as goal

abbrev pub invariant-loop-asked : goal.invariant-loop-asked
invariant-loop-asked l = record {
  made : l.out.items ++ with_values l.asked-iterator.a.rest.items l.asked-iterator.b.rest.items ≡ with_values l.fn.rows.items l.fn.values.items;
  long : length l.asked-iterator.a.rest.items ≡ length l.asked-iterator.b.rest.items;
}
