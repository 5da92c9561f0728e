use Rattle.std.proofs.Common.{◌≡◌, take}
use Rattle.ros_container.specs.Rows.{epoch_values, AreRows, AreWide, AreWithin}
use Rattle.ros_container.proofs.transpose.blank_rows.Given as goal

abbrev pub invariant-loop-value : goal.invariant-loop-value
invariant-loop-value l = record {
  epochs : epoch_values l.out.items ≡ take l.value-index l.epochs;
  wide : AreWide 0 l.out.items;
  values : AreRows l.out.items;
  within : AreWithin l.entry l.out.items;
}
