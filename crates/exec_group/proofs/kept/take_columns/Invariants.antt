use Rattle.std.proofs.Common.{◌≡◌, ◌≤◌, ◌-◌, length, take}
use Rattle.exec_group.specs.Accumulators.{argument_in}
use Rattle.exec_group.specs.Columns.{put_each, row_of}
use Rattle.exec_group.proofs.kept.take_columns.Given as goal

abbrev pub invariant-loop-at : goal.invariant-loop-at
invariant-loop-at l = record {
  within : l.at ≤ length l.places;
  taken : l.list.items ≡ put_each (λ p. argument_in l.a.arg (row_of l.columns p)) (take l.at l.groups) (take l.at l.places) l.fn.list.items;
}

abbrev pub decreases-loop-at : goal.decreases-loop-at
decreases-loop-at l = length l.places - l.at
