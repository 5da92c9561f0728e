use Rattle.std.proofs.Common.{◌≡◌, ◌≤◌, take}
use Rattle.bag_difference.specs.Differences.{count_of}
use Rattle.bag_difference.proofs.walk.count_of.Given as goal

abbrev pub invariant-loop-each : goal.invariant-loop-each
invariant-loop-each l = record {
  counted : l.count ≡ count_of l.row (take l.each-index l.rows);
  small : l.count ≤ l.each-index;
}
