use Rattle.std.proofs.Common.{length, take, ◌-◌, ◌≤◌}
use Rattle.common_laws.specs.Told.{Appends}
use Rattle.col_io.proofs.writing.write_all.Given as goal

abbrev pub invariant-loop-at : goal.invariant-loop-at
invariant-loop-at g l = record {
  within : l.at ≤ length l.piece;
  so_far : Appends (g.S.Sink.taken l.fn.out) (g.S.Sink.taken l.out) (take l.at l.piece);
  count : g.S.Sink.faults l.fn.out ≤ g.S.Sink.faults l.out;
}

abbrev pub decreases-loop-at : goal.decreases-loop-at
decreases-loop-at g l = length l.piece - l.at
