use Rattle.std.proofs.Common.{◌≡◌, take}
use Rattle.exec_group.specs.Columns.{taken_at}
use Rattle.exec_group.proofs.columns.take_each.Given as goal

abbrev pub invariant-loop-place : goal.invariant-loop-place
invariant-loop-place l = l.accumulator ≡ taken_at l.columns l.a (take l.place-index l.places) l.fn.accumulator
