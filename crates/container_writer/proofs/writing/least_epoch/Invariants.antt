use Rattle.std.proofs.Common.{◌≤◌, take}
use Rattle.std.specs.List.{All}
use Rattle.container_writer.proofs.writing.least_epoch.Given as goal

abbrev pub invariant-loop-row : goal.invariant-loop-row
invariant-loop-row l = All (λ k. l.least ≤ k.stamped.ins) (take l.row-index l.rows)
