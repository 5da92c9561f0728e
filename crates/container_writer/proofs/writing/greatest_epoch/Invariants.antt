use Rattle.std.proofs.Common.{◌≤◌, take}
use Rattle.std.specs.List.{All}
use Rattle.container_writer.proofs.writing.greatest_epoch.Given as goal

abbrev pub invariant-loop-row : goal.invariant-loop-row
invariant-loop-row l = All (λ k. k.stamped.ins ≤ l.greatest) (take l.row-index l.rows)
