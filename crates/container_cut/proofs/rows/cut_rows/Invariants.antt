use Rattle.std.proofs.Common.{◌≡◌, ◌++◌}
use Rattle.row_history.specs.History.{cut_rows}
use Rattle.container_cut.proofs.rows.cut_rows.Given as goal

abbrev pub invariant-loop-row : goal.invariant-loop-row
invariant-loop-row l = l.out.items ++ cut_rows l.epoch l.row-iterator.rest.items ≡ cut_rows l.epoch l.fn.rows.items
