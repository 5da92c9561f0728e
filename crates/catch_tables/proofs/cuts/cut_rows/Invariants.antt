use Rattle.std.proofs.Common.{◌≡◌, take}
use Rattle.row_history.specs.History.{cut_rows}
use Rattle.catch_tables.proofs.cuts.cut_rows.Given as goal

abbrev pub invariant-loop-row : goal.invariant-loop-row
invariant-loop-row l = l.out.items ≡ cut_rows l.epoch (take l.row-index l.rows)
