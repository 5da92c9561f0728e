use Rattle.std.proofs.Common.{◌≡◌, ◌++◌, drop, filter, not}
use Rattle.std.specs.List.{All}
use Rattle.col_value.specs.Order.{IsRow}
use Rattle.sql_bound.specs.Outputs.{is_kept}
use Rattle.row_matching.proofs.keeping.other_rows.Given as goal

abbrev pub invariant-loop-row : goal.invariant-loop-row
invariant-loop-row l = record {
  kept : l.out.items ++ filter (λ row. not (is_kept l.keep row)) (drop l.row-index l.rows) ≡ filter (λ row. not (is_kept l.keep row)) l.rows;
  valid : All IsRow l.out.items;
}
