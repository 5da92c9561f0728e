use Rattle.std.proofs.Common.{◌≡◌, ◌++◌, drop, filter}
use Rattle.std.specs.List.{All}
use Rattle.col_value.specs.Order.{IsRow}
use Rattle.sql_bound.specs.Outputs.{is_kept}
use Rattle.row_matching.proofs.keeping.kept_rows.Given as goal

abbrev pub invariant-loop-row : goal.invariant-loop-row
invariant-loop-row l = record {
  kept : l.out.items ++ filter (is_kept l.keep) (drop l.row-index l.rows) ≡ filter (is_kept l.keep) l.rows;
  valid : All IsRow l.out.items;
}
