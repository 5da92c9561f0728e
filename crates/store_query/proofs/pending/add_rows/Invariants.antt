use Rattle.std.proofs.Common.{◌≡◌, ◌++◌, take}
use Rattle.std.specs.List.{All}
use Rattle.col_value.specs.Order.{IsRow}
use Rattle.store_query.proofs.pending.add_rows.Given as goal

abbrev pub invariant-loop-row : goal.invariant-loop-row
invariant-loop-row l = record {
  rows : l.out.items ≡ l.fn.out.items ++ take l.row-index l.rows;
  valid : All IsRow l.out.items;
}
