use Rattle.std.proofs.Common.{◌≡◌, ◌++◌, take}
use Rattle.std.specs.List.{All}
use Rattle.col_value.specs.Order.{IsRow}
use Rattle.store_query.proofs.gathering.add_batch.Given as goal

abbrev pub invariant-loop-i : goal.invariant-loop-i
invariant-loop-i l = record {
  rows : l.out.items ≡ l.fn.out.items ++ take l.i l.batch.rows;
  valid : All IsRow l.out.items;
}
