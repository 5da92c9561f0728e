use Rattle.std.proofs.Common.{◌≡◌, ◌++◌, take}
use Rattle.std.specs.List.{All}
use Rattle.col_value.specs.Order.{IsValue}
use Rattle.query_cover.specs.Seen.{placed}
use Rattle.exec_scan.proofs.batch.put_row.Given as goal

abbrev pub invariant-loop-place : goal.invariant-loop-place
invariant-loop-place l = record {
  put : l.values.items ≡ l.fn.values.items ++ placed (take l.place-index l.places) l.row;
  valid : All IsValue l.values.items;
}
