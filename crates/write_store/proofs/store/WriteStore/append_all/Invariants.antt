use Rattle.std.proofs.Common.{◌≡◌, ◌≤◌, ◌-◌, ◌++◌, length, map}
use Rattle.std.specs.List.{All}
use Rattle.col_value.specs.Order.{IsRow}
use Rattle.row_history.specs.History.{inserted_at}
use Rattle.write_store.proofs.store.WriteStore.append_all.Given as goal

abbrev pub invariant-loop-row : goal.invariant-loop-row
invariant-loop-row l = record {
  joined : l.self.rows ++ map (inserted_at l.ins) l.row-iterator.rest.items ≡ l.fn.self.rows ++ map (inserted_at l.ins) l.fn.rows.items;
  valid : All IsRow l.row-iterator.rest.items;
  room : length l.row-iterator.rest.items ≤ l.self.spare;
  spare : l.self.spare - length l.row-iterator.rest.items ≡ l.fn.self.spare - length l.fn.rows.items;
}
