use Rattle.std.proofs.Common.{◌≡◌, ◌++◌, drop, map}
use Rattle.std.specs.List.{All}
use Rattle.col_value.specs.Order.{IsRow}
use Rattle.row_matching.proofs.matching.Matched.rows.Given as goal

abbrev pub invariant-loop-asked : goal.invariant-loop-asked
invariant-loop-asked l = record {
  rows : l.out.items ++ map (λ a. a.row) (drop l.asked-index l.self.committed.items) ≡ map (λ a. a.row) l.self.committed.items;
  valid : All IsRow l.out.items;
}

abbrev pub invariant-loop-row : goal.invariant-loop-row
invariant-loop-row l = record {
  rows : l.out.items ++ drop l.row-index l.self.pending.items ≡ map (λ a. a.row) l.self.committed.items ++ l.self.pending.items;
  valid : All IsRow l.out.items;
}
