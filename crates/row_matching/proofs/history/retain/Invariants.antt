use Rattle.std.proofs.Common.{[], take}
use Rattle.std.specs.List.{All}
use Rattle.col_value.specs.Order.{IsRow}
use Rattle.row_matching.specs.Keeping.{history, KeepsAll}
use Rattle.row_matching.proofs.history.retain.Given as goal

abbrev pub invariant-loop-row : goal.invariant-loop-row
invariant-loop-row l = record {
  valid : All (λ s. IsRow s.row) l.out.items;
  kept : KeepsAll (history l.mark l.places (take l.row-index l.stored)) [] l.out.items;
}
