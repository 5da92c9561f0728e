use Rattle.std.proofs.Common.{◌≡◌, take, map}
use Rattle.col_value.specs.Order.{projected}
use Rattle.folder_model.specs.Projections.{ordinals}
use Rattle.table_store.proofs.part.rows_on.Given as goal

abbrev pub invariant-loop-row : goal.invariant-loop-row
invariant-loop-row l = l.out.items ≡ map (λ row. projected row (ordinals l.entry)) (take l.row-index l.rows)
