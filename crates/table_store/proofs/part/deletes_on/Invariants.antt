use Rattle.std.proofs.Common.{◌≡◌, take, map}
use Rattle.row_history.specs.History.{asked_on}
use Rattle.folder_model.specs.Projections.{ordinals}
use Rattle.table_store.proofs.part.deletes_on.Given as goal

abbrev pub invariant-loop-asked : goal.invariant-loop-asked
invariant-loop-asked l = l.out.items ≡ map (asked_on (ordinals l.entry)) (take l.asked-index l.deletes)
