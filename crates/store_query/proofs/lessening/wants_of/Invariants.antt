use Rattle.std.proofs.Common.{◌≡◌, map, take}
use Rattle.store_query.specs.Lessening.{asked, cleared}
use Rattle.store_query.proofs.lessening.wants_of.Given as goal

abbrev pub invariant-loop-delete : goal.invariant-loop-delete
invariant-loop-delete l = l.gone.items ≡ map (λ a. asked (cleared l.places a.row)) (take l.delete-index l.deletes)
