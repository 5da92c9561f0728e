use Rattle.std.proofs.Common.{◌≡◌, filter, take}
use Rattle.std.specs.Prelude.{not}
use Rattle.store_core.specs.Waiting.{has_name}
use Rattle.store_core.proofs.store.mover.Mover.asked_beside.Given as goal

abbrev pub invariant-loop-name : goal.invariant-loop-name
invariant-loop-name l = l.out.items ≡ filter (λ n. not (has_name n l.projections)) (take l.name-index l.asked)
