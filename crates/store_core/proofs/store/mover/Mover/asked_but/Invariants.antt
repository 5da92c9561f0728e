use Rattle.std.proofs.Common.{◌≡◌, filter, take}
use Rattle.db_model.specs.Events.{is_not_named}
use Rattle.store_core.proofs.store.mover.Mover.asked_but.Given as goal

abbrev pub invariant-loop-other : goal.invariant-loop-other
invariant-loop-other l = l.out.items ≡ filter (is_not_named l.name) (take l.other-index l.asked)
