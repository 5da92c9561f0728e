use Rattle.std.proofs.Common.{take}
use Rattle.std.specs.List.{AllZip}
use Rattle.catch_tables.specs.Keyed.{AreChangesOf}
use Rattle.catch_tables.proofs.ordered.order_all.Given as goal

abbrev pub invariant-loop-told : goal.invariant-loop-told
invariant-loop-told l = AllZip (AreChangesOf l.after) (take l.told-index l.tables) l.out.items
