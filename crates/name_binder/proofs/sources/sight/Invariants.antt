use Rattle.std.proofs.Common.{◌≡◌, ◌++◌, drop}
use Rattle.name_binder.proofs.Sights.{sight_from}
use Rattle.name_binder.proofs.sources.sight.Given as goal

abbrev pub invariant-loop-i : goal.invariant-loop-i
invariant-loop-i l = l.out.items ++ sight_from l.i (drop l.i l.sources) (drop l.i l.tables) ≡ sight_from 0 l.sources l.tables
