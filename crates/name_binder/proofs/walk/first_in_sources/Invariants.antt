use Rattle.std.proofs.Common.{◌≡◌, drop}
use Rattle.std.specs.List.{enumerate_from}
use Rattle.sql_binding.specs.Firsts.{first_given}
use Rattle.sql_binding.specs.Search.{first_in_source}
use Rattle.name_binder.specs.Looks.{looks}
use Rattle.name_binder.proofs.walk.first_in_sources.Given as goal

abbrev pub invariant-loop-i : goal.invariant-loop-i
invariant-loop-i l = first_given (first_in_source (looks l.look)) (enumerate_from l.i (drop l.i l.sources)) ≡ first_given (first_in_source (looks l.look)) (enumerate_from 0 l.sources)
