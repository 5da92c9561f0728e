use Rattle.std.proofs.Common.{◌≡◌, map, take}
use Rattle.statement_plan.specs.Querying.{found_of}
use Rattle.statement_plan.proofs.querying.tables_of.Given as goal

abbrev pub invariant-loop-source : goal.invariant-loop-source
invariant-loop-source l = l.found.items ≡ map (found_of l.frame) (take l.source-index l.sources)
