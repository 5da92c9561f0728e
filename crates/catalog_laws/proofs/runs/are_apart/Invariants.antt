use Rattle.std.proofs.Common.{◌≤◌, map, take}
use Rattle.std.specs.List.{All}
use Rattle.catalog_types.specs.Lists.{Pairwise}
use Rattle.catalog_types.specs.Numbers.{AreApart}
use Rattle.catalog_laws.specs.Entries.{span_of_run}
use Rattle.catalog_laws.proofs.runs.are_apart.Given as goal

abbrev pub invariant-loop-run : goal.invariant-loop-run
invariant-loop-run l = Pairwise AreApart (map span_of_run (take l.run-index l.runs)) × All (λ s. s.end ≤ l.low) (map span_of_run (take l.run-index l.runs))
