use Rattle.std.proofs.Common.{◌≡◌, map, take}
use Rattle.std.specs.List.{flat_map}
use Rattle.catalog_laws.specs.Entries.{drawn_of, span_of_run}
use Rattle.catalog_laws.proofs.runs.drawn.Given as goal

abbrev pub invariant-loop-k : goal.invariant-loop-k
invariant-loop-k l = map span_of_run l.out.items ≡ flat_map (drawn_of l.first) (take l.k-index l.containers)
