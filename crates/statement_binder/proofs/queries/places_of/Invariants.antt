use Rattle.std.proofs.Common.{◌≡◌, map, take}
use Rattle.sql_binding.specs.Sight.{place_of}
use Rattle.statement_binder.proofs.queries.places_of.Given as goal

abbrev pub invariant-loop-column : goal.invariant-loop-column
invariant-loop-column l = l.out.items ≡ map (place_of l.seen l.last) (take l.column-index l.group)
