use Rattle.std.proofs.Common.{◌≡◌, map, take}
use Rattle.sql_binding.specs.Projections.{name_at, place_or_0}
use Rattle.change_binder.proofs.shapes.sort_places.Given as goal

abbrev pub invariant-loop-name : goal.invariant-loop-name
invariant-loop-name l = l.out.items ≡ map (λ n. place_or_0 (name_at l.names n)) (take l.name-index l.sort)
