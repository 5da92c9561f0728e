use Rattle.std.proofs.Common.{◌≡◌, drop}
use Rattle.std.specs.List.{list_any}
use Rattle.std.specs.Prelude.{is_none}
use Rattle.sql_binding.specs.Projections.{name_at}
use Rattle.change_binder.proofs.shapes.any_lacks.Given as goal

abbrev pub invariant-loop-name : goal.invariant-loop-name
invariant-loop-name l = list_any (λ n. is_none (name_at l.names n)) (drop l.name-index l.sort) ≡ list_any (λ n. is_none (name_at l.names n)) l.sort
