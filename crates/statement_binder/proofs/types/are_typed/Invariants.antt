use Rattle.std.proofs.Common.{◌≡◌, drop}
use Rattle.std.specs.List.{list_all}
use Rattle.sql_binding.specs.Queries.{is_typed}
use Rattle.statement_binder.proofs.types.are_typed.Given as goal

abbrev pub invariant-loop-item : goal.invariant-loop-item
invariant-loop-item l = list_all (is_typed l.places) (drop l.item-index l.items) ≡ list_all (is_typed l.places) l.items
