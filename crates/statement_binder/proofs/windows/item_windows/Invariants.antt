use Rattle.std.proofs.Common.{◌≡◌, ◌++◌, map, drop}
use Rattle.std.specs.List.{flat_map}
use Rattle.sql_binding.specs.Trees.{bound_window, windows_in}
use Rattle.statement_binder.specs.Scopes.{scope_of}
use Rattle.statement_binder.proofs.windows.item_windows.Given as goal

abbrev pub invariant-loop-item : goal.invariant-loop-item
invariant-loop-item l =
    l.out.items ++ map (bound_window (scope_of l.scope)) (flat_map (λ i. windows_in i.tree) (drop l.item-index l.items)) ≡ map (bound_window (scope_of l.scope)) (flat_map (λ i. windows_in i.tree) l.items)
