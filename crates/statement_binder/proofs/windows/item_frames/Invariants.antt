use Rattle.std.proofs.Common.{◌≡◌, ◌++◌, map, drop}
use Rattle.std.specs.List.{flat_map}
use Rattle.sql_binding.specs.Trees.{window_aggregate, windows_in}
use Rattle.statement_binder.specs.Scopes.{scope_of}
use Rattle.statement_binder.proofs.windows.item_frames.Given as goal

abbrev pub invariant-loop-item : goal.invariant-loop-item
invariant-loop-item l =
    l.out.items ++ map (window_aggregate (scope_of l.scope)) (flat_map (λ i. windows_in i.tree) (drop l.item-index l.items)) ≡ map (window_aggregate (scope_of l.scope)) (flat_map (λ i. windows_in i.tree) l.items)
