use Rattle.std.proofs.Common.{◌≡◌, ◌++◌, drop}
use Rattle.std.specs.List.{flat_map, enumerate_from}
use Rattle.statement_binder.specs.Scopes.{scope_of, joined_members}
use Rattle.statement_binder.proofs.keep.push_joins.Given as goal

abbrev pub invariant-loop-i : goal.invariant-loop-i
invariant-loop-i l =
    l.out.items ++ flat_map (joined_members (scope_of l.scope)) (enumerate_from l.i (drop l.i l.sources))
    ≡ l.fn.out.items ++ flat_map (joined_members (scope_of l.scope)) (enumerate_from 0 l.sources)
