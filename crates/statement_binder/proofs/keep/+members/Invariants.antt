use Rattle.std.proofs.Common.{◌≡◌, ◌++◌, take}
use Rattle.std.specs.List.{flat_map}
use Rattle.sql_binding.specs.Conjuncts.{members}
use Rattle.statement_binder.specs.Scopes.{scope_of}
use Rattle.statement_binder.proofs.keep.+members.Given as goal

abbrev pub invariant-push_each-loop-tree : goal.invariant-push_each-loop-tree
invariant-push_each-loop-tree l = l.out.items ≡ l.fn.out.items ++ flat_map (members (scope_of l.scope)) (take l.tree-index l.trees)
