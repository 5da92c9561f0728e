use Rattle.std.proofs.Common.{◌≡◌, map, take}
use Rattle.std.specs.List.{slice_index_or}
use Rattle.sql_bound.specs.declared.expr.Kind.{Kind}
use Rattle.statement_binder.proofs.kinds.key_kinds.Given as goal

abbrev pub invariant-loop-key : goal.invariant-loop-key
invariant-loop-key l = l.out.items ≡ map (λ k. slice_index_or l.columns k Kind.Null) (take l.key-index l.keys)
