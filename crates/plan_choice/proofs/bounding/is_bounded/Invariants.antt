use Rattle.std.proofs.Common.{◌≡◌, drop}
use Rattle.std.specs.List.{list_any}
use Rattle.plan_choice.specs.Bounding.{bounds_column}
use Rattle.plan_choice.proofs.bounding.is_bounded.Given as goal

abbrev pub invariant-loop-e : goal.invariant-loop-e
invariant-loop-e l = list_any (bounds_column l.item l.c) (drop l.e-index l.q.keep) ≡ list_any (bounds_column l.item l.c) l.q.keep
