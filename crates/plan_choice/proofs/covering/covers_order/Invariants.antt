use Rattle.std.proofs.Common.{◌≡◌, drop}
use Rattle.std.specs.List.{list_all}
use Rattle.plan_choice.specs.Covering.{covers_column}
use Rattle.plan_choice.proofs.covering.covers_order.Given as goal

abbrev pub invariant-loop-column : goal.invariant-loop-column
invariant-loop-column l = list_all (λ k. covers_column l.item l.columns k.0) (drop l.column-index l.order) ≡ list_all (λ k. covers_column l.item l.columns k.0) l.order
