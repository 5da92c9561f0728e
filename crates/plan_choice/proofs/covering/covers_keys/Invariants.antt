use Rattle.std.proofs.Common.{◌≡◌, drop}
use Rattle.std.specs.List.{list_all}
use Rattle.plan_choice.specs.Covering.{covers_column}
use Rattle.plan_choice.proofs.covering.covers_keys.Given as goal

abbrev pub invariant-loop-key : goal.invariant-loop-key
invariant-loop-key l = list_all (covers_column l.item l.columns) (drop l.key-index l.keys) ≡ list_all (covers_column l.item l.columns) l.keys
