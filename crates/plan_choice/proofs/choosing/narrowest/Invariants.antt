use Rattle.std.proofs.Common.{◌≡◌, ◌<◌, drop, length}
use Rattle.std.specs.Prelude.{Option, None, IfSome, option_and_then}
use Rattle.std.specs.List.{slice_get}
use Rattle.plan_choice.specs.Choosing.{is_candidate, best_from}
use Rattle.plan_choice.proofs.choosing.narrowest.Given as goal

abbrev pub invariant-loop-i : goal.invariant-loop-i
invariant-loop-i l = record {
  best : best_from (is_candidate l.q l.item l.well) (option_and_then (slice_get l.projections) l.best) (drop l.i l.projections) ≡ best_from (is_candidate l.q l.item l.well) None l.projections;
  within : IfSome l.best (λ k. k < length l.projections);
}
