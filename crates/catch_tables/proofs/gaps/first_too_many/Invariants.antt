use Rattle.std.proofs.Common.{not}
use Rattle.std.specs.List.{list_any}
use Rattle.catch_model.specs.Refused.{NoEpoch}
use Rattle.catch_tables.specs.Keyed.{has_change_in, has_more_in}
use Rattle.catch_tables.proofs.gaps.first_too_many.Given as goal

abbrev pub invariant-loop-closed : goal.invariant-loop-closed
invariant-loop-closed l = NoEpoch (λ k. list_any (has_more_in k) l.tables) l.after l.closed
