use Rattle.std.proofs.Common.{◌≡◌}
use Rattle.std.specs.List.{list_any}
use Rattle.wanted_rows.proofs.Counting.{is_counted}
use Rattle.wanted_rows.proofs.counts.has_epoch_between.Given as goal

abbrev pub invariant-loop-row : goal.invariant-loop-row
invariant-loop-row l = list_any (is_counted l.least l.greatest) l.row-iterator ≡ list_any (is_counted l.least l.greatest) l.counts.entries
