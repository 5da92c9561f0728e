use Rattle.std.proofs.Common.{◌≡◌, drop}
use Rattle.std.specs.List.{list_any}
use Rattle.catch_tables.specs.Keyed.{has_more_in}
use Rattle.catch_tables.proofs.gaps.has_too_many.Given as goal

abbrev pub invariant-loop-table : goal.invariant-loop-table
invariant-loop-table l = list_any (has_more_in l.epoch) (drop l.table-index l.tables) ≡ list_any (has_more_in l.epoch) l.tables
