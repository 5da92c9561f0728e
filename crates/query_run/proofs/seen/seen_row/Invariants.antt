use Rattle.std.proofs.Common.{◌≡◌, ◌++◌, drop}
use Rattle.sql_bound.specs.Used.{blanked, is_used}
use Rattle.query_run.proofs.seen.seen_row.Given as goal

abbrev pub invariant-loop-column : goal.invariant-loop-column
invariant-loop-column l = l.out.items ++ blanked (is_used l.query) l.column (drop l.column l.tuple) ≡ blanked (is_used l.query) 0 l.tuple
