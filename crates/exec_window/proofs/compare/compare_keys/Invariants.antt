use Rattle.std.proofs.Common.{◌≡◌, drop}
use Rattle.sql_bound.specs.Outputs.{window_cmp}
use Rattle.exec_window.proofs.compare.compare_keys.Given as goal

abbrev pub invariant-loop-column : goal.invariant-loop-column
invariant-loop-column l = window_cmp (drop l.column-index l.order) l.a l.b ≡ window_cmp l.order l.a l.b
