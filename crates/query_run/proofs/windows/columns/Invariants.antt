use Rattle.std.proofs.Common.{◌≡◌, map, take}
use Rattle.std.specs.Prelude.{zip}
use Rattle.std.specs.List.{All}
use Rattle.query_run.proofs.Columns.{Fits}
use Rattle.query_run.specs.Windows.{column_of}
use Rattle.query_run.proofs.windows.columns.Given as goal

abbrev pub invariant-loop-i : goal.invariant-loop-i
invariant-loop-i l = record {
  out : l.out.items ≡ map (column_of l.rows) (take l.i (zip l.query.windows l.query.aggs));
  fit : All (Fits l.rows) (take l.i (zip l.query.windows l.query.aggs));
}
