use Rattle.std.proofs.Common.{◌≡◌, drop, map}
use Rattle.std.specs.List.{list_any}
use Rattle.row_history.specs.History.{is_retained}
use Rattle.write_store.specs.Memory.{stamp}
use Rattle.exec_scan.proofs.retained.memory_keeps.Given as goal

abbrev pub invariant-loop-row : goal.invariant-loop-row
invariant-loop-row l = list_any (is_retained l.mark) (map stamp (drop l.row-index l.rows)) ≡ list_any (is_retained l.mark) (map stamp l.rows)
