use Rattle.std.proofs.Common.{◌≡◌, map}
use Rattle.std.specs.List.{range_with_len}
use Rattle.exec_scan.specs.Batches.{is_shown}
use Rattle.exec_scan.proofs.shown.shown_rows.Given as goal

abbrev pub invariant-loop-i : goal.invariant-loop-i
invariant-loop-i l = l.shown.items ≡ map (is_shown l.epoch l.inserted l.deletes l.first) (range_with_len 0 l.i)
