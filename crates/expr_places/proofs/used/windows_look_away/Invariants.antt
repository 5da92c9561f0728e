use Rattle.std.proofs.Common.{◌≡◌, drop}
use Rattle.std.specs.List.{list_all}
use Rattle.expr_places.specs.Places.{is_other, window_looks_only}
use Rattle.expr_places.proofs.used.windows_look_away.Given as goal

abbrev pub invariant-loop-window : goal.invariant-loop-window
invariant-loop-window l = list_all (window_looks_only (is_other l.column)) (drop l.window-index l.windows) ≡ list_all (window_looks_only (is_other l.column)) l.windows
