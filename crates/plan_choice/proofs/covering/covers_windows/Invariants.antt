use Rattle.std.proofs.Common.{◌≡◌, drop}
use Rattle.std.specs.List.{list_all}
use Rattle.plan_choice.specs.Covering.{covers_window}
use Rattle.plan_choice.proofs.covering.covers_windows.Given as goal

abbrev pub invariant-loop-window : goal.invariant-loop-window
invariant-loop-window l = list_all (covers_window l.item l.columns) (drop l.window-index l.windows) ≡ list_all (covers_window l.item l.columns) l.windows
