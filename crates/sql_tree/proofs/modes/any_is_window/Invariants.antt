use Rattle.std.proofs.Common.{◌≡◌, drop}
use Rattle.std.specs.List.{list_any}
use Rattle.sql_tree.specs.Modes.{is_window}
use Rattle.sql_tree.proofs.modes.any_is_window.Given as goal

abbrev pub invariant-loop-item : goal.invariant-loop-item
invariant-loop-item l = list_any is_window (drop l.item-index l.items) ≡ list_any is_window l.items
