use Rattle.std.proofs.Common.{◌≡◌, ◌++◌}
use Rattle.row_history.specs.History.{visible}
use Rattle.proj_store.proofs.copies.visible_rows.Given as goal

abbrev pub invariant-loop-row : goal.invariant-loop-row
invariant-loop-row l = l.out.items ++ visible l.epoch l.row-iterator.rest.items ≡ visible l.epoch l.fn.rows.items
