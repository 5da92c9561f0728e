use Rattle.std.proofs.Common.{◌≡◌, drop}
use Rattle.std.specs.Prelude.{◌==◌}
use Rattle.std.specs.List.{list_all, enumerate_from}
use Rattle.table_store.specs.Changing.{in_order}
use Rattle.table_store.proofs.part.in_order.Given as goal

abbrev pub invariant-loop-i : goal.invariant-loop-i
invariant-loop-i l = list_all (λ e. e.1.ordinal == e.0) (enumerate_from l.i (drop l.i l.columns)) ≡ in_order l.columns
