use Rattle.std.proofs.Common.{◌≡◌, ◌++◌, drop}
use Rattle.name_binder.specs.Tables.{tables_found}
use Rattle.name_binder.proofs.sources.tables_found.Given as goal

abbrev pub invariant-loop-item : goal.invariant-loop-item
invariant-loop-item l = l.out.items ++ tables_found (drop l.item-index l.found) ≡ tables_found l.found
