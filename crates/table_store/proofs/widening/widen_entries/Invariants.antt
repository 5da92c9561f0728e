use Rattle.std.proofs.Common.{◌≡◌, ◌++◌, map, take, drop}
use Rattle.table_store.specs.Widening.{wide_entry}
use Rattle.table_store.proofs.widening.widen_entries.Given as goal

abbrev pub invariant-loop-entry : goal.invariant-loop-entry
invariant-loop-entry l = l.entries ≡ map (wide_entry l.columns l.default) (take l.entry-index l.fn.entries) ++ drop l.entry-index l.fn.entries
