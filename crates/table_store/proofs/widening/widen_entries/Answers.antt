use Rattle.table_store.specs.Widening.{wide_entry}
use Rattle.table_store.proofs.Wider.{changed_next}
use Rattle.table_store.proofs.widening.widen_entries.Goals as goal

pub loop-entry-preserved : goal.loop-entry-preserved
loop-entry-preserved c =
    changed_next (wide_entry c.args.columns.now c.args.default.now) c.args.entries.now c.loop-entry.entries c.loop-entry.entry-index c.entry-item.result c.widen_entry.new.entry
    c.loop-entry-test.true c.loop-entry.invariant c.in_ok-widen_entry.ensures
