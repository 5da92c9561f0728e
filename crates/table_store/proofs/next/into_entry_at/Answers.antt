use Rattle.table_store.proofs.Nexts.{entry_put, shape_there}
use Rattle.table_store.proofs.next.into_entry_at.Goals as goal

pub with_entry_at-requires-clause-there : goal.with_entry_at-requires-clause-there
with_entry_at-requires-clause-there c = shape_there c.args.root c.args.table c.args.place c.args.entry c.requires.shape

pub returns-clause-valid : goal.returns-clause-valid
returns-clause-valid c =
    entry_put c.args.root c.with_entry_at.result c.args.last c.args.version c.args.table c.args.place c.args.entry c.requires.valid (c.goes_on.ensures c.if-not-goes_on.false) (c.keeps_rules.ensures c.if-not-keeps_rules.false) c.with_entry_at.ensures
