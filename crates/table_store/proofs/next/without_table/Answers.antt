use Rattle.catalog_types.specs.Valid.{IsValid}
use Rattle.std.proofs.Common.{◌≡◌}
use Rattle.table_store.specs.Creating.{without_table}
use Rattle.table_store.proofs.Nexts.{one_ok, table_gone}
use Rattle.table_store.proofs.next.without_table.Goals as goal

pub returns-clause-valid : goal.returns-clause-valid
returns-clause-valid c =
    one_ok c.without_table.result (λ k. k ≡ without_table c.args.last c.args.place c.args.root.now) (λ k. IsValid k) c.without_table.ensures
    (λ k is. table_gone c.args.root.now k c.args.last c.args.place c.requires.valid (c.goes_on.ensures c.if-not-goes_on.false) c.requires.place is)
