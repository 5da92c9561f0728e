use Rattle.std.proofs.Common.{◌≡◌, ◌∙◌, sym, subst}
use Rattle.catalog_types.specs.Valid.{IsValid}
use Rattle.table_store.proofs.Nexts.{both_ok, one_ok, IsValidAt, table_joined, table_within}
use Rattle.table_store.specs.Creating.{with_table}
use Rattle.table_store.proofs.next.with_table.Goals as goal

pub valid_at-requires : goal.valid_at-requires
valid_at-requires c = table_within c.args.root.now c.in-Ok.catalogue c.args.last c.args.place c.args.table c.requires.place c.in-Ok.ensures

pub returns-in-Ok-clause-catalogue : goal.returns-in-Ok-clause-catalogue
returns-in-Ok-clause-catalogue c = one_ok c.valid_at.result (λ k. k ≡ c.in-Ok.catalogue) (λ k. k ≡ with_table c.args.last c.args.place c.args.table c.args.root.now) c.valid_at.ensures.same (λ k is. is ∙ c.in-Ok.ensures)

pub returns-in-Ok-clause-valid : goal.returns-in-Ok-clause-valid
returns-in-Ok-clause-valid c =
    both_ok c.valid_at.result (λ k. k ≡ c.in-Ok.catalogue) (λ k. IsValidAt c.in-Ok.catalogue c.args.place) (λ k. IsValid k) c.valid_at.ensures.same c.valid_at.ensures.valid
    (λ k is own. subst IsValid (sym is) (table_joined c.args.root.now c.in-Ok.catalogue c.args.last c.args.place c.args.table c.requires.valid (c.goes_on.ensures c.if-not-goes_on.false) (c.joins.ensures c.if-not-joins.false) c.requires.place c.requires.bare c.in-Ok.ensures own))
