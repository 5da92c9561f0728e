use Rattle.std.proofs.Common.{◌≡◌, ◌∙◌, length, sym, ap, subst}
use Rattle.catalog_types.specs.declared.catalogue.Catalogue.{Catalogue}
use Rattle.catalog_types.specs.Valid.{IsValid}
use Rattle.std.proofs.Common.{◌≤◌}
use Rattle.table_store.proofs.Nexts.{both_ok, one_ok, IsValidAt, projection_put, there_within}
use Rattle.table_store.specs.Shaping.{with_projection, with_projection_at}
use Rattle.table_store.proofs.next.with_projection_at.Goals as goal

pub valid_at-requires : goal.valid_at-requires
valid_at-requires c = there_within c.args.table (with_projection c.args.place c.args.entry) c.args.root.now.tables (λ t. c.args.place ≤ length t.projections) c.in-Ok.catalogue.tables c.requires.there (ap (λ (k : Catalogue). k.tables) c.in-Ok.ensures)

pub returns-in-Ok-clause-catalogue : goal.returns-in-Ok-clause-catalogue
returns-in-Ok-clause-catalogue c = one_ok c.valid_at.result (λ k. k ≡ c.in-Ok.catalogue) (λ k. k ≡ with_projection_at c.args.last c.args.table c.args.place c.args.entry c.args.root.now) c.valid_at.ensures.same (λ k is. is ∙ c.in-Ok.ensures)

pub returns-in-Ok-clause-valid : goal.returns-in-Ok-clause-valid
returns-in-Ok-clause-valid c =
    both_ok c.valid_at.result (λ k. k ≡ c.in-Ok.catalogue) (λ k. IsValidAt c.in-Ok.catalogue c.args.table) (λ k. IsValid k) c.valid_at.ensures.same c.valid_at.ensures.valid
    (λ k is own. subst IsValid (sym is) (projection_put c.args.root.now c.in-Ok.catalogue c.args.last c.args.table c.args.place c.args.entry c.requires.valid (c.goes_on.ensures c.if-not-goes_on.false) c.requires.there (c.is_free.ensures c.if-not-is_free.false) c.requires.bare c.in-Ok.ensures own))
