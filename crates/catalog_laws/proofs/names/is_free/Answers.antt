use Rattle.std.proofs.Common.{◌≢◌, ℕ, List, not, ◌∙◌, ap, subst}
use Rattle.std.specs.Prelude.{IfNone}
use Rattle.std.specs.List.{All}
use Rattle.catalog_laws.proofs.Drawn.{free_name}
use Rattle.catalog_laws.proofs.names.is_free.Goals as goal

pub returns-then-is_none : goal.returns-then-is_none
returns-then-is_none c = λ says.
    free_name c.args.c.now.tables c.args.name.now c.table.result c.projection.result (c.is_none.ensures ∙ ap not c.if-is_none.true) (c.is_none-then-is_none.ensures ∙ ap not says)
    (subst (λ (n : List ℕ). IfNone c.table.result (All (λ t. t.name ≢ n) c.args.c.now.tables)) c.as_slice.ensures c.table.ensures.none)
    (subst (λ (n : List ℕ). IfNone c.projection.result (All (λ t. All (λ p. p.name ≢ n) t.projections) c.args.c.now.tables)) c.as_slice-then-is_none.ensures c.projection.ensures.none)
