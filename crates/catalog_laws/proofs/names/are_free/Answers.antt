use Rattle.std.proofs.Common.{subst}
use Rattle.std.specs.List.{All}
use Rattle.catalog_laws.specs.Going.{IsFree}
use Rattle.catalog_laws.proofs.Drawn.{all_names}
use Rattle.catalog_laws.proofs.names.are_free.Goals as goal

pub returns-then-is_free : goal.returns-then-is_free
returns-then-is_free c = λ says.
    all_names c.args.c.now.tables c.args.t.now (c.is_free.ensures c.if-is_free.true) (subst (All (λ p. IsFree c.args.c.now.tables p.name)) c.as_slice.ensures (c.projections_free.ensures says))
