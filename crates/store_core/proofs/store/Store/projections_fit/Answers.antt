use Rattle.std.proofs.Common.{◌≤◌, length, sym, subst}
use Rattle.catalog_types.specs.declared.catalogue.Catalogue.{Catalogue}
use Rattle.mover_policy.specs.First.{all_projections}
use Rattle.store_core.specs.Running.{Running}
use Rattle.store_core.proofs.Small.{projections_fit}
use Rattle.store_core.proofs.store.Store.projections_fit.Goals as goal

pub returns : goal.returns
returns c =
    subst (λ (r : Running). length (all_projections r.seen.catalogue.tables) ≤ 16384) c.self.view_is
    (subst (λ (k : Catalogue). length (all_projections k.tables) ≤ 16384) (sym c.root-root.ensures.root) (projections_fit c.root-root.result.now c.root-root.ensures.valid))
