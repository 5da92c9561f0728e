use Rattle.std.proofs.Common.{◌≤◌, length, sym, subst}
use Rattle.std.specs.List.{All}
use Rattle.catalog_types.specs.declared.catalogue.Catalogue.{Catalogue}
use Rattle.store_core.specs.Running.{Running}
use Rattle.store_core.proofs.Found.{places_fit}
use Rattle.store_core.proofs.store.Store.places_fit.Goals as goal

pub returns : goal.returns
returns c =
    subst (λ (r : Running). All (λ t. length t.projections ≤ 16) r.seen.catalogue.tables) c.self.view_is
    (subst (λ (k : Catalogue). All (λ t. length t.projections ≤ 16) k.tables) (sym c.root-root.ensures.root) (places_fit c.root-root.result.now c.root-root.ensures.valid))
