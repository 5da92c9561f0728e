use Rattle.std.proofs.Common.{◌≤◌, ℕ, subst}
use Rattle.store_core.specs.Running.{Running}
use Rattle.table_store.specs.Moving.{IsFreshAt}
use Rattle.store_core.proofs.Found.{places_fit}
use Rattle.store_core.proofs.Purged.{none_past}
use Rattle.store_core.proofs.store.Store.none_beyond.Goals as goal

pub returns : goal.returns
returns c =
    subst (λ (r : Running). (i j : ℕ) → 16 ≤ j → IsFreshAt r.seen.stores i j → ⊥) c.self.view_is
    (λ i j le fresh. none_past c.self.inside.tables.stores c.root-root.result.now.tables i j c.root-root.ensures.entries (places_fit c.root-root.result.now c.root-root.ensures.valid) le fresh)
