use Rattle.std.proofs.Common.{sym, subst}
use Rattle.std.specs.Prelude.{◌↔◌, IsTrue}
use Rattle.std.proofs.lemmas.Bool.{ltb-false, ltb-true}
use Rattle.table_store.specs.Moving.{IsFreshAt}
use Rattle.store_core.specs.Running.{Running}
use Rattle.store_core.proofs.Purged.{fresh_at, no_fresh_at}
use Rattle.store_core.proofs.store.Store.is_fresh.Goals as goal

pub returns-in-Some : goal.returns-in-Some
returns-in-Some c =
    subst (λ (r : Running). IsTrue c.is_fresh_in.result ↔ IsFreshAt r.seen.stores c.args.table c.args.place) c.self.view_is
    (fresh_at c.args.table c.args.place c.tables.result.now c.self.inside.tables.stores c.in-Some.projections.now c.as_slice.result.now c.is_fresh_in.result c.tables.ensures (ltb-true _ _ (sym c.in-Some.ensures.lookup.0)) c.in-Some.ensures.lookup.1 c.as_slice.ensures
    c.is_fresh_in.ensures)

pub returns-in-None : goal.returns-in-None
returns-in-None c =
    subst (λ (r : Running). IsTrue _ ↔ IsFreshAt r.seen.stores c.args.table c.args.place) c.self.view_is
    (no_fresh_at c.args.table c.args.place c.tables.result.now c.self.inside.tables.stores c.tables.ensures (ltb-false _ _ (sym c.in-None.ensures.lookup.0)))
