use Rattle.std.proofs.Common.{ap, sym}
use Rattle.std.proofs.lemmas.Bool.{ltb-false, ltb-true}
use Rattle.catalog_types.specs.declared.catalogue.Projection.{Projection}
use Rattle.store_core.proofs.Purged.{fresh_in, no_fresh_in}
use Rattle.store_core.proofs.store.jobs.is_fresh_in.Goals as goal

pub returns-in-Some : goal.returns-in-Some
returns-in-Some c =
    fresh_in c.args.place c.args.projections.now c.in-Some.p.now _ (ltb-true _ _ (sym c.in-Some.ensures.lookup.0)) c.in-Some.ensures.lookup.1 (ap (λ (e : Projection). e.fresh) c.entry.ensures.entry)

pub returns-in-None : goal.returns-in-None
returns-in-None c = no_fresh_in c.args.place c.args.projections.now (ltb-false _ _ (sym c.in-None.ensures.lookup.0))
