use Rattle.std.proofs.Common.{◌≡◌, ◌∙◌, true, sym, ap}
use Rattle.catalog_types.specs.declared.catalogue.Projection.{Projection}
use Rattle.store_core.specs.Shaping.{is_fresh}
use Rattle.store_core.proofs.Shaped.{retains_by, rows_at}
use Rattle.store_core.proofs.store.shaping.retains_none.Goals as goal

pub returns-then-entry : goal.returns-then-entry
returns-then-entry c = λ m rows all any.
    let p = c.projection-item.result in
    let fresh : is_fresh p.stored ≡ true = ap (λ (e : Projection). e.fresh) (sym c.entry.ensures.entry) ∙ c.if-entry.true in
    retains_by m c.args.mark rows p.stored c.in_ok-retains.field-0 fresh (rows_at m c.args.mark rows c.args.projections.now c.loop-projection.projection-index p c.loop-projection-test.true c.projection-item.is all) c.in_ok-retains.ensures
