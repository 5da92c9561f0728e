use Rattle.std.proofs.Common.{◌≡◌, ℕ, sym, ap, subst}
use Rattle.std.specs.Prelude.{◌↔◌, IsFalse}
use Rattle.std.proofs.lemmas.Bool.{ltb-true, ltb-false}
use Rattle.catalog_types.specs.declared.catalogue.Catalogue.{Catalogue}
use Rattle.table_jobs.specs.Purged.{IsKeptWholeAt}
use Rattle.table_jobs.proofs.Gone.{no_table, whole_at}
use Rattle.table_jobs.proofs.purging.has_gone.Goals as goal

pub returns-in-Some : goal.returns-in-Some
returns-in-Some c =
    let stores = c.args.store.now.stores in
    let mark : c.args.store.now.catalogue.ahm ≡ c.root-root.result.now.ahm = ap (λ (k : Catalogue). k.ahm) c.root-root.ensures.root in
    subst (λ (n : ℕ). IsFalse c.has_gone_in.result ↔ IsKeptWholeAt n c.args.table c.args.place stores) (sym mark)
    (whole_at c.root-root.result.now.ahm c.args.table c.args.place c.tables.result.now stores c.in-Some.projections.now c.as_slice.result.now c.has_gone_in.result c.tables.ensures (ltb-true _ _ (sym c.in-Some.ensures.lookup.0)) c.in-Some.ensures.lookup.1
    c.as_slice.ensures c.has_gone_in.ensures)

pub returns-in-None : goal.returns-in-None
returns-in-None c = no_table c.args.store.now.catalogue.ahm c.args.table c.args.place c.tables.result.now c.args.store.now.stores c.tables.ensures (ltb-false _ _ (sym c.in-None.ensures.lookup.0))
