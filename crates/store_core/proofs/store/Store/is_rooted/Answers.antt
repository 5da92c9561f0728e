use Rattle.std.proofs.Common.{◌∙◌, ap, map, subst, sym}
use Rattle.std.specs.Prelude.{List}
use Rattle.catalog_types.specs.declared.catalogue.Table as kept
use Rattle.store_core.specs.Running.{running, Running}
use Rattle.col_disk.specs.declared.disk.StoreFault.TheVariants as fault
use Rattle.store_core.specs.Named.{NamesHeld, NamesListed}
use Rattle.store_core.proofs.Rooted.{named_listed}
use Rattle.store_core.proofs.store.Store.is_rooted.Goals as goal

pub returns-in-Ok-clause-listed : goal.returns-in-Ok-clause-listed
returns-in-Ok-clause-listed g c = λ q rooted.
    subst (λ (r : Running). NamesHeld g.D.Disk r c.args.disk.now (fault.Damaged q) → NamesListed g.D.Disk q c.open.new.disk) c.self.view_is
    (named_listed g.D.Disk (running c.self.inside.tables c.self.inside.txns c.self.inside.current c.self.inside.mover) c.args.disk.now c.open.new.disk c.as_slice.result.now c.in-Ok.found q
    (c.root-root.ensures.entries ∙ ap (λ (ts : List kept.Table). map (λ t. t.projections) ts) (sym c.as_slice.ensures)) c.in-Ok.ensures.kept (c.has_tables.ensures rooted) c.in-Ok.ensures.found)
