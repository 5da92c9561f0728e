use Rattle.std.proofs.Common.{subst}
use Rattle.proj_store.specs.Loaded.{Loaded}
use Rattle.proj_store.specs.Reading.{BlamesRows}
use Rattle.proj_store.proofs.SavedRows.{stored_seen}
use Rattle.proj_store.proofs.store.ProjStore.stamped.Goals as goal

pub returns-in-Err-clause-blamed : goal.returns-in-Err-clause-blamed
returns-in-Err-clause-blamed g c = subst (λ (p : Loaded). BlamesRows p.stored.entry (g.D.Disk.holds c.args.disk.now) c.in-Err.fault) c.self.view_is c.in-Err.ensures.blamed

pub returns-in-Ok-add_copies-clause-found : goal.returns-in-Ok-add_copies-clause-found
returns-in-Ok-add_copies-clause-found g c = λ m told vectors.
    stored_seen m c.self.inside.entry c.as_slice.result.now c.self.inside.kept.items c.self.inside.unsaved c.args.self.now c.in-Ok.rows.items c.rows.result.now c.add_copies.new.out.items
    c.as_slice.ensures.value c.self.view_is vectors (c.in-Ok.ensures.found m told) c.rows.ensures.rows c.in-Ok-add_copies.ensures
