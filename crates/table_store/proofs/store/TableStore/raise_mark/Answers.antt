use Rattle.std.proofs.Common.{subst, ap, arith}
use Rattle.col_disk.specs.declared.disk.DiskFault.TheVariants as disk_fault
use Rattle.store_commit.specs.Seen.{Seen}
use Rattle.store_commit.proofs.Settled.{made_nothing}
use Rattle.table_store.specs.Drawing.{DrawsOne}
use Rattle.table_store.specs.Held.{at_epoch}
use Rattle.table_store.proofs.Drawn.{mark_draws, one_drawn}
use Rattle.table_store.proofs.Makes.{settled_not, settled_done, mark_makes, mark_seen, mark_held}
use Rattle.catalog_types.specs.declared.catalogue.Catalogue.{Catalogue}
use Rattle.table_store.proofs.store.TableStore.raise_mark.Goals as goal

pub returns-in-Err-clause-made : goal.returns-in-Err-clause-made
returns-in-Err-clause-made g c = λ d stands le sound. made_nothing g.D.Disk c.args.self.now c.args.self.now disk_fault.Memory d (record d { ahm = c.args.mark }) stands

pub returns-in-Err-settle-clause-made : goal.returns-in-Err-settle-clause-made
returns-in-Err-settle-clause-made g c = λ d stands le sound.
    settled_not g.D.Disk c.args.self.now _ _ c.in-Err-settle.fault d (record d { ahm = c.args.mark })
    (mark_makes g.D.Disk c.self.inside.root c.self.inside.last c.self.inside.tables.items c.args.self.now c.args.mark c.in-Ok.catalogue _ d c.in-Err-settle.ensures.made
    c.self.view_is c.in-Ok.ensures.catalogue stands le sound)

pub invariant_of-self : goal.invariant_of-self
invariant_of-self g c = mark_held c.self.inside.root c.self.inside.last c.self.inside.tables.items c.args.mark c.in-Ok.catalogue c.in-Ok.ensures.catalogue c.self.invariant c.in-Ok.ensures.valid

pub returns-clause-made : goal.returns-clause-made
returns-clause-made g c = λ d stands le sound.
    settled_done g.D.Disk c.args.self.now _ _ d (record d { ahm = c.args.mark })
    (mark_seen c.self.inside.root c.self.inside.last c.self.inside.tables.items c.args.mark c.in-Ok.catalogue c.in-Ok.ensures.catalogue)
    (mark_makes g.D.Disk c.self.inside.root c.self.inside.last c.self.inside.tables.items c.args.self.now c.args.mark c.in-Ok.catalogue _ d c.in-Ok-settle.ensures.made
    c.self.view_is c.in-Ok.ensures.catalogue stands le sound)

pub returns-clause-drawn : goal.returns-clause-drawn
returns-clause-drawn g c =
    let root = c.self.inside.root in
    let last = c.self.inside.last in
    let catalogue = c.in-Ok.catalogue in
    subst (λ (s : Seen). DrawsOne s.catalogue (at_epoch last catalogue)) c.self.view_is (one_drawn root catalogue last last (mark_draws root catalogue last c.args.mark c.in-Ok.ensures.catalogue))

pub settle-requires-clause-drawn : goal.settle-requires-clause-drawn
settle-requires-clause-drawn g c = omega (arith, ap (λ (k : Catalogue). k.next) c.in-Ok.ensures.catalogue)
