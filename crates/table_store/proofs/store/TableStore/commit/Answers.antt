use Rattle.std.proofs.Common.{◌+◌, sym, ap, subst}
use Rattle.catalog_types.specs.Lists.{Pairwise}
use Rattle.catalog_types.specs.Names.{IsBelow}
use Rattle.col_disk.specs.declared.disk.StoreFault.TheVariants as fault
use Rattle.col_disk.proofs.Moving.{moved_none}
use Rattle.db_model.specs.State.{committed}
use Rattle.store_commit.specs.Seen.{Seen}
use Rattle.table_store.specs.Held.{at_epoch}
use Rattle.table_store.specs.Committing.{ready_with}
use Rattle.table_store.proofs.Standing.{reads_only, held_still, held_applied, commit_done}
use Rattle.table_store.specs.Faults.{BlamesStored}
use Rattle.table_store.proofs.Unblamed.{commit_unblamed}
use Rattle.table_store.proofs.store.TableStore.commit.Goals as goal

pub returns-then-self-ge-MOST_EPOCHS-clause-made : goal.returns-then-self-ge-MOST_EPOCHS-clause-made
returns-then-self-ge-MOST_EPOCHS-clause-made g c = λ d stands session has sound. reads_only g.D.Disk c.args.self.now c.args.self.now fault.Memory d (committed c.args.changes.now d) stands (moved_none g.D.Disk c.args.disk.now)

pub invariant_of-self : goal.invariant_of-self
invariant_of-self g c = held_still c.self.inside.root c.self.inside.tables.items c.prepare_all.new.tables.items c.prepare_all.ensures.stored c.self.invariant

pub returns-in-Err-clause-made : goal.returns-in-Err-clause-made
returns-in-Err-clause-made g c = λ d stands session has sound. reads_only g.D.Disk c.args.self.now _ c.in-Err.fault d (committed c.args.changes.now d) stands c.prepare_all.ensures.moved

pub apply_all-requires-clause-apart : goal.apply_all-requires-clause-apart
apply_all-requires-clause-apart g c = subst (Pairwise (λ t u. IsBelow t.name u.name)) (sym c.as_slice-entries.ensures) c.self.invariant.valid.ascending

pub invariant_of-self-2 : goal.invariant_of-self-2
invariant_of-self-2 g c =
    held_applied c.self.inside.root (c.self.inside.last + 1) (ready_with c.args.changes.now c.as_slice-entries.result.now c.in-Ok.ready.items) c.self.inside.tables.items c.prepare_all.new.tables.items c.apply_all.new.tables.items c.prepare_all.ensures.stored c.apply_all.ensures c.self.invariant

pub returns-clause-made : goal.returns-clause-made
returns-clause-made g c = λ d stands session has sound.
    commit_done g.D.Disk c.self.inside.root c.self.inside.last c.self.inside.tables.items c.prepare_all.new.tables.items c.apply_all.new.tables.items c.as_slice-entries.result.now (ready_with c.args.changes.now c.as_slice-entries.result.now c.in-Ok.ready.items) c.args.self.now d c.args.changes.now
    c.self.view_is c.as_slice-entries.ensures c.prepare_all.ensures.stored c.apply_all.ensures stands session has sound c.prepare_all.ensures.kept c.prepare_all.ensures.moved c.in-Ok.ensures.prepared

pub returns-clause-catalogue : goal.returns-clause-catalogue
returns-clause-catalogue g c = ap (λ (s : Seen). at_epoch (s.catalogue.last + 1) s.catalogue) c.self.view_is

pub returns-in-Err-clause-unblamed : goal.returns-in-Err-clause-unblamed
returns-in-Err-clause-unblamed g c = λ d stands.
    commit_unblamed g.D.Disk c.args.disk.now c.self.inside.root c.self.inside.last c.self.inside.tables.items c.args.self.now d c.in-Err.fault c.self.view_is stands c.in-Err.ensures.unblamed

pub returns-in-Err-clause-blamed : goal.returns-in-Err-clause-blamed
returns-in-Err-clause-blamed g c = subst (λ (s : Seen). BlamesStored s.stores (g.D.Disk.holds c.args.disk.now) c.in-Err.fault) c.self.view_is c.in-Err.ensures.blamed
