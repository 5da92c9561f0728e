use Rattle.std.proofs.Common.{sym, ap, subst, ◌∙◌}
use Rattle.std.specs.Prelude.{nat_le}
use Rattle.col_disk.specs.declared.disk.StoreFault.TheVariants as fault
use Rattle.store_commit.specs.Making.{Makes}
use Rattle.store_commit.specs.Seen.{Seen}
use Rattle.store_core.specs.Moving.{MovesAllOf}
use Rattle.store_core.specs.Running.{Mover, Running, running}
use Rattle.table_store.specs.Faults.{BlamesVectors}
use Rattle.store_core.proofs.Chain.{failed, moved_done, moved_fails, moved_spent, projections_within, unit_fault}
use Rattle.store_core.proofs.Stepping.{gave_up_at}
use Rattle.table_store.specs.Draining.{all_caught_up}
use Rattle.store_core.proofs.Named.{still_held}
use Rattle.store_core.proofs.store.Store.move_all.Goals as goal

pub returns-then-are_spent-clause-moves : goal.returns-then-are_spent-clause-moves
returns-then-are_spent-clause-moves g c = λ state here.
    let own = gave_up_at g.D.Disk c.self.inside.tables c.self.inside.txns c.self.inside.current c.self.inside.mover c.drop_job.new.self c.args.self.now c.args.disk.now state c.self.view_is c.drop_job.ensures here in
    moved_spent g.D.Disk c.self.inside.tables c.self.inside.txns c.self.inside.current c.drop_job.new.self state c.is_behind.result own (ap (nat_le 1152921504606846976) own.next ∙ sym c.are_spent.ensures ∙ c.if-are_spent.true) c.is_behind.ensures

pub returns-in-Err-clause-moves : goal.returns-in-Err-clause-moves
returns-in-Err-clause-moves g c = λ state here.
    let own = gave_up_at g.D.Disk c.self.inside.tables c.self.inside.txns c.self.inside.current c.self.inside.mover c.drop_job.new.self c.args.self.now c.args.disk.now state c.self.view_is c.drop_job.ensures here in
    let room = ap (nat_le 1152921504606846976) own.next ∙ sym c.are_spent.ensures ∙ c.if-are_spent.false in
    let f = c.in-Err.fault in
    subst (λ (s : Seen). MovesAllOf g.D.Disk (running s c.self.inside.txns c.self.inside.current c.drop_job.new.self) c.args.disk.now c.move_all.new.disk (failed f) state) (sym c.in-Err.ensures.same)
    (moved_fails g.D.Disk c.self.inside.tables c.self.inside.txns c.self.inside.current c.drop_job.new.self state f own (ap (λ (m : Mover). m.work) c.drop_job.ensures) room
    (subst (λ (s : Seen). Makes g.D.Disk fault.Memory c.self.inside.tables s c.args.disk.now c.move_all.new.disk (unit_fault f) state.database (all_caught_up state.database)) c.in-Err.ensures.same (c.in-Err.ensures.made state.database own.database))
    (c.in-Err.ensures.unblamed state.database own.database))

pub returns-clause-moves : goal.returns-clause-moves
returns-clause-moves g c = λ state here.
    let own = gave_up_at g.D.Disk c.self.inside.tables c.self.inside.txns c.self.inside.current c.self.inside.mover c.drop_job.new.self c.args.self.now c.args.disk.now state c.self.view_is c.drop_job.ensures here in
    let room = ap (nat_le 1152921504606846976) own.next ∙ sym c.are_spent.ensures ∙ c.if-are_spent.false in
    moved_done g.D.Disk c.self.inside.tables c.move_all.new.self c.self.inside.txns c.self.inside.current c.drop_job.new.self state own (ap (λ (m : Mover). m.work) c.drop_job.ensures) room
    (projections_within c.self.inside.tables c.self.inside.txns c.self.inside.current c.self.inside.mover c.args.self.now c.self.view_is c.projections_fit.ensures)
    (c.in-Ok.ensures.made state.database own.database) (c.in-Ok.ensures.drawn state.database own.database)

pub returns-in-Err-clause-blamed : goal.returns-in-Err-clause-blamed
returns-in-Err-clause-blamed g c = λ m told. subst (λ (r : Running). BlamesVectors r.seen.stores m c.in-Err.fault) c.self.view_is (c.in-Err.ensures.blamed m told)

pub returns-in-Err-clause-named : goal.returns-in-Err-clause-named
returns-in-Err-clause-named g c =
    still_held g.D.Disk c.self.inside.tables (running c.move_all.new.self c.self.inside.txns c.self.inside.current c.drop_job.new.self) c.move_all.new.disk c.in-Err.fault c.in-Err.ensures.named c.in-Err.ensures.same

pub returns-in-Err-clause-same : goal.returns-in-Err-clause-same
returns-in-Err-clause-same g c = c.in-Err.ensures.same ∙ ap (λ (r : Running). r.seen) c.self.view_is
