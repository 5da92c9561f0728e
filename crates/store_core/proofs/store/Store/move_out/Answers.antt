use Rattle.col_disk.specs.declared.disk.StoreFault.TheVariants.{Memory}
use Rattle.sound_laws.specs.Moves.{moved_at}
use Rattle.state_laws.proofs.Reached.{risen_state}
use Rattle.store_core.proofs.Events.{move_does}
use Rattle.store_core.proofs.Raising.{moved_rises}
use Rattle.std.proofs.Common.{◌≡◌, sym, subst}
use Rattle.std.specs.Prelude.{IfErr, OnOk, Some}
use Rattle.std.proofs.lemmas.Result.{IfErr-weaker}
use Rattle.common_laws.specs.Maps.{Contents}
use Rattle.store_commit.specs.Seen.{Stands}
use Rattle.store_core.specs.Running.{Running, running}
use Rattle.table_store.specs.Faults.{BlamesVectorsAt}
use Rattle.table_store.specs.Drawing.{DrawsJob}
use Rattle.store_core.proofs.Named.{still_named}
use Rattle.store_core.proofs.store.Store.move_out.Goals as goal

pub returns-clause-does : goal.returns-clause-does
returns-clause-does g c = λ state here.
    move_does g.D.Disk Memory c.self.inside.tables c.move_out.new.self c.self.inside.txns c.self.inside.current c.self.inside.mover c.drop_work.new.self c.args.self.now c.args.table c.args.place c.move_out.result state c.self.view_is here c.drop_work.ensures
    (risen_state state (moved_at c.args.table c.args.place state.database) (moved_rises g.D.Disk c.args.self.now c.args.disk.now state c.args.table c.args.place here c.requires) here.sound) c.move_out.ensures.made c.move_out.ensures.drawn

pub returns-clause-job : goal.returns-clause-job
returns-clause-job g c = subst (λ (r : Running). OnOk c.move_out.result (DrawsJob c.args.table c.args.place r.seen.catalogue c.move_out.new.self.catalogue)) c.self.view_is c.move_out.ensures.job

pub returns-clause-unblamed : goal.returns-clause-unblamed
returns-clause-unblamed g c =
    IfErr-weaker c.move_out.result _ _ (λ fault none state here. none state.database (subst (λ (r : Running). Stands g.D.Disk r.seen c.args.disk.now state.database) (sym c.self.view_is) here.database)) c.move_out.ensures.unblamed

pub returns-clause-blamed : goal.returns-clause-blamed
returns-clause-blamed g c =
    subst (λ (r : Running). IfErr c.move_out.result (λ fault. (m : Contents) → g.D.Disk.holds c.move_out.new.disk ≡ Some m → BlamesVectorsAt r.seen.stores c.args.table c.args.place m fault)) c.self.view_is c.move_out.ensures.blamed

pub returns-clause-named : goal.returns-clause-named
returns-clause-named g c =
    still_named g.D.Disk c.self.inside.tables (running c.move_out.new.self c.self.inside.txns c.self.inside.current c.drop_work.new.self) c.move_out.new.disk c.move_out.result c.move_out.ensures.named c.move_out.ensures.same
