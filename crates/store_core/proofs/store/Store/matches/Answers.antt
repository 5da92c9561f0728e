use Rattle.std.proofs.Common.{subst}
use Rattle.std.specs.Prelude.{IfErr}
use Rattle.std.proofs.lemmas.Result.{IfOk-weaker, IfErr-weaker}
use Rattle.table_store.specs.Faults.{BlamesStored}
use Rattle.db_model.specs.State.{own_changes}
use Rattle.row_matching.proofs.Alike.{found_alike}
use Rattle.store_core.specs.Running.{Running, running}
use Rattle.store_core.proofs.Changed.{can_match, own_is_alike}
use Rattle.store_core.proofs.Events.{viewed}
use Rattle.store_core.proofs.Named.{stored_named}
use Rattle.store_core.proofs.store.Store.matches.Goals as goal

pub returns-clause-matched : goal.returns-clause-matched
returns-clause-matched g c = IfOk-weaker c.match_rows.result _ _ (λ r found state here.
    let now = running c.self.inside.tables c.self.inside.txns c.self.inside.current c.self.inside.mover in
    let own = viewed g.D.Disk c.args.disk.now now c.args.self.now state c.self.view_is here in
    let changes = c.session.result.now in
    let can = can_match g.D.Disk now c.args.disk.now state changes c.session.ensures own in
    found_alike c.args.keep.now state.database changes (own_changes state) c.args.table r.committed.items r.pending.items own.sound.database can.session
    (own_is_alike g.D.Disk now c.args.disk.now state changes c.session.ensures own) (found state.database can)) c.match_rows.ensures.matched

pub returns-clause-unblamed : goal.returns-clause-unblamed
returns-clause-unblamed g c = IfErr-weaker c.match_rows.result _ _ (λ fault none state here.
    let now = running c.self.inside.tables c.self.inside.txns c.self.inside.current c.self.inside.mover in
    let own = viewed g.D.Disk c.args.disk.now now c.args.self.now state c.self.view_is here in
    none state.database (can_match g.D.Disk now c.args.disk.now state c.session.result.now c.session.ensures own)) c.match_rows.ensures.unblamed

pub returns-clause-blamed : goal.returns-clause-blamed
returns-clause-blamed g c = subst (λ (r : Running). IfErr c.match_rows.result (BlamesStored r.seen.stores (g.D.Disk.holds c.args.disk.now))) c.self.view_is c.match_rows.ensures.blamed

pub returns-clause-named : goal.returns-clause-named
returns-clause-named g c =
    IfErr-weaker c.match_rows.result _ _ (λ fault blames. stored_named g.D.Disk c.args.self.now c.args.disk.now c.match_rows.new.disk fault c.match_rows.ensures.kept blames)
    (subst (λ (r : Running). IfErr c.match_rows.result (BlamesStored r.seen.stores (g.D.Disk.holds c.args.disk.now))) c.self.view_is c.match_rows.ensures.blamed)
