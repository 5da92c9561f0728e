use Rattle.std.proofs.Common.{◌≡◌, ◌∙◌, filter, refl, ap}
use Rattle.std.specs.Prelude.{None, Ok, Err}
use Rattle.col_disk.specs.declared.disk.DiskFault.TheVariants.{Memory}
use Rattle.db_model.specs.Events.{is_not_named, projection_dropped}
use Rattle.db_model.specs.Numbers.{IsDrawn}
use Rattle.store_core.specs.Running.{mover_of, running, Mover}
use Rattle.store_core.proofs.Doing.{does_failed}
use Rattle.store_core.proofs.Shaped.{nothing_done}
use Rattle.store_core.proofs.Unshaped.{unshape_does}
use Rattle.store_core.proofs.store.Store.drop_projection.Goals as goal

pub returns-in-Err-clause-does : goal.returns-in-Err-clause-does
returns-in-Err-clause-does g c = λ state here free there. nothing_done g.D.Disk c.args.disk.now c.args.self.now state (IsDrawn state (projection_dropped c.args.name.now state)) here

pub returns-in-Err-drop_projection-clause-does : goal.returns-in-Err-drop_projection-clause-does
returns-in-Err-drop_projection-clause-does g c = λ state here free there.
    let name = c.args.name.now in
    let mover = c.self.inside.mover in
    let after = mover_of (filter (is_not_named name) mover.asked) 0 None in
    does_failed g.D.Disk Memory c.args.self.now (running c.drop_projection.new.self c.self.inside.txns c.self.inside.current after) _ c.in-Err-drop_projection.fault state (IsDrawn state (projection_dropped name state))
    (unshape_does g.D.Disk Memory c.self.inside.tables c.drop_projection.new.self c.self.inside.txns c.self.inside.current mover after c.args.self.now c.args.table c.args.place name (Err c.in-Err-drop_projection.fault) state
    c.self.view_is here (c.projections_may_be_dropped.ensures state name free here.sound) there refl refl refl c.in-Err-drop_projection.ensures.made c.in-Err-drop_projection.ensures.drawn)

pub returns-clause-does : goal.returns-clause-does
returns-clause-does g c = λ state here free there.
    let name = c.args.name.now in
    let mover = c.self.inside.mover in
    let asked : c.drop_job.new.self.asked ≡ filter (is_not_named name) mover.asked = ap (λ (m : Mover). m.asked) c.drop_job.ensures ∙ ap (λ (m : Mover). m.asked) c.ask.ensures ∙ c.in-Ok.ensures ∙ ap (λ (m : Mover). filter (is_not_named name) m.asked) c.drop_work.ensures in
    unshape_does g.D.Disk Memory c.self.inside.tables c.drop_projection.new.self c.self.inside.txns c.self.inside.current mover c.drop_job.new.self c.args.self.now c.args.table c.args.place name (Ok tt) state
    c.self.view_is here (c.projections_may_be_dropped.ensures state name free here.sound) there asked (ap (λ (m : Mover). m.busy) c.drop_job.ensures) (ap (λ (m : Mover). m.work) c.drop_job.ensures) c.in-Ok-drop_projection.ensures.made c.in-Ok-drop_projection.ensures.drawn
