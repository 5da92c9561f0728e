use Rattle.std.proofs.Common.{ap, subst, sym}
use Rattle.std.specs.Prelude.{Result}
use Rattle.col_disk.specs.declared.disk.StoreFault.{StoreFault}
use Rattle.db_model.specs.Run.{all_dropped}
use Rattle.store_core.specs.Running.{Running, IsState}
use Rattle.store_step.specs.Steps.{Ends}
use Rattle.store_step.proofs.Moved.{end_ends}
use Rattle.store_step.proofs.Named.{end_kept, end_named}
use Rattle.store_step.proofs.moving.end.Goals as goal

pub returns-clause-ends : goal.returns-clause-ends
returns-clause-ends g c = λ state here.
    let dropped : IsState g.D.Disk c.roll_back_all.new.self c.args.disk.now (all_dropped state) =
    subst (λ (r : Running). IsState g.D.Disk r c.args.disk.now (all_dropped state)) (sym c.roll_back_all.ensures) (c.all_rollbacks_stand.ensures c.args.disk.now c.args.store.now state here) in
    subst (λ (r : Result (Unit {0}) StoreFault). Ends g.D.Disk c.move_all.new.self c.args.disk.now c.move_all.new.disk r state) (sym c.moved.ensures)
    (end_ends g.D.Disk c.move_all.new.self c.move_all.result state (c.move_all.ensures.moves (all_dropped state) dropped))

pub returns-clause-named : goal.returns-clause-named
returns-clause-named g c = end_named g.D.Disk c.move_all.new.self c.move_all.new.disk c.move_all.result c.moved.result c.moved.ensures c.move_all.ensures.named

pub returns-clause-kept : goal.returns-clause-kept
returns-clause-kept g c = end_kept c.args.store.now c.roll_back_all.new.self c.move_all.new.self c.move_all.result c.moved.result c.moved.ensures (ap (λ (r : Running). r.seen) c.roll_back_all.ensures) c.move_all.ensures.same
