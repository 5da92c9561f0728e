use Rattle.std.proofs.Common.{◌≡◌, ◌≤◌}
use Rattle.db_model.specs.State.{State}
use Rattle.store_step.specs.Running.{IsState}
use Rattle.vert_cli.proofs.Executing.{Moving}
use Rattle.vert_cli.proofs.session.move_steps.Given as goal

abbrev pub invariant-loop : goal.invariant-loop
invariant-loop g l = record {
  moved : (state : State) → IsState g.D.Disk l.fn.store l.fn.disk state → Moving g.D.Disk l.fn.steps l.counter l.store l.fn.disk l.disk state;
  still : l.fn.steps ≡ 0 → l.disk ≡ l.fn.disk;
  faults : g.D.Disk.faults l.fn.disk ≤ g.D.Disk.faults l.disk;
}
