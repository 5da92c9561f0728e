use Rattle.std.proofs.Common.{◌≡◌, false}
use Rattle.vert_cli.specs.State.{State}
use Rattle.vert_cli.specs.Running.{IsState}
use Rattle.shell_run.specs.Answers.{Settles}
use Rattle.shell_run.proofs.answering.settle.Given as goal

abbrev pub invariant-loop : goal.invariant-loop
invariant-loop g l = record {
  settles : (state : State) → l.fn.session.halted ≡ false → IsState g.D.Disk l.fn.session.running l.fn.disk state → Settles g.D.Disk l.session.running l.disk state;
  live : l.fn.session.halted ≡ false → l.session.halted ≡ false;
}
