use Rattle.std.proofs.Common.{ℕ, ◌<◌, arith, refl, subst}
use Rattle.vert_cli.proofs.Executing.{not_moved, moved_more, moved_part}
use Rattle.vert_cli.proofs.session.move_steps.Goals as goal

none_below : (n : ℕ) → n < 0 → ⊥
none_below n lt = omega (arith, lt)

pub loop-init : goal.loop-init
loop-init g c = record { moved = λ state here. not_moved g.D.Disk c.args.steps c.args.store.now c.args.disk.now state here; still = λ none. refl; faults = omega arith }

pub returns-in-Err-clause-moved : goal.returns-in-Err-clause-moved
returns-in-Err-clause-moved g c = λ state here.
    let so_far = c.loop.invariant.moved state here in
    moved_part g.D.Disk c.args.steps c.loop.counter c.mover_step.new.store c.loop.store c.args.disk.now c.loop.disk c.mover_step.new.disk state c.in-Err.fault (omega (arith, c.loop-test.true)) so_far
    (c.in-Err.ensures.moves so_far.mid so_far.stands)

pub loop-preserved : goal.loop-preserved
loop-preserved g c = record {
  moved = λ state here.
      (let so_far = c.loop.invariant.moved state here in
      moved_more g.D.Disk c.args.steps c.loop.counter c.mover_step.new.store c.loop.store c.args.disk.now c.loop.disk c.mover_step.new.disk state c.in-Ok.field-0 (omega (arith, c.loop-test.true)) so_far
      (c.in-Ok.ensures.moves so_far.mid so_far.stands));
  still = λ none. absurd (none_below c.loop.counter (subst (λ (n : ℕ). c.loop.counter < n) none c.loop-test.true));
  faults = omega (arith, c.loop.invariant.faults, c.in-Ok.ensures.cause.later);
}
