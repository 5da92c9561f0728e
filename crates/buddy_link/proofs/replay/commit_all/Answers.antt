use Rattle.std.proofs.Common.{◌+◌, arith, refl}
use Rattle.std.proofs.lemmas.Result.{err_from_is_err_and}
use Rattle.buddy_link.proofs.Coming.{comes_joined, comes_none, comes_stopped, comes_upto, replay_failed, replayed_ok, some_change}
use Rattle.buddy_link.proofs.replay.commit_all.Goals as goal

pub loop-closed-init : goal.loop-closed-init
loop-closed-init g c = record {
  from = omega arith;
  upto = λ le. le;
  comes = λ mark start b s le setting no_gap at here. comes_none g.A.Disk c.args.at.now mark c.args.after start b c.args.behind.now s setting.good here at;
  count = omega arith;
}

pub loop-closed-preserved : goal.loop-closed-preserved
loop-closed-preserved g c =
    let from = c.loop-closed.invariant.from in
    let less = c.loop-closed-test.true in
    let count = c.loop-closed.invariant.count in
    let later = c.in_ok-commit_one.ensures.cause.later in
    record {
      from = omega (arith, from);
      upto = λ le. omega (arith, less);
      comes = λ mark start b s le setting no_gap at here.
          comes_joined g.A.Disk c.args.at.now c.loop-closed.at c.commit_one.new.at mark c.args.after c.loop-closed.closed (c.loop-closed.closed + 1) start b c.loop-closed.behind c.commit_one.new.behind replayed_ok from
          (c.loop-closed.invariant.comes mark start b s le setting no_gap at here)
          (λ t come there. c.in_ok-commit_one.ensures.comes mark c.args.after c.loop-closed.closed start b t refl from setting (some_change c.args.after c.args.last c.loop-closed.closed b no_gap from (omega (arith, less))) come there);
      count = omega (arith, count, later);
    }

pub returns-in_err-commit_one-clause-comes : goal.returns-in_err-commit_one-clause-comes
returns-in_err-commit_one-clause-comes g c = λ mark start b s le setting no_gap at here.
    let from = c.loop-closed.invariant.from in
    let less = c.loop-closed-test.true in
    let fault = err_from_is_err_and c.from_residual.result c.from_residual.ensures.1 in
    rw (fault.1, fault.2)
    (comes_stopped g.A.Disk c.args.at.now c.commit_one.new.at mark c.args.after (c.loop-closed.closed + 1) c.args.last start b c.commit_one.new.behind c.in_err-commit_one.field-0.0 (omega (arith, less))
    (comes_joined g.A.Disk c.args.at.now c.loop-closed.at c.commit_one.new.at mark c.args.after c.loop-closed.closed (c.loop-closed.closed + 1) start b c.loop-closed.behind c.commit_one.new.behind (replay_failed c.in_err-commit_one.field-0.0) from
    (c.loop-closed.invariant.comes mark start b s le setting no_gap at here)
    (λ t come there. c.in_err-commit_one.ensures.comes mark c.args.after c.loop-closed.closed start b t refl from setting (some_change c.args.after c.args.last c.loop-closed.closed b no_gap from (omega (arith, less))) come there)))

pub returns-clause-comes : goal.returns-clause-comes
returns-clause-comes g c = λ mark start b s le setting no_gap at here.
    let upto = c.loop-closed.invariant.upto le in
    let most = c.loop-closed-test.false in
    comes_upto g.A.Disk c.args.at.now c.loop-closed.at mark c.args.after c.loop-closed.closed c.args.last start b c.loop-closed.behind (omega (arith, upto, most)) (c.loop-closed.invariant.comes mark start b s le setting no_gap at here)
