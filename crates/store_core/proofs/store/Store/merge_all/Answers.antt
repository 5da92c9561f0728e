use Rattle.std.proofs.Common.{◌≤◌, length, arith, subst, sym}
use Rattle.mover_policy.specs.First.{all_projections}
use Rattle.store_core.specs.Running.{running, Running}
use Rattle.store_core.proofs.Raising.{merging_begins, merging_done, merging_fails, merging_more, merging_short, merging_stops}
use Rattle.store_core.proofs.Stepping.{gave_up_at}
use Rattle.store_core.proofs.store.Store.merge_all.Goals as goal

pub loop-init : goal.loop-init
loop-init g c = record { chain = λ state here. merging_begins g.D.Disk (running c.self.inside.tables c.self.inside.txns c.self.inside.current c.drop_job.new.self) c.args.disk.now state (gave_up_at g.D.Disk c.self.inside.tables c.self.inside.txns c.self.inside.current c.self.inside.mover c.drop_job.new.self c.args.self.now c.args.disk.now state c.self.view_is c.drop_job.ensures here) (subst (λ (x : Running). length (all_projections x.seen.catalogue.tables) ≤ 16384) (sym c.self.view_is) c.projections_fit.ensures); count = omega arith }

pub returns-in-None-clause-jobs : goal.returns-in-None-clause-jobs
returns-in-None-clause-jobs g c = λ state here. merging_done g.D.Disk state c.loop.self (c.loop.invariant.chain state here)

pub returns-then-are_spent-clause-jobs : goal.returns-then-are_spent-clause-jobs
returns-then-are_spent-clause-jobs g c = λ state here.
    merging_stops g.D.Disk state c.loop.self c.are_spent.result (c.loop.invariant.chain state here) c.are_spent.ensures c.if-are_spent.true

pub returns-in-Err-clause-jobs : goal.returns-in-Err-clause-jobs
returns-in-Err-clause-jobs g c = λ state here.
    merging_fails g.D.Disk state c.in-Some.next.at.table c.in-Some.next.at.place c.loop.self c.merge_one.new.self c.are_spent.result c.in-Err.fault (c.loop.invariant.chain state here) c.are_spent.ensures c.if-are_spent.false
    c.in-Err.ensures.does c.in-Err.ensures.unblamed c.in-Err.ensures.same

pub loop-preserved : goal.loop-preserved
loop-preserved g c = record {
  chain = λ state here.
      merging_more g.D.Disk state c.in-Some.next.at.table c.in-Some.next.at.place c.loop.self c.merge_one.new.self c.are_spent.result (c.loop.invariant.chain state here) c.are_spent.ensures c.if-are_spent.false
      c.in-Ok.ensures.does c.in-Ok.ensures.drawn;
  count = omega (arith, c.loop.invariant.count, c.merge_one.ensures.cause.later);
}

pub returns-clause-jobs : goal.returns-clause-jobs
returns-clause-jobs g c = λ state here. merging_short g.D.Disk state c.loop.self (c.loop.invariant.chain state here)
