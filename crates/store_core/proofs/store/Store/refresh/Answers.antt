use Rattle.std.proofs.Common.{◌≡◌, ◌+◌, ◌≤◌, ℕ, suc, length, sym, subst, arith}
use Rattle.std.specs.Prelude.{IsSomeAnd}
use Rattle.std.specs.List.{All, slice_get}
use Rattle.store_core.specs.Running.{running, Running}
use Rattle.store_core.proofs.Refreshing.{refreshing_begins, refreshing_done, refreshing_fails, refreshing_full, refreshing_more, refreshing_stops, Refreshing}
use Rattle.store_core.proofs.Stepping.{gave_up_at}
use Rattle.store_core.proofs.store.Store.refresh.Goals as goal

one_more : (n : ℕ) → suc n ≡ n + 1
one_more n = omega arith

pub loop-init : goal.loop-init
loop-init g c = record { chain = λ state name here named. refreshing_begins g.D.Disk (running c.self.inside.tables c.self.inside.txns c.self.inside.current c.drop_job.new.self) c.args.disk.now state c.args.table name (gave_up_at g.D.Disk c.self.inside.tables c.self.inside.txns c.self.inside.current c.self.inside.mover c.drop_job.new.self c.args.self.now c.args.disk.now state c.self.view_is c.drop_job.ensures here) (subst (λ (x : Running). IsSomeAnd (slice_get x.seen.catalogue.tables c.args.table) (λ t. t.name ≡ name)) (sym c.self.view_is) named) (subst (λ (x : Running). All (λ t. length t.projections ≤ 16) x.seen.catalogue.tables) (sym c.self.view_is) c.places_fit.ensures); count = omega arith }

pub returns-in-None-clause-jobs : goal.returns-in-None-clause-jobs
returns-in-None-clause-jobs g c = λ state name here named. refreshing_done g.D.Disk name state c.args.table c.loop.counter c.loop.self (c.loop.invariant.chain state name here named) (sym c.in-None.ensures.first)

pub returns-then-are_spent-clause-jobs : goal.returns-then-are_spent-clause-jobs
returns-then-are_spent-clause-jobs g c = λ state name here named.
    refreshing_stops g.D.Disk name state c.args.table c.in-Some.place c.loop.counter c.loop.self c.are_spent.result (c.loop.invariant.chain state name here named) c.are_spent.ensures c.if-are_spent.true (sym c.in-Some.ensures.first)

pub returns-in-Err-clause-jobs : goal.returns-in-Err-clause-jobs
returns-in-Err-clause-jobs g c = λ state name here named.
    refreshing_fails g.D.Disk name state c.args.table c.in-Some.place c.loop.counter c.loop.self c.refresh_one.new.self c.are_spent.result c.in-Err.fault (c.loop.invariant.chain state name here named) c.are_spent.ensures c.if-are_spent.false
    (sym c.in-Some.ensures.first) c.in-Err.ensures.does c.in-Err.ensures.unblamed c.in-Err.ensures.same

pub loop-preserved : goal.loop-preserved
loop-preserved g c = record {
  chain = λ state name here named.
      subst (λ (n : ℕ). Refreshing g.D.Disk name state c.args.table n c.refresh_one.new.self c.args.disk.now c.refresh_one.new.disk) (one_more c.loop.counter)
      (refreshing_more g.D.Disk name state c.args.table c.in-Some.place c.loop.counter c.loop.self c.refresh_one.new.self c.are_spent.result (c.loop.invariant.chain state name here named) c.are_spent.ensures c.if-are_spent.false
      (sym c.in-Some.ensures.first) c.in-Some.ensures.empty c.in-Ok.ensures.does c.in-Ok.ensures.drawn);
  count = omega (arith, c.loop.invariant.count, c.refresh_one.ensures.cause.later);
}

pub returns-clause-jobs : goal.returns-clause-jobs
returns-clause-jobs g c = λ state name here named. refreshing_full g.D.Disk name state c.args.table c.loop.counter c.loop.self (c.loop.invariant.chain state name here named) (omega (arith, c.loop-test.false))
