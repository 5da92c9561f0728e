use Rattle.std.proofs.Common.{◌≡◌, arith, subst, sym}
use Rattle.std.specs.Prelude.{IsSomeAnd}
use Rattle.std.specs.List.{slice_get}
use Rattle.store_core.specs.Running.{running, Running}
use Rattle.store_core.proofs.Purged.{purged_all, purged_more, purged_none, purged_on}
use Rattle.store_core.proofs.Purging.{purging_begins, purging_done, purging_fails, purging_more, purging_on, purging_stops}
use Rattle.store_core.proofs.Stepping.{gave_up_at}
use Rattle.store_core.proofs.store.Store.purge.Goals as goal

pub loop-place-init : goal.loop-place-init
loop-place-init g c = record { chain = λ state name here named. purging_begins g.D.Disk (running c.self.inside.tables c.self.inside.txns c.self.inside.current c.drop_job.new.self) c.args.disk.now state c.args.table name (gave_up_at g.D.Disk c.self.inside.tables c.self.inside.txns c.self.inside.current c.self.inside.mover c.drop_job.new.self c.args.self.now c.args.disk.now state c.self.view_is c.drop_job.ensures here) (subst (λ (x : Running). IsSomeAnd (slice_get x.seen.catalogue.tables c.args.table) (λ t. t.name ≡ name)) (sym c.self.view_is) named); whole = λ state name here named. purged_none c.args.table (running c.self.inside.tables c.self.inside.txns c.self.inside.current c.drop_job.new.self); count = omega arith }

pub returns-then-are_spent-clause-jobs : goal.returns-then-are_spent-clause-jobs
returns-then-are_spent-clause-jobs g c = λ state name here named.
    purging_stops g.D.Disk name state c.args.table c.loop-place.place c.loop-place.self c.are_spent.result c.loop-place-test.true (c.loop-place.invariant.chain state name here named) c.are_spent.ensures c.if-are_spent.true

pub returns-in-Err-clause-jobs : goal.returns-in-Err-clause-jobs
returns-in-Err-clause-jobs g c = λ state name here named.
    purging_fails g.D.Disk name state c.args.table c.loop-place.place c.loop-place.self c.purge_one.new.self c.are_spent.result c.in-Err.fault (c.loop-place.invariant.chain state name here named) c.are_spent.ensures c.if-are_spent.false
    c.in-Err.ensures.does c.in-Err.ensures.unblamed c.in-Err.ensures.same

pub loop-place-preserved : goal.loop-place-preserved
loop-place-preserved g c = record {
  chain = λ state name here named.
      purging_more g.D.Disk name state c.args.table c.loop-place.place c.loop-place.self c.purge_one.new.self c.are_spent.result (c.loop-place.invariant.chain state name here named) c.are_spent.ensures c.if-are_spent.false
      c.in-Ok.ensures.does c.in-Ok.ensures.drawn;
  whole = λ state name here named.
      let done = c.loop-place.invariant.chain state name here named in
      purged_more c.args.table c.loop-place.place c.loop-place.self c.purge_one.new.self (c.loop-place.invariant.whole state name here named) c.in-Ok.ensures.others c.in-Ok.ensures.mark (c.in-Ok.ensures.whole done.chain.mid done.chain.here);
  count = omega (arith, c.loop-place.invariant.count, c.purge_one.ensures.cause.later);
}

pub loop-place-preserved-then-not-is_purged : goal.loop-place-preserved-then-not-is_purged
loop-place-preserved-then-not-is_purged g c = record {
  chain = λ state name here named. purging_on g.D.Disk name state c.args.table c.loop-place.place c.loop-place.self (c.loop-place.invariant.chain state name here named);
  whole = λ state name here named. purged_on c.args.table c.loop-place.place c.loop-place.self (c.loop-place.invariant.whole state name here named) (c.is_purged.ensures.whole c.if-not-is_purged.true);
  count = c.loop-place.invariant.count;
}

pub returns-clause-jobs : goal.returns-clause-jobs
returns-clause-jobs g c = λ state name here named.
    purging_done g.D.Disk name state c.args.table c.loop-place.place c.loop-place.self (omega (arith, c.loop-place.auto.place-end)) (c.loop-place.invariant.chain state name here named)

pub returns-clause-left : goal.returns-clause-left
returns-clause-left g c = λ is state name here named.
    purged_all c.args.table c.loop-place.place c.loop-place.self (omega (arith, c.loop-place.auto.place-end)) (c.loop-place.invariant.whole state name here named) c.none_beyond.ensures
