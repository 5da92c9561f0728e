use Rattle.table_store.proofs.Wider.{made_next, ready_next}
use Rattle.table_store.proofs.parts.columns.prepare_columns.Goals as goal

pub loop-store-preserved : goal.loop-store-preserved
loop-store-preserved c = record {
  made =
      made_next c.args.columns.now c.args.default.now c.args.stores.now c.loop-store.store-index c.store-item.result c.loop-store.ready.items c.push.new.self.items c.in_ok-prepare_one.field-0
      c.loop-store-test.true c.store-item.is c.in_ok-push.ensures.items c.loop-store.invariant.made c.in_ok-prepare_one.ensures.made;
  ready =
      ready_next c.args.stores.now c.loop-store.store-index c.store-item.result c.loop-store.ready.items c.push.new.self.items c.in_ok-prepare_one.field-0
      c.loop-store-test.true c.store-item.is c.in_ok-push.ensures.items c.loop-store.invariant.ready c.in_ok-prepare_one.ensures.ready;
}
