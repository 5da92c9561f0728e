use Rattle.std.proofs.Common.{◌∙◌, false, List, refl, sym, subst, arith}
use Rattle.std.specs.Prelude.{Option}
use Rattle.std.specs.List.{All}
use Rattle.std.proofs.lemmas.List.Elements.{All-nil}
use Rattle.col_disk.proofs.Moving.{moved_join, moved_none}
use Rattle.col_value.specs.Order.{IsRow}
use Rattle.col_value.specs.declared.value.Value.{Value}
use Rattle.common_laws.specs.Maps.{Contents}
use Rattle.proj_store.specs.Reading.{BlamesRows}
use Rattle.exec_scan.specs.Batches.{Shown}
use Rattle.exec_scan.specs.Scanning.{Gives, IsAtHand, IsScanOf, Place, start}
use Rattle.store_query.proofs.Counted.{spent_more, spent_upto, SpentUpto}
use Rattle.store_query.proofs.Gathered.{asks_on, asks_start, gathered_all, gathered_more, gathered_none}
use Rattle.store_query.proofs.gathering.scan_within.Goals as goal

pub loop-batch-init : goal.loop-batch-init
loop-batch-init g c = record {
  gathered = λ m told rows stores. gathered_none m c.args.store.now.stored c.args.epoch c.args.places.items c.args.bounds.items c.new-scan.result rows c.new-out.result.items c.new-scan.ensures c.new-out.ensures.items stores;
  scan_of = subst (λ (s : Place). IsScanOf c.args.store.now.stored.entry s) (sym c.new-scan.ensures) (record { own = c.requires; opening = tt; closed = λ none. refl });
  at_hand = subst (λ (s : Place). IsAtHand (g.D.Disk.holds c.args.disk.now) c.args.store.now.stored s) (sym c.new-scan.ensures) tt;
  asks = asks_start c.args.epoch c.args.places.items c.args.bounds.items c.new-scan.result c.new-scan.ensures;
  valid = subst (λ (xs : List (List Value)). All IsRow xs) (sym c.new-out.ensures.items) (All-nil IsRow);
  counted = λ m told. subst (λ (x : Place). SpentUpto m c.args.store.now.stored c.args.places.items (start c.args.epoch c.args.places.items c.args.bounds.items false) c.args.steps.now x c.args.steps.now) (sym c.new-scan.ensures) (λ indexes have. omega arith);
  kept = refl;
  moved = moved_none g.D.Disk c.args.disk.now;
}

pub returns-in-Ok-None-clause-passes : goal.returns-in-Ok-None-clause-passes
returns-in-Ok-None-clause-passes g c = λ m told rows stores.
    let p = c.args.store.now.stored in
    gathered_all m p c.args.epoch c.args.places.items c.args.bounds.items c.loop-batch.scan rows c.loop-batch.out.items
    (λ left are. subst (λ (o : Option Shown). Gives m p c.loop-batch.scan c.next.new.self left o) c.in-Ok-None.field-0-is
    (c.in-Ok-None.ensures.gives m (c.loop-batch.invariant.kept ∙ told) left are)) (c.loop-batch.invariant.gathered m told rows stores)

pub returns-in-Ok-None-clause-moved : goal.returns-in-Ok-None-clause-moved
returns-in-Ok-None-clause-moved g c = moved_join g.D.Disk c.loop-batch.invariant.moved c.next.ensures.moved

pub returns-in-Err-clause-unblamed : goal.returns-in-Err-clause-unblamed
returns-in-Err-clause-unblamed g c = λ m told rows stores.
    let was = c.loop-batch.invariant.gathered m told rows stores in
    c.in-Err.ensures.unblamed m (c.loop-batch.invariant.kept ∙ told) was.rest was.left

pub returns-in-Err-clause-blamed : goal.returns-in-Err-clause-blamed
returns-in-Err-clause-blamed g c =
    subst (λ (h : Option Contents). BlamesRows c.args.store.now.stored.entry h c.in-Err.fault) c.loop-batch.invariant.kept (c.in-Err.ensures.blamed c.loop-batch.invariant.at_hand)

pub returns-in-Err-clause-moved : goal.returns-in-Err-clause-moved
returns-in-Err-clause-moved g c = moved_join g.D.Disk c.loop-batch.invariant.moved c.next.ensures.moved

pub returns-in-Err-add_batch-clause-moved : goal.returns-in-Err-add_batch-clause-moved
returns-in-Err-add_batch-clause-moved g c = moved_join g.D.Disk c.loop-batch.invariant.moved c.next.ensures.moved

pub loop-batch-preserved : goal.loop-batch-preserved
loop-batch-preserved g c =
    let p = c.args.store.now.stored in
    record {
      gathered = λ m told rows stores. gathered_more m p c.args.epoch c.args.places.items c.args.bounds.items c.loop-batch.scan c.next.new.self c.in-Ok-Some.batch rows c.loop-batch.out.items c.add_batch.new.out.items
          c.in-Ok.ensures.rows c.loop-batch.invariant.asks
          (λ left are. subst (λ (o : Option Shown). Gives m p c.loop-batch.scan c.next.new.self left o) c.in-Ok-Some.field-0-is
          (c.in-Ok-Some.ensures.gives m (c.loop-batch.invariant.kept ∙ told) left are)) (c.loop-batch.invariant.gathered m told rows stores);
      scan_of = c.in-Ok-Some.ensures.scan;
      at_hand = c.in-Ok-Some.ensures.at_hand c.loop-batch.invariant.at_hand;
      asks = asks_on c.args.epoch c.args.places.items c.args.bounds.items c.loop-batch.scan c.next.new.self c.in-Ok-Some.ensures.same c.loop-batch.invariant.asks;
      valid = c.in-Ok.ensures.valid;
      counted = λ m told. spent_more m (g.D.Disk.holds c.loop-batch.disk) p c.args.epoch c.args.places.items c.args.bounds.items (start c.args.epoch c.args.places.items c.args.bounds.items false) c.loop-batch.scan c.next.new.self c.args.steps.now c.loop-batch.steps c.next.new.steps
          (c.loop-batch.invariant.kept ∙ told) c.loop-batch.invariant.asks c.loop-batch.invariant.at_hand c.in-Ok-Some.ensures.steps (c.loop-batch.invariant.counted m told);
      kept = c.next.ensures.kept ∙ c.loop-batch.invariant.kept;
      moved = moved_join g.D.Disk c.loop-batch.invariant.moved c.next.ensures.moved;
    }

pub returns-in-Ok-None-clause-steps : goal.returns-in-Ok-None-clause-steps
returns-in-Ok-None-clause-steps g c = λ m told at indexes have.
    spent_upto m (g.D.Disk.holds c.loop-batch.disk) c.args.store.now.stored c.args.epoch c.args.places.items c.args.bounds.items (start c.args.epoch c.args.places.items c.args.bounds.items false) c.loop-batch.scan c.args.steps.now c.loop-batch.steps c.next.new.steps indexes
    (c.loop-batch.invariant.kept ∙ told) c.loop-batch.invariant.asks c.loop-batch.invariant.at_hand c.next.ensures.at_most (c.loop-batch.invariant.counted m told) have

pub returns-in-Err-clause-steps : goal.returns-in-Err-clause-steps
returns-in-Err-clause-steps g c = λ m told at indexes have.
    spent_upto m (g.D.Disk.holds c.loop-batch.disk) c.args.store.now.stored c.args.epoch c.args.places.items c.args.bounds.items (start c.args.epoch c.args.places.items c.args.bounds.items false) c.loop-batch.scan c.args.steps.now c.loop-batch.steps c.next.new.steps indexes
    (c.loop-batch.invariant.kept ∙ told) c.loop-batch.invariant.asks c.loop-batch.invariant.at_hand c.next.ensures.at_most (c.loop-batch.invariant.counted m told) have

pub returns-in-Err-add_batch-clause-steps : goal.returns-in-Err-add_batch-clause-steps
returns-in-Err-add_batch-clause-steps g c = λ m told at indexes have.
    spent_upto m (g.D.Disk.holds c.loop-batch.disk) c.args.store.now.stored c.args.epoch c.args.places.items c.args.bounds.items (start c.args.epoch c.args.places.items c.args.bounds.items false) c.loop-batch.scan c.args.steps.now c.loop-batch.steps c.next.new.steps indexes
    (c.loop-batch.invariant.kept ∙ told) c.loop-batch.invariant.asks c.loop-batch.invariant.at_hand c.next.ensures.at_most (c.loop-batch.invariant.counted m told) have
