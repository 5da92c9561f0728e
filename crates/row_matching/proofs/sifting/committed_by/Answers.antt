use Rattle.std.proofs.Common.{◌∙◌, true, List, refl, sym, ap, subst}
use Rattle.std.specs.Prelude.{Option}
use Rattle.std.specs.List.{All}
use Rattle.std.proofs.lemmas.List.Elements.{All-nil}
use Rattle.col_disk.proofs.Moving.{moved_join, moved_none}
use Rattle.col_value.specs.Order.{IsRow}
use Rattle.col_value.specs.declared.row.Asked.{Asked}
use Rattle.row_bounds.specs.declared.bound.Bound.{Bound}
use Rattle.wanted_rows.specs.Wanted.{need_in}
use Rattle.common_laws.specs.Maps.{Contents}
use Rattle.proj_store.specs.Reading.{BlamesRows}
use Rattle.exec_scan.specs.Batches.{Shown}
use Rattle.exec_scan.specs.Scanning.{Gives, IsAtHand, IsScanOf, Place}
use Rattle.row_matching.proofs.Others.{Bounded, sought_all, sought_more, sought_none, Wanted}
use Rattle.row_matching.proofs.sifting.committed_by.Goals as goal

pub loop-batch-init : goal.loop-batch-init
loop-batch-init g c = record {
  sought = λ m told rows stores. sought_none m c.args.store.now.stored c.args.keeps.now c.args.epoch c.args.places.items c.in-Ok.bounds.items true c.new-scan.result rows (Wanted c.args.gone.now) (need_in c.in-Ok-wants_of.wants) c.new-out.result.items c.in-Ok-wants_of.ensures c.new-scan.ensures
      c.new-out.ensures.items stores;
  bounded = subst (λ (w : List Bound). Bounded c.args.keeps.now w) (sym (ap (λ (s : Place). s.bounds) c.new-scan.ensures)) c.in-Ok.ensures.kept;
  scan_of = subst (λ (s : Place). IsScanOf c.args.store.now.stored.entry s) (sym c.new-scan.ensures) (record { own = c.requires.own; opening = tt; closed = λ none. refl });
  at_hand = subst (λ (s : Place). IsAtHand (g.D.Disk.holds c.args.disk.now) c.args.store.now.stored s) (sym c.new-scan.ensures) tt;
  epoch_is = ap (λ (s : Place). s.epoch) c.new-scan.ensures;
  places_are = ap (λ (s : Place). s.places) c.new-scan.ensures;
  stamps_are = ap (λ (s : Place). s.stamps) c.new-scan.ensures;
  valid = subst (λ (xs : List Asked). All (λ a. IsRow a.row) xs) (sym c.new-out.ensures.items) (All-nil (λ (a : Asked). IsRow a.row));
  kept = refl;
  moved = moved_none g.D.Disk c.args.disk.now;
}

pub returns-in-Err-clause-moved : goal.returns-in-Err-clause-moved
returns-in-Err-clause-moved g c = moved_none g.D.Disk c.args.disk.now

pub returns-in-Err-wants_of-clause-moved : goal.returns-in-Err-wants_of-clause-moved
returns-in-Err-wants_of-clause-moved g c = moved_none g.D.Disk c.args.disk.now

pub returns-in-Ok-None-clause-found : goal.returns-in-Ok-None-clause-found
returns-in-Ok-None-clause-found g c = λ m told rows stores.
    let p = c.args.store.now.stored in
    sought_all m p c.args.keeps.now c.args.epoch c.args.places.items c.args.gone.now (need_in c.loop-batch.wants) c.loop-batch.scan rows c.loop-batch.out.items
    (λ left are. subst (λ (o : Option Shown). Gives m p c.loop-batch.scan c.next.new.self left o) c.in-Ok-None.field-0-is
    (c.in-Ok-None.ensures.gives m (c.loop-batch.invariant.kept ∙ told) left are)) (c.loop-batch.invariant.sought m told rows stores)

pub returns-in-Ok-None-clause-moved : goal.returns-in-Ok-None-clause-moved
returns-in-Ok-None-clause-moved g c = moved_join g.D.Disk c.loop-batch.invariant.moved c.next.ensures.moved

pub returns-in-Err-next-clause-unblamed : goal.returns-in-Err-next-clause-unblamed
returns-in-Err-next-clause-unblamed g c = λ m told rows stores.
    let was = c.loop-batch.invariant.sought m told rows stores in
    c.in-Err-next.ensures.unblamed m (c.loop-batch.invariant.kept ∙ told) was.rest was.left

pub returns-in-Err-next-clause-blamed : goal.returns-in-Err-next-clause-blamed
returns-in-Err-next-clause-blamed g c =
    subst (λ (h : Option Contents). BlamesRows c.args.store.now.stored.entry h c.in-Err-next.fault) c.loop-batch.invariant.kept (c.in-Err-next.ensures.blamed c.loop-batch.invariant.at_hand)

pub returns-in-Err-next-clause-moved : goal.returns-in-Err-next-clause-moved
returns-in-Err-next-clause-moved g c = moved_join g.D.Disk c.loop-batch.invariant.moved c.next.ensures.moved

pub returns-in-Err-sift_batch-clause-moved : goal.returns-in-Err-sift_batch-clause-moved
returns-in-Err-sift_batch-clause-moved g c = moved_join g.D.Disk c.loop-batch.invariant.moved c.next.ensures.moved

pub loop-batch-preserved : goal.loop-batch-preserved
loop-batch-preserved g c =
    let p = c.args.store.now.stored in
    record {
      sought = λ m told rows stores. sought_more m p c.args.keeps.now c.args.epoch c.args.places.items c.loop-batch.scan.bounds (Wanted c.args.gone.now) c.loop-batch.scan c.next.new.self rows (need_in c.loop-batch.wants) (need_in c.sift_batch.new.wants) c.loop-batch.out.items
          c.sift_batch.new.out.items c.in-Ok-Some.batch c.loop-batch.invariant.bounded c.loop-batch.invariant.epoch_is c.loop-batch.invariant.places_are refl c.loop-batch.invariant.stamps_are
          (λ left are. subst (λ (o : Option Shown). Gives m p c.loop-batch.scan c.next.new.self left o) c.in-Ok-Some.field-0-is
          (c.in-Ok-Some.ensures.gives m (c.loop-batch.invariant.kept ∙ told) left are)) c.in-Ok-sift_batch.ensures.sifted (c.loop-batch.invariant.sought m told rows stores);
      bounded = subst (λ (w : List Bound). Bounded c.args.keeps.now w) (sym c.in-Ok-Some.ensures.same.bounds) c.loop-batch.invariant.bounded;
      scan_of = c.in-Ok-Some.ensures.scan;
      at_hand = c.in-Ok-Some.ensures.at_hand c.loop-batch.invariant.at_hand;
      epoch_is = c.in-Ok-Some.ensures.same.epoch ∙ c.loop-batch.invariant.epoch_is;
      places_are = c.in-Ok-Some.ensures.same.places ∙ c.loop-batch.invariant.places_are;
      stamps_are = c.in-Ok-Some.ensures.same.stamps ∙ c.loop-batch.invariant.stamps_are;
      valid = c.in-Ok-sift_batch.ensures.valid;
      kept = c.next.ensures.kept ∙ c.loop-batch.invariant.kept;
      moved = moved_join g.D.Disk c.loop-batch.invariant.moved c.next.ensures.moved;
    }
