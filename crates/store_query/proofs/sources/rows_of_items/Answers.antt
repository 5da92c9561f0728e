use Rattle.std.proofs.Common.{◌+◌, ◌∙◌, [], List, get_or, refl, sym, subst}
use Rattle.std.specs.Prelude.{Option}
use Rattle.std.specs.List.{All, AllZip}
use Rattle.common_laws.specs.Maps.{Contents}
use Rattle.table_store.specs.Faults.{BlamesStored}
use Rattle.std.proofs.lemmas.List.Elements.{All-nil, All-push}
use Rattle.col_disk.proofs.Moving.{moved_join, moved_none}
use Rattle.col_value.specs.declared.value.Value.{Value}
use Rattle.col_value.specs.Order.{IsRow}
use Rattle.exec_scan.proofs.Indexed.{zip_more}
use Rattle.store_query.specs.Reading.{Suffice}
use Rattle.store_query.proofs.Counted.{reads_more, reads_none, reads_upto}
use Rattle.store_query.proofs.ItemRows.{blank}
use Rattle.store_query.proofs.sources.rows_of_items.Goals as goal

pub loop-item-init : goal.loop-item-init
loop-item-init g c = record {
  suffice = λ m told d read. subst (λ (xs : List (List (List Value))). AllZip (Suffice c.args.at c.args.changes.now c.args.query.now d) [] xs) (sym c.new-out.ensures.items) tt;
  valid = subst (λ (xs : List (List (List Value))). All (All IsRow) xs) (sym c.new-out.ensures.items) (All-nil (All IsRow));
  counted = λ m told. reads_none m c.args.tables.now c.args.query.now [] c.args.steps.now c.args.steps.now refl;
  kept = refl;
  moved = moved_none g.D.Disk c.args.disk.now;
}

pub returns-in-Err-clause-blamed : goal.returns-in-Err-clause-blamed
returns-in-Err-clause-blamed g c = subst (λ (h : Option Contents). BlamesStored c.args.tables.now.stores h c.in-Err.fault) c.loop-item.invariant.kept c.in-Err.ensures.blamed

pub returns-in-Err-clause-moved : goal.returns-in-Err-clause-moved
returns-in-Err-clause-moved g c = moved_join g.D.Disk c.loop-item.invariant.moved c.rows_of_item.ensures.moved

pub returns-in-Err-push-clause-moved : goal.returns-in-Err-push-clause-moved
returns-in-Err-push-clause-moved g c = moved_join g.D.Disk c.loop-item.invariant.moved c.rows_of_item.ensures.moved

pub loop-item-preserved : goal.loop-item-preserved
loop-item-preserved g c =
    let was = c.loop-item.invariant in
    record {
      suffice = λ m told d read. zip_more (Suffice c.args.at c.args.changes.now c.args.query.now d) c.args.items.now c.loop-item.out.items c.push.new.self.items c.loop-item.item-index blank c.new.result c.loop-item-test.true
          c.in-Ok-push.ensures.items (was.suffice m told d read)
          (subst (λ (xs : List (List Value)). Suffice c.args.at c.args.changes.now c.args.query.now d (get_or c.args.items.now c.loop-item.item-index blank) xs) (sym c.new.ensures)
          (c.in-Ok.ensures.suffice m (was.kept ∙ told) d read));
      valid = subst (λ (xs : List (List (List Value))). All (All IsRow) xs) (sym c.in-Ok-push.ensures.items)
          (All-push (All IsRow) c.loop-item.out.items c.new.result was.valid (subst (λ (xs : List (List Value)). All IsRow xs) (sym c.new.ensures) c.in-Ok.ensures.valid));
      counted = λ m told. reads_more m c.args.tables.now c.args.query.now c.args.items.now c.loop-item.item-index blank c.args.steps.now c.loop-item.steps c.rows_of_item.new.steps c.loop-item-test.true (was.counted m told)
          (c.rows_of_item.ensures.steps m (was.kept ∙ told));
      kept = c.rows_of_item.ensures.kept ∙ was.kept;
      moved = moved_join g.D.Disk was.moved c.rows_of_item.ensures.moved;
    }

pub returns-in-Err-clause-steps : goal.returns-in-Err-clause-steps
returns-in-Err-clause-steps g c = λ m told.
    reads_upto m c.args.tables.now c.args.query.now c.args.items.now (c.loop-item.item-index + 1) c.args.steps.now c.rows_of_item.new.steps
    (reads_more m c.args.tables.now c.args.query.now c.args.items.now c.loop-item.item-index blank c.args.steps.now c.loop-item.steps c.rows_of_item.new.steps c.loop-item-test.true (c.loop-item.invariant.counted m told)
    (c.rows_of_item.ensures.steps m (c.loop-item.invariant.kept ∙ told)))

pub returns-in-Err-push-clause-steps : goal.returns-in-Err-push-clause-steps
returns-in-Err-push-clause-steps g c = λ m told.
    reads_upto m c.args.tables.now c.args.query.now c.args.items.now (c.loop-item.item-index + 1) c.args.steps.now c.rows_of_item.new.steps
    (reads_more m c.args.tables.now c.args.query.now c.args.items.now c.loop-item.item-index blank c.args.steps.now c.loop-item.steps c.rows_of_item.new.steps c.loop-item-test.true (c.loop-item.invariant.counted m told)
    (c.rows_of_item.ensures.steps m (c.loop-item.invariant.kept ∙ told)))

pub returns-clause-steps : goal.returns-clause-steps
returns-clause-steps g c = λ m told. reads_upto m c.args.tables.now c.args.query.now c.args.items.now c.loop-item.item-index c.args.steps.now c.loop-item.steps (c.loop-item.invariant.counted m told)
