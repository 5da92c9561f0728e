use Rattle.std.proofs.Common.{◌∙◌, ◌∷◌, [], refl, subst}
use Rattle.std.specs.Prelude.{Option}
use Rattle.common_laws.specs.Maps.{Contents}
use Rattle.table_store.specs.Faults.{BlamesStored}
use Rattle.std.proofs.lemmas.List.Elements.{All-head, All-tail}
use Rattle.col_disk.proofs.Moving.{moved_join}
use Rattle.store_query.specs.Reading.{IsOver}
use Rattle.store_query.proofs.Counted.{reads_first, reads_none}
use Rattle.store_query.proofs.ItemRows.{items_read}
use Rattle.store_query.proofs.sources.run_of.Goals as goal

pub feed_item-requires-clause-run : goal.feed_item-requires-clause-run
feed_item-requires-clause-run g c = (c.in-Ok.more.items, [], c.in-Ok-new.ensures)

pub returns-in-Err-clause-unblamed : goal.returns-in-Err-clause-unblamed
returns-in-Err-clause-unblamed g c = λ m told d read over. c.in-Err.ensures.unblamed m told d read (All-tail (IsOver d.tables) c.args.first c.args.others.now over)

pub returns-in-Ok-feed_item-clause-read : goal.returns-in-Ok-feed_item-clause-read
returns-in-Ok-feed_item-clause-read g c = λ m told d read over.
    items_read c.args.at c.args.changes.now c.args.query.now d c.args.first c.args.others.now c.in-Ok.more.items c.in-Ok.more.items c.in-Ok-new.run' c.feed_item.new.run refl
    (c.in-Ok.ensures.suffice m told d read) c.in-Ok-new.ensures
    (c.in-Ok-feed_item.ensures.taken m (c.rows_of_items.ensures.kept ∙ told) d read (All-head (IsOver d.tables) c.args.first c.args.others.now over))

pub returns-in-Ok-feed_item-clause-moved : goal.returns-in-Ok-feed_item-clause-moved
returns-in-Ok-feed_item-clause-moved g c = moved_join g.D.Disk c.rows_of_items.ensures.moved c.feed_item.ensures.moved

pub returns-in-Err-feed_item-clause-unblamed : goal.returns-in-Err-feed_item-clause-unblamed
returns-in-Err-feed_item-clause-unblamed g c = λ m told d read over.
    c.in-Err-feed_item.ensures.unblamed m (c.rows_of_items.ensures.kept ∙ told) d read (All-head (IsOver d.tables) c.args.first c.args.others.now over)

pub returns-in-Err-feed_item-clause-blamed : goal.returns-in-Err-feed_item-clause-blamed
returns-in-Err-feed_item-clause-blamed g c = subst (λ (h : Option Contents). BlamesStored c.args.tables.now.stores h c.in-Err-feed_item.fault) c.rows_of_items.ensures.kept c.in-Err-feed_item.ensures.blamed

pub returns-in-Err-feed_item-clause-moved : goal.returns-in-Err-feed_item-clause-moved
returns-in-Err-feed_item-clause-moved g c = moved_join g.D.Disk c.rows_of_items.ensures.moved c.feed_item.ensures.moved

pub returns-in-Err-clause-steps : goal.returns-in-Err-clause-steps
returns-in-Err-clause-steps g c = λ m told.
    let none = reads_none m c.args.tables.now c.args.query.now (c.args.first ∷ []) c.rows_of_items.new.steps c.rows_of_items.new.steps refl in
    reads_first m c.args.tables.now c.args.query.now c.args.first c.args.others.now c.args.steps.now c.rows_of_items.new.steps c.rows_of_items.new.steps (c.rows_of_items.ensures.steps m told) none

pub returns-in-Err-new-clause-steps : goal.returns-in-Err-new-clause-steps
returns-in-Err-new-clause-steps g c = λ m told.
    let none = reads_none m c.args.tables.now c.args.query.now (c.args.first ∷ []) c.rows_of_items.new.steps c.rows_of_items.new.steps refl in
    reads_first m c.args.tables.now c.args.query.now c.args.first c.args.others.now c.args.steps.now c.rows_of_items.new.steps c.rows_of_items.new.steps (c.rows_of_items.ensures.steps m told) none

pub returns-in-Ok-feed_item-clause-steps : goal.returns-in-Ok-feed_item-clause-steps
returns-in-Ok-feed_item-clause-steps g c = λ m told.
    reads_first m c.args.tables.now c.args.query.now c.args.first c.args.others.now c.args.steps.now c.rows_of_items.new.steps c.feed_item.new.steps (c.rows_of_items.ensures.steps m told)
    (c.feed_item.ensures.steps m (c.rows_of_items.ensures.kept ∙ told))

pub returns-in-Err-feed_item-clause-steps : goal.returns-in-Err-feed_item-clause-steps
returns-in-Err-feed_item-clause-steps g c = λ m told.
    reads_first m c.args.tables.now c.args.query.now c.args.first c.args.others.now c.args.steps.now c.rows_of_items.new.steps c.feed_item.new.steps (c.rows_of_items.ensures.steps m told)
    (c.feed_item.ensures.steps m (c.rows_of_items.ensures.kept ∙ told))
