use Rattle.std.proofs.Common.{◌≡◌, ◌<◌, ◌∙◌, length, map, ap, sym, subst, rules, arith}
use Rattle.std.specs.Prelude.{IfSome, Option}
use Rattle.std.proofs.lemmas.List.{length-map}
use Rattle.catalog_types.specs.declared.catalogue.Container.{Container}
use Rattle.col_disk.proofs.Moving.{moved_none}
use Rattle.ros_container.specs.Encodings.{written_as, written_of}
use Rattle.stored_rows.specs.Held.{HoldsRows}
use Rattle.container_writer.specs.Writing.{listed}
use Rattle.container_draft.specs.Finished.{AreFinished, HasVector}
use Rattle.container_draft.specs.Placed.{asked_at, seen}
use Rattle.container_draft.proofs.Ended.{end_held, end_finished, end_low}
use Rattle.container_draft.proofs.finishing.write_end.Goals as goal

pub returns-then-next-ge-MOST_NUMBERS-clause-moved : goal.returns-then-next-ge-MOST_NUMBERS-clause-moved
returns-then-next-ge-MOST_NUMBERS-clause-moved g c = moved_none g.D.Disk c.args.disk.now

pub returns-in-Err-clause-moved : goal.returns-in-Err-clause-moved
returns-in-Err-clause-moved g c = moved_none g.D.Disk c.args.disk.now

pub returns-in-Ok-write_vector-clause-held : goal.returns-in-Ok-write_vector-clause-held
returns-in-Ok-write_vector-clause-held g c = λ done m n before after draft all behind rows asked_are dels_are.
    let shape = c.args.shape.now in
    let places = c.args.places.now in
    let many = length-map places (asked_at c.args.rows.now) in
    let some = c.requires.some in
    let made = c.entry_of-entry.ensures in
    let columns = made.stored ∙ ap length c.as_slice-columns.ensures in
    subst (λ (o : Option Container). HoldsRows n (written_of shape) (listed o) rows) (sym c.ended.ensures.container)
    (end_held g.D.Disk (written_of shape) (length shape.columns) c.args.next (seen c.args.rows.now places c.args.base done) c.entry_of-entry.result c.in-Ok-write_vector.container c.in-Ok.marks.marks c.args.dels.now (length-map shape.columns written_as)
    (omega (arith, many, some)) made.base (made.rows ∙ sym many) columns made.within c.in-Ok-write_vector.ensures.entry c.in-Ok.ensures.deleted c.in-Ok-write_vector.ensures.held c.write_vector.ensures.moved m n before after draft all behind rows asked_are
    dels_are)

pub returns-in-Ok-write_vector-clause-numbers : goal.returns-in-Ok-write_vector-clause-numbers
returns-in-Ok-write_vector-clause-numbers g c = λ done.
    let shape = c.args.shape.now in
    let places = c.args.places.now in
    let d = seen c.args.rows.now places c.args.base done in
    let made = c.entry_of-entry.ensures in
    let columns = made.stored ∙ ap length c.as_slice-columns.ensures in
    subst (AreFinished (length shape.columns) c.args.level c.args.next c.ended.result.next d) (sym c.ended.ensures.container)
    (end_finished (length shape.columns) c.args.level c.args.next c.ended.result.next (length places) d c.entry_of-entry.result c.in-Ok-write_vector.container c.in-Ok.marks.marks c.requires.some (sym (length-map places (asked_at c.args.rows.now)))
    made.base made.rows columns made.level c.in-Ok-write_vector.ensures.entry c.ended.ensures.next)

pub returns-in-Ok-write_vector-clause-low : goal.returns-in-Ok-write_vector-clause-low
returns-in-Ok-write_vector-clause-low g c = end_low c.args.next c.ended.result.next c.in-Ok-write_vector.container.marks (omega (arith, c.if-next-ge-MOST_NUMBERS.false)) c.ended.ensures.next

pub returns-in-Ok-write_vector-clause-vector : goal.returns-in-Ok-write_vector-clause-vector
returns-in-Ok-write_vector-clause-vector g c = λ n told.
    subst (λ (o : Option Container). IfSome o (HasVector n)) (sym c.ended.ensures.container) (c.in-Ok.marks.marks, c.in-Ok-write_vector.ensures.held n told)
