use Rattle.std.proofs.Common.{◌≡◌, ◌<◌, ◌∙◌, List, ap, length, map, rules, subst, sym, arith}
use Rattle.col_disk.proofs.Moving.{moved_none}
use Rattle.del_vector.specs.Marks.{epoch_at}
use Rattle.ros_container.specs.Encodings.{written_of}
use Rattle.stored_rows.specs.Held.{stamped_from}
use Rattle.container_writer.specs.declared.refs.Keyed.{Keyed}
use Rattle.container_writer.specs.Ordered.{asked_of, del_at, stamped_of}
use Rattle.container_writer.specs.Writing.{HoldsOne}
use Rattle.container_writer.proofs.Filled.{some_written, bag_of_one, numbered}
use Rattle.container_writer.proofs.writing.write_stamped.Goals as goal

pub returns-then-is_empty-clause-moved : goal.returns-then-is_empty-clause-moved
returns-then-is_empty-clause-moved g c = moved_none g.D.Disk c.args.disk.now

pub returns-then-columns-gt64-clause-moved : goal.returns-then-columns-gt64-clause-moved
returns-then-columns-gt64-clause-moved g c = moved_none g.D.Disk c.args.disk.now

pub returns-in-Err-clause-moved : goal.returns-in-Err-clause-moved
returns-in-Err-clause-moved g c = moved_none g.D.Disk c.args.disk.now

pub returns-in-Err-vector_of-clause-moved : goal.returns-in-Err-vector_of-clause-moved
returns-in-Err-vector_of-clause-moved g c = moved_none g.D.Disk c.args.disk.now

pub write_marked-requires-clause-some : goal.write_marked-requires-clause-some
write_marked-requires-clause-some g c =
    let sorted : c.as_slice-2.result.now ≡ c.in-Ok.sorted.items = search rules in
    let some : 0 < length c.args.rows.items = search rules in
    subst (λ (ks : List Keyed). 0 < length ks) (sym sorted) (some_written c.args.rows.items c.in-Ok.sorted.items c.in-Ok.ensures.same some)

pub returns-in-Ok-write_marked-clause-held : goal.returns-in-Ok-write_marked-clause-held
returns-in-Ok-write_marked-clause-held g c =
    let sorted : c.as_slice.result.now ≡ c.in-Ok.sorted.items = search rules in
    let again : c.as_slice-2.result.now ≡ c.in-Ok.sorted.items = search rules in
    λ m told.
    bag_of_one m (written_of c.args.shape.now) c.in-Ok-write_marked.container (map stamped_of c.args.rows.items) c.in-Ok.sorted.items c.in-Ok-vector_of.marks.marks
    (λ i. c.in-Ok-vector_of.ensures.deleted i ∙ ap (λ (ks : List Keyed). del_at ks i) sorted) c.in-Ok.ensures.same
    (subst (λ (ks : List Keyed). HoldsOne m (written_of c.args.shape.now) c.in-Ok-write_marked.container (stamped_from 0 (epoch_at c.in-Ok-vector_of.marks.marks) (map asked_of ks))) again (c.in-Ok-write_marked.ensures.held m told))

pub returns-in-Ok-write_marked-clause-numbers : goal.returns-in-Ok-write_marked-clause-numbers
returns-in-Ok-write_marked-clause-numbers g c =
    let made = c.in-Ok-write_marked.ensures in
    let sorted : c.as_slice-2.result.now ≡ c.in-Ok.sorted.items = search rules in
    let some : 0 < length c.args.rows.items = search rules in
    let rows = made.rows in
    let there = some_written c.args.rows.items c.in-Ok.sorted.items c.in-Ok.ensures.same some in
    let columns = ap length c.as_slice-columns.ensures in
    let few = c.if-columns-gt64.false in
    numbered (length c.args.shape.now.columns) c.args.next c.behind.result c.in-Ok-write_marked.container (omega (arith, columns, few)) (omega (arith, c.if-next-ge-MOST_NUMBERS.false))
    (omega (arith, rows, there, ap length sorted)) made.stored made.base made.vector c.behind.ensures
