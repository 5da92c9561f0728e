use Rattle.std.proofs.Common.{◌≡◌, length, map, rules, subst}
use Rattle.std.specs.Prelude.{Some}
use Rattle.common_laws.specs.Maps.{Contents}
use Rattle.catalog_types.specs.declared.catalogue.Projection.{Projection}
use Rattle.col_disk.proofs.Moving.{moved_none, moved_join}
use Rattle.ros_container.specs.Encodings.{written_of}
use Rattle.container_writer.specs.Ordered.{stamped_of}
use Rattle.container_writer.specs.Writing.{listed, HoldsBag, AreNumbered}
use Rattle.moveout_job.specs.OnDisk.{moved_to}
use Rattle.moveout_job.proofs.Renewed.{later_data}
use Rattle.moveout_job.proofs.Assembled.{of_entry, moves_out, lists_below, loads, counts}
use Rattle.moveout_job.proofs.Vectors.{entry_vectors}
use Rattle.moveout_job.proofs.job.moveout.Goals as goal

pub returns-in-Err-clause-moved : goal.returns-in-Err-clause-moved
returns-in-Err-clause-moved g c = moved_none g.D.Disk c.args.disk.now

pub returns-in-Err-write_stamped-clause-moved : goal.returns-in-Err-write_stamped-clause-moved
returns-in-Err-write_stamped-clause-moved g c =
    moved_join g.D.Disk c.mark_each.ensures.moved (later_data g.D.Disk c.args.next c.in-Ok-mark_each.marked.next c.in-Ok-mark_each.ensures.next c.write_stamped.ensures.moved)

pub returns-in-Ok-moved_entry-clause-held : goal.returns-in-Ok-moved_entry-clause-held
returns-in-Ok-moved_entry-clause-held g c =
    let p = c.args.p.now.stored in
    let js = c.in-Ok-mark_each.marked.containers.items in
    let made = c.in-Ok-write_stamped.written.container in
    let rows = map stamped_of c.in-Ok.rows.items in
    let are : rows ≡ p.unsaved = search rules in
    let is : c.in-Ok-moved_entry.entry ≡ moved_to c.args.last js made p.entry = of_entry c.args.last js made c.entry-2.result.now p.entry c.in-Ok-moved_entry.entry c.in-Ok-moved_entry.ensures c.entry-2.ensures.entry in
    moves_out g.D.Disk c.args.last c.args.next c.in-Ok-mark_each.marked.next p c.in-Ok-moved_entry.entry js made rows is c.in-Ok-mark_each.ensures.held c.write_stamped.ensures.moved
    (subst (λ (e : Projection). (m : Contents) → g.D.Disk.holds c.write_stamped.new.disk ≡ Some m → HoldsBag m (written_of e) (listed made) rows) c.entry.ensures.entry c.in-Ok-write_stamped.ensures.held) are

pub returns-in-Ok-moved_entry-clause-below : goal.returns-in-Ok-moved_entry-clause-below
returns-in-Ok-moved_entry-clause-below g c =
    let p = c.args.p.now.stored in
    let js = c.in-Ok-mark_each.marked.containers.items in
    let made = c.in-Ok-write_stamped.written.container in
    let mid = c.in-Ok-mark_each.marked.next in
    let after = c.in-Ok-write_stamped.written.next in
    let is : c.in-Ok-moved_entry.entry ≡ moved_to c.args.last js made p.entry = of_entry c.args.last js made c.entry-2.result.now p.entry c.in-Ok-moved_entry.entry c.in-Ok-moved_entry.ensures c.entry-2.ensures.entry in
    lists_below c.args.last c.args.next mid after p.entry c.in-Ok-moved_entry.entry js made is c.in-Ok-mark_each.ensures.next c.in-Ok-mark_each.ensures.each
    (subst (λ (e : Projection). AreNumbered (length e.columns) mid after made) c.entry.ensures.entry c.in-Ok-write_stamped.ensures.numbers)

pub returns-in-Ok-moved_entry-clause-count : goal.returns-in-Ok-moved_entry-clause-count
returns-in-Ok-moved_entry-clause-count g c =
    let p = c.args.p.now.stored in
    let js = c.in-Ok-mark_each.marked.containers.items in
    let made = c.in-Ok-write_stamped.written.container in
    let is : c.in-Ok-moved_entry.entry ≡ moved_to c.args.last js made p.entry = of_entry c.args.last js made c.entry-2.result.now p.entry c.in-Ok-moved_entry.entry c.in-Ok-moved_entry.ensures c.entry-2.ensures.entry in
    counts c.args.last c.args.next c.in-Ok-mark_each.marked.next p.entry c.in-Ok-moved_entry.entry js made is c.in-Ok-mark_each.ensures.each

pub returns-in-Ok-moved_entry-clause-loadable : goal.returns-in-Ok-moved_entry-clause-loadable
returns-in-Ok-moved_entry-clause-loadable g c =
    let p = c.args.p.now.stored in
    let js = c.in-Ok-mark_each.marked.containers.items in
    let made = c.in-Ok-write_stamped.written.container in
    let mid = c.in-Ok-mark_each.marked.next in
    let after = c.in-Ok-write_stamped.written.next in
    let is : c.in-Ok-moved_entry.entry ≡ moved_to c.args.last js made p.entry = of_entry c.args.last js made c.entry-2.result.now p.entry c.in-Ok-moved_entry.entry c.in-Ok-moved_entry.ensures c.entry-2.ensures.entry in
    loads c.args.last c.args.next mid after p.entry c.in-Ok-moved_entry.entry js made is c.entry.ensures.sound.loadable c.in-Ok-mark_each.ensures.each
    (subst (λ (e : Projection). AreNumbered (length e.columns) mid after made) c.entry.ensures.entry c.in-Ok-write_stamped.ensures.numbers)

pub returns-in-Ok-moved_entry-clause-moved : goal.returns-in-Ok-moved_entry-clause-moved
returns-in-Ok-moved_entry-clause-moved g c =
    moved_join g.D.Disk c.mark_each.ensures.moved (later_data g.D.Disk c.args.next c.in-Ok-mark_each.marked.next c.in-Ok-mark_each.ensures.next c.write_stamped.ensures.moved)

pub returns-in-Err-moved_entry-clause-moved : goal.returns-in-Err-moved_entry-clause-moved
returns-in-Err-moved_entry-clause-moved g c =
    moved_join g.D.Disk c.mark_each.ensures.moved (later_data g.D.Disk c.args.next c.in-Ok-mark_each.marked.next c.in-Ok-mark_each.ensures.next c.write_stamped.ensures.moved)

pub returns-in-Ok-moved_entry-clause-vectors : goal.returns-in-Ok-moved_entry-clause-vectors
returns-in-Ok-moved_entry-clause-vectors g c =
    let p = c.args.p.now.stored in
    let js = c.in-Ok-mark_each.marked.containers.items in
    let made = c.in-Ok-write_stamped.written.container in
    let rows = map stamped_of c.in-Ok.rows.items in
    let is : c.in-Ok-moved_entry.entry ≡ moved_to c.args.last js made p.entry = of_entry c.args.last js made c.entry-2.result.now p.entry c.in-Ok-moved_entry.entry c.in-Ok-moved_entry.ensures c.entry-2.ensures.entry in
    entry_vectors g.D.Disk c.args.last c.in-Ok-mark_each.marked.next c.in-Ok-write_stamped.written.next (length c.entry.result.now.columns) (written_of c.entry.result.now) p.entry c.in-Ok-moved_entry.entry js made rows is c.in-Ok-write_stamped.ensures.numbers
    c.write_stamped.ensures.moved c.in-Ok-mark_each.ensures.vectors c.in-Ok-write_stamped.ensures.held
