use Rattle.std.proofs.Common.{◌≡◌, length, map, rules, subst}
use Rattle.catalog_types.specs.declared.catalogue.Projection.{Projection}
use Rattle.col_disk.proofs.Moving.{moved_none, moved_join}
use Rattle.ros_container.specs.Encodings.{written_of}
use Rattle.container_writer.specs.Ordered.{stamped_of}
use Rattle.container_writer.specs.Writing.{listed, HoldsBag, AreNumbered}
use Rattle.moveout_job.proofs.Renewed.{later_data}
use Rattle.moveout_job.proofs.Vectors.{all_kept, written_vectors}
use Rattle.moveout_job.proofs.Remaining.{saves_others}
use Rattle.moveout_job.proofs.others.save_memory.Goals as goal

pub returns-in-Err-clause-moved : goal.returns-in-Err-clause-moved
returns-in-Err-clause-moved g c = moved_none g.D.Disk c.args.disk.now

pub returns-in-Ok-write_stamped-clause-others : goal.returns-in-Ok-write_stamped-clause-others
returns-in-Ok-write_stamped-clause-others g c =
    saves_others g.D.Disk c.args.next c.in-Ok-mark_others.marked.next c.args.left_out.now c.args.p.now.stored c.in-Ok-mark_others.marked.containers.items c.in-Ok-mark_others.ensures.held c.write_stamped.ensures.moved

pub returns-in-Ok-write_stamped-clause-memory : goal.returns-in-Ok-write_stamped-clause-memory
returns-in-Ok-write_stamped-clause-memory g c =
    let p = c.args.p.now.stored in
    let made = c.in-Ok-write_stamped.written.container in
    let rows = map stamped_of c.in-Ok.rows.items in
    let are : rows ≡ p.unsaved = search rules in
    λ n told. subst (HoldsBag n (written_of p.entry) (listed made)) are
    (subst (λ (e : Projection). HoldsBag n (written_of e) (listed made) rows) c.entry.ensures.entry (c.in-Ok-write_stamped.ensures.held n told))

pub returns-in-Ok-write_stamped-clause-saved : goal.returns-in-Ok-write_stamped-clause-saved
returns-in-Ok-write_stamped-clause-saved g c = record {
  mid = c.in-Ok-mark_others.marked.next;
  later = c.in-Ok-mark_others.ensures.next;
  each = c.in-Ok-mark_others.ensures.each;
  numbers = subst (λ (e : Projection). AreNumbered (length e.columns) c.in-Ok-mark_others.marked.next c.in-Ok-write_stamped.written.next c.in-Ok-write_stamped.written.container) c.entry.ensures.entry c.in-Ok-write_stamped.ensures.numbers;
  level = c.in-Ok-write_stamped.ensures.level;
}

pub returns-in-Ok-write_stamped-clause-moved : goal.returns-in-Ok-write_stamped-clause-moved
returns-in-Ok-write_stamped-clause-moved g c =
    moved_join g.D.Disk c.mark_others.ensures.moved (later_data g.D.Disk c.args.next c.in-Ok-mark_others.marked.next c.in-Ok-mark_others.ensures.next c.write_stamped.ensures.moved)

pub returns-in-Err-write_stamped-clause-moved : goal.returns-in-Err-write_stamped-clause-moved
returns-in-Err-write_stamped-clause-moved g c =
    moved_join g.D.Disk c.mark_others.ensures.moved (later_data g.D.Disk c.args.next c.in-Ok-mark_others.marked.next c.in-Ok-mark_others.ensures.next c.write_stamped.ensures.moved)

pub returns-in-Ok-write_stamped-clause-vectors : goal.returns-in-Ok-write_stamped-clause-vectors
returns-in-Ok-write_stamped-clause-vectors g c =
    let p = c.args.p.now.stored in
    let mid = c.in-Ok-mark_others.marked.next in
    let js = c.in-Ok-mark_others.marked.containers.items in
    written_vectors g.D.Disk mid c.in-Ok-write_stamped.written.next (length c.entry.result.now.columns) (written_of c.entry.result.now) p.entry.containers js c.in-Ok-write_stamped.written.container (map stamped_of c.in-Ok.rows.items)
    c.in-Ok-write_stamped.ensures.numbers c.write_stamped.ensures.moved (λ m told. all_kept mid m p.entry.containers js (c.in-Ok-mark_others.ensures.vectors m told)) c.in-Ok-write_stamped.ensures.held
