use Rattle.std.proofs.Common.{◌≡◌, ◌≤◌, ◌+◌, ◌*◌, length, map, rules, arith, subst}
use Rattle.std.specs.Prelude.{Some}
use Rattle.common_laws.specs.Maps.{Contents}
use Rattle.catalog_types.specs.declared.catalogue.Projection.{Projection}
use Rattle.col_disk.proofs.Moving.{moved_none, moved_join}
use Rattle.row_history.specs.History.{retained}
use Rattle.ros_container.specs.Encodings.{written_of}
use Rattle.container_writer.specs.Ordered.{stamped_of}
use Rattle.container_writer.specs.Writing.{listed, HoldsBag, AreNumbered}
use Rattle.moveout_job.proofs.Renewed.{later_data}
use Rattle.purge_job.specs.Purging.{purged_to}
use Rattle.purge_job.proofs.Anew.{numbers_later}
use Rattle.purge_job.proofs.Assembled.{counts, fault_blames, is_purged, keeps_from, loads, of_entry, purges, reaches}
use Rattle.purge_job.proofs.Turns.{numbers_more}
use Rattle.purge_job.proofs.Vectors.{loads_blamed, purged_vectors}
use Rattle.purge_job.proofs.job.purge_one.Goals as goal

pub returns-in-Err-clause-moved : goal.returns-in-Err-clause-moved
returns-in-Err-clause-moved g c = moved_none g.D.Disk c.args.disk.now

pub returns-in-Err-write_stamped-clause-moved : goal.returns-in-Err-write_stamped-clause-moved
returns-in-Err-write_stamped-clause-moved g c =
    moved_join g.D.Disk c.purge_each.ensures.moved (later_data g.D.Disk c.args.next c.in-Ok-purge_each.each.next c.in-Ok-purge_each.ensures.next c.write_stamped.ensures.moved)

pub returns-in-Ok-purged_entry-clause-entry : goal.returns-in-Ok-purged_entry-clause-entry
returns-in-Ok-purged_entry-clause-entry g c =
    let p = c.args.p.now.stored in
    let each = c.in-Ok-purge_each.each in
    let written = c.in-Ok-write_stamped.written in
    let entry = c.in-Ok-purged_entry.entry in
    let is : entry ≡ purged_to each.containers.items written.container p.entry = of_entry each.containers.items written.container c.entry-shape.result.now p.entry entry c.in-Ok-purged_entry.ensures c.entry-shape.ensures.entry in
    is_purged c.args.next each.next written.next p.entry entry each.containers.items written.container is c.in-Ok-purge_each.ensures.next c.in-Ok-purge_each.ensures.fewer
    (subst (λ (e : Projection). AreNumbered (length e.columns) each.next written.next written.container) c.entry-shape.ensures.entry c.in-Ok-write_stamped.ensures.numbers) c.in-Ok-write_stamped.ensures.level

pub returns-in-Ok-purged_entry-clause-purged : goal.returns-in-Ok-purged_entry-clause-purged
returns-in-Ok-purged_entry-clause-purged g c =
    let p = c.args.p.now.stored in
    let each = c.in-Ok-purge_each.each in
    let written = c.in-Ok-write_stamped.written in
    let entry = c.in-Ok-purged_entry.entry in
    let rows = map stamped_of c.in-Ok.rows.items in
    let are : rows ≡ retained c.args.mark p.unsaved = search rules in
    let is : entry ≡ purged_to each.containers.items written.container p.entry = of_entry each.containers.items written.container c.entry-shape.result.now p.entry entry c.in-Ok-purged_entry.ensures c.entry-shape.ensures.entry in
    purges g.D.Disk c.args.mark c.args.next each.next p entry each.containers.items written.container rows is c.in-Ok-purge_each.ensures.purged c.write_stamped.ensures.moved
    (subst (λ (e : Projection). (m : Contents) → g.D.Disk.holds c.write_stamped.new.disk ≡ Some m → HoldsBag m (written_of e) (listed written.container) rows) c.entry-shape.ensures.entry c.in-Ok-write_stamped.ensures.held) are

pub returns-in-Ok-purged_entry-clause-keeps : goal.returns-in-Ok-purged_entry-clause-keeps
returns-in-Ok-purged_entry-clause-keeps g c =
    let p = c.args.p.now.stored in
    let each = c.in-Ok-purge_each.each in
    let written = c.in-Ok-write_stamped.written in
    let entry = c.in-Ok-purged_entry.entry in
    let rows = map stamped_of c.in-Ok.rows.items in
    let are : rows ≡ retained c.args.mark p.unsaved = search rules in
    let is : entry ≡ purged_to each.containers.items written.container p.entry = of_entry each.containers.items written.container c.entry-shape.result.now p.entry entry c.in-Ok-purged_entry.ensures c.entry-shape.ensures.entry in
    λ m n told left below. keeps_from c.args.mark m n p entry
    (purges g.D.Disk c.args.mark c.args.next each.next p entry each.containers.items written.container rows is c.in-Ok-purge_each.ensures.purged c.write_stamped.ensures.moved
    (subst (λ (e : Projection). (m : Contents) → g.D.Disk.holds c.write_stamped.new.disk ≡ Some m → HoldsBag m (written_of e) (listed written.container) rows) c.entry-shape.ensures.entry c.in-Ok-write_stamped.ensures.held) are m n told left below)

pub returns-in-Ok-purged_entry-clause-count : goal.returns-in-Ok-purged_entry-clause-count
returns-in-Ok-purged_entry-clause-count g c =
    let p = c.args.p.now.stored in
    let each = c.in-Ok-purge_each.each in
    let written = c.in-Ok-write_stamped.written in
    let entry = c.in-Ok-purged_entry.entry in
    let is : entry ≡ purged_to each.containers.items written.container p.entry = of_entry each.containers.items written.container c.entry-shape.result.now p.entry entry c.in-Ok-purged_entry.ensures c.entry-shape.ensures.entry in
    counts p.entry entry each.containers.items written.container is c.in-Ok-purge_each.ensures.fewer

pub returns-in-Ok-purged_entry-clause-next : goal.returns-in-Ok-purged_entry-clause-next
returns-in-Ok-purged_entry-clause-next g c =
    let each = c.in-Ok-purge_each.each in
    let written = c.in-Ok-write_stamped.written in
    let rise = numbers_later (length c.entry-shape.result.now.columns) each.next written.next written.container c.in-Ok-write_stamped.ensures.numbers in
    let first = c.in-Ok-purge_each.ensures.next in
    omega (arith, rise, first)

pub returns-in-Ok-purged_entry-clause-upto : goal.returns-in-Ok-purged_entry-clause-upto
returns-in-Ok-purged_entry-clause-upto g c =
    let p = c.args.p.now.stored in
    let each = c.in-Ok-purge_each.each in
    let written = c.in-Ok-write_stamped.written in
    let most : written.next ≤ each.next + 2 * (length p.entry.columns + 1) + 1 =
    subst (λ (e : Projection). written.next ≤ each.next + 2 * (length e.columns + 1) + 1) c.entry-shape.ensures.entry c.in-Ok-write_stamped.ensures.upto in
    numbers_more (length p.entry.containers) (2 * length p.entry.columns + 3) c.args.next each.next written.next c.in-Ok-purge_each.ensures.upto (omega (arith, most))

pub returns-in-Ok-purged_entry-clause-later : goal.returns-in-Ok-purged_entry-clause-later
returns-in-Ok-purged_entry-clause-later g c =
    let p = c.args.p.now.stored in
    let each = c.in-Ok-purge_each.each in
    let written = c.in-Ok-write_stamped.written in
    let entry = c.in-Ok-purged_entry.entry in
    let is : entry ≡ purged_to each.containers.items written.container p.entry = of_entry each.containers.items written.container c.entry-shape.result.now p.entry entry c.in-Ok-purged_entry.ensures c.entry-shape.ensures.entry in
    reaches p.entry entry each.containers.items written.container is

pub returns-in-Ok-purged_entry-clause-loadable : goal.returns-in-Ok-purged_entry-clause-loadable
returns-in-Ok-purged_entry-clause-loadable g c =
    let p = c.args.p.now.stored in
    let each = c.in-Ok-purge_each.each in
    let written = c.in-Ok-write_stamped.written in
    let entry = c.in-Ok-purged_entry.entry in
    let is : entry ≡ purged_to each.containers.items written.container p.entry = of_entry each.containers.items written.container c.entry-shape.result.now p.entry entry c.in-Ok-purged_entry.ensures c.entry-shape.ensures.entry in
    loads each.next written.next p.entry entry each.containers.items written.container is c.entry-shape.ensures.sound.loadable c.in-Ok-purge_each.ensures.loads
    (subst (λ (e : Projection). AreNumbered (length e.columns) each.next written.next written.container) c.entry-shape.ensures.entry c.in-Ok-write_stamped.ensures.numbers)

pub returns-in-Ok-purged_entry-clause-moved : goal.returns-in-Ok-purged_entry-clause-moved
returns-in-Ok-purged_entry-clause-moved g c =
    moved_join g.D.Disk c.purge_each.ensures.moved (later_data g.D.Disk c.args.next c.in-Ok-purge_each.each.next c.in-Ok-purge_each.ensures.next c.write_stamped.ensures.moved)

pub returns-in-Err-purged_entry-clause-moved : goal.returns-in-Err-purged_entry-clause-moved
returns-in-Err-purged_entry-clause-moved g c =
    moved_join g.D.Disk c.purge_each.ensures.moved (later_data g.D.Disk c.args.next c.in-Ok-purge_each.each.next c.in-Ok-purge_each.ensures.next c.write_stamped.ensures.moved)

pub returns-in-Ok-purged_entry-clause-loads : goal.returns-in-Ok-purged_entry-clause-loads
returns-in-Ok-purged_entry-clause-loads g c = λ below fault blames.
    let p = c.args.p.now.stored in
    let each = c.in-Ok-purge_each.each in
    let written = c.in-Ok-write_stamped.written in
    let entry = c.in-Ok-purged_entry.entry in
    let is : entry ≡ purged_to each.containers.items written.container p.entry = of_entry each.containers.items written.container c.entry-shape.result.now p.entry entry c.in-Ok-purged_entry.ensures c.entry-shape.ensures.entry in
    loads_blamed g.D.Disk p.entry entry c.args.next written.next fault c.entry-shape.ensures.sound.loadable below
    (moved_join g.D.Disk c.purge_each.ensures.moved (later_data g.D.Disk c.args.next each.next c.in-Ok-purge_each.ensures.next c.write_stamped.ensures.moved))
    (purged_vectors g.D.Disk each.next written.next (length c.entry-shape.result.now.columns) (written_of c.entry-shape.result.now) p.entry entry each.containers.items written.container (map stamped_of c.in-Ok.rows.items) is
    c.in-Ok-write_stamped.ensures.numbers c.write_stamped.ensures.moved c.in-Ok-purge_each.ensures.vectors c.in-Ok-write_stamped.ensures.held) blames
