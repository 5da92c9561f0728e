use Rattle.std.proofs.Common.{◌≡◌, ◌∙◌, ap, length, map, rules, subst}
use Rattle.std.proofs.lemmas.List.{length-take-le}
use Rattle.col_disk.proofs.Moving.{moved_none, moved_still, moved_join}
use Rattle.catalog_types.specs.declared.catalogue.Projection.{Projection}
use Rattle.ros_container.specs.Encodings.{written_of}
use Rattle.container_writer.specs.Ordered.{stamped_of}
use Rattle.container_writer.specs.Writing.{listed, HoldsBag}
use Rattle.container_cut.proofs.Fronts.{front_written, front_within}
use Rattle.moveout_job.specs.OnDisk.{beside}
use Rattle.purge_job.proofs.Anew.{rewrite_purges}
use Rattle.purge_job.proofs.Vectors.{rewritten_vector}
use Rattle.purge_job.proofs.one.rewrite.Goals as goal

pub returns-in-Err-clause-moved : goal.returns-in-Err-clause-moved
returns-in-Err-clause-moved g c = moved_none g.D.Disk c.args.disk.now

pub returns-in-Err-read_kept-clause-moved : goal.returns-in-Err-read_kept-clause-moved
returns-in-Err-read_kept-clause-moved g c = moved_still g.D.Disk c.read_kept.ensures.moved

pub returns-in-Err-refs-clause-moved : goal.returns-in-Err-refs-clause-moved
returns-in-Err-refs-clause-moved g c = moved_still g.D.Disk c.read_kept.ensures.moved

pub returns-in-Ok-write_stamped-clause-purged : goal.returns-in-Ok-write_stamped-clause-purged
returns-in-Ok-write_stamped-clause-purged g c =
    let p = c.args.shape.now in
    let k = c.args.container.now in
    let le = c.requires.readable.of_columns.most in
    let columns = ap (λ (q : Projection). length q.columns) c.in-Ok.ensures ∙ length-take-le k.stored p.columns le in
    let written = c.in-Ok-write_stamped.written in
    let kept = c.in-Ok-read_kept.kept.items in
    let same : map stamped_of c.in-Ok-refs.rows.items ≡ kept = search rules in
    rewrite_purges g.D.Disk c.one_container.ensures c.args.mark c.args.next written.next (length c.in-Ok.front.columns) (written_of p) (written_of c.in-Ok.front) k (beside c.args.held.now c.args.fresh.now) written.container kept columns
    (front_within k p le) (ap written_of c.in-Ok.ensures ∙ front_written k p) c.in-Ok-read_kept.ensures.found
    (λ n left. subst (HoldsBag n (written_of c.in-Ok.front) (listed written.container)) same (c.in-Ok-write_stamped.ensures.held n left)) c.in-Ok-write_stamped.ensures.numbers
    (moved_join g.D.Disk (moved_still g.D.Disk c.read_kept.ensures.moved) c.write_stamped.ensures.moved)

pub returns-in-Ok-write_stamped-clause-moved : goal.returns-in-Ok-write_stamped-clause-moved
returns-in-Ok-write_stamped-clause-moved g c = moved_join g.D.Disk (moved_still g.D.Disk c.read_kept.ensures.moved) c.write_stamped.ensures.moved

pub returns-clause-moved : goal.returns-clause-moved
returns-clause-moved g c = moved_join g.D.Disk (moved_still g.D.Disk c.read_kept.ensures.moved) c.write_stamped.ensures.moved

pub returns-in-Ok-write_stamped-clause-vector : goal.returns-in-Ok-write_stamped-clause-vector
returns-in-Ok-write_stamped-clause-vector g c = λ n told.
    let written = c.in-Ok-write_stamped.written in
    rewritten_vector (length c.in-Ok.front.columns) c.args.next written.next n (written_of c.in-Ok.front) c.args.container.now written.container (map stamped_of c.in-Ok-refs.rows.items) c.in-Ok-write_stamped.ensures.numbers
    (c.in-Ok-write_stamped.ensures.held n told)
