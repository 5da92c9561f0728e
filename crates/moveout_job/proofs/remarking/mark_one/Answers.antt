use Rattle.std.proofs.Common.{◌≡◌, length, refl, rules, inl}
use Rattle.col_disk.proofs.Moving.{moved_none}
use Rattle.moveout_job.proofs.Renewed.{unmarked, marked_anew, vector_data}
use Rattle.moveout_job.proofs.Vectors.{vector_made}
use Rattle.moveout_job.proofs.remarking.mark_one.Goals as goal

pub returns-then-is_empty-clause-held : goal.returns-then-is_empty-clause-held
returns-then-is_empty-clause-held g c =
    let none : length c.args.fresh.now ≡ 0 = search rules in
    unmarked c.args.next c.args.container.now c.args.held.now c.args.fresh.now (g.D.Disk.holds c.args.disk.now) (g.D.Disk.holds c.args.disk.now) refl none

pub returns-then-is_empty-clause-moved : goal.returns-then-is_empty-clause-moved
returns-then-is_empty-clause-moved g c = moved_none g.D.Disk c.args.disk.now

pub returns-then-next-ge-MOST_NUMBERS-clause-moved : goal.returns-then-next-ge-MOST_NUMBERS-clause-moved
returns-then-next-ge-MOST_NUMBERS-clause-moved g c = moved_none g.D.Disk c.args.disk.now

pub returns-in-Err-clause-moved : goal.returns-in-Err-clause-moved
returns-in-Err-clause-moved g c = moved_none g.D.Disk c.args.disk.now

pub returns-in-Ok-write_vector-clause-held : goal.returns-in-Ok-write_vector-clause-held
returns-in-Ok-write_vector-clause-held g c =
    marked_anew g.D.Disk c.args.next c.args.container.now c.in-Ok-write_vector.entry c.args.held.now c.args.fresh.now c.in-Ok.vector.marks c.in-Ok.ensures.epochs c.in-Ok-write_vector.ensures.entry
    c.in-Ok-write_vector.ensures.held c.write_vector.ensures.moved

pub returns-in-Ok-write_vector-clause-moved : goal.returns-in-Ok-write_vector-clause-moved
returns-in-Ok-write_vector-clause-moved g c = vector_data g.D.Disk c.args.next c.write_vector.ensures.moved

pub returns-clause-moved : goal.returns-clause-moved
returns-clause-moved g c = vector_data g.D.Disk c.args.next c.write_vector.ensures.moved

pub returns-then-is_empty-clause-vector : goal.returns-then-is_empty-clause-vector
returns-then-is_empty-clause-vector g c = λ n told. inl refl

pub returns-in-Ok-write_vector-clause-vector : goal.returns-in-Ok-write_vector-clause-vector
returns-in-Ok-write_vector-clause-vector g c = λ n told.
    vector_made n c.args.next c.args.container.now c.in-Ok-write_vector.entry c.in-Ok.vector.marks c.in-Ok-write_vector.ensures.entry (c.in-Ok-write_vector.ensures.held n told)
