use Rattle.std.proofs.Common.{ℕ, List, length, ◌<◌, ◌^◌, refl, inl, inr, subst, ◌∙◌}
use Rattle.col_disk.proofs.Moving.{moved_join, moved_write, moved_none}
use Rattle.col_file.specs.Column.{body_spelling}
use Rattle.col_file.proofs.Readable.{held_after}
use Rattle.col_file.proofs.Written.{column_there}
use Rattle.col_file.proofs.column.write_column.Goals as goal

pub returns-in-Ok-write-clause-written : goal.returns-in-Ok-write-clause-written
returns-in-Ok-write-clause-written g c =
    column_there c.args.encoding (g.D.Disk.holds c.args.disk.now) (g.D.Disk.holds c.write.new.self) (g.D.Disk.holds c.write-in-Ok-write.new.self) c.args.body c.args.index c.as_slice.result.now c.as_slice-in-Ok-write.result.now c.args.values.now c.write-in-Ok-write.result c.requires.apart
    (c.as_slice.ensures.value ∙ c.in-Ok.ensures.bytes.0) (c.as_slice-in-Ok-write.ensures.value ∙ c.in-Ok.ensures.bytes.1) c.in-Ok-write.ensures.writes.contents c.write-in-Ok-write.ensures.writes.contents

pub returns-in-Ok-write-clause-held : goal.returns-in-Ok-write-clause-held
returns-in-Ok-write-clause-held g c =
    let small : length (body_spelling c.args.encoding c.args.values.now) < 2 ^ 64 = subst (λ (b : List ℕ). length b < 2 ^ 64) c.in-Ok.ensures.bytes.0 c.in-Ok.ensures.small in
    held_after c.args.encoding c.args.body c.args.index (g.D.Disk.holds c.write-in-Ok-write.new.self) c.args.values.now c.write-in-Ok-write.result c.requires.some c.have_spellings.ensures.few c.have_spellings.ensures.spelled c.requires.kinds small (returns-in-Ok-write-clause-written g c)

pub returns-in-Ok-write-clause-moved : goal.returns-in-Ok-write-clause-moved
returns-in-Ok-write-clause-moved g c = moved_join g.D.Disk (moved_write g.D.Disk (inl refl) c.write.ensures.writes) (moved_write g.D.Disk (inr refl) c.write-in-Ok-write.ensures.writes)

pub returns-in-Err-clause-moved : goal.returns-in-Err-clause-moved
returns-in-Err-clause-moved g c = moved_none g.D.Disk c.args.disk.now

pub returns-clause-moved : goal.returns-clause-moved
returns-clause-moved g c = moved_write g.D.Disk (inl refl) c.write.ensures.writes
