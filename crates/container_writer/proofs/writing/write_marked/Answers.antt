use Rattle.std.proofs.Common.{◌≡◌, ◌≤◌, ◌+◌, ◌∙◌, ap, length, map, rules, arith}
use Rattle.catalog_types.specs.Numbers.{file_count}
use Rattle.col_disk.proofs.Moving.{moved_join, moved_wider}
use Rattle.ros_container.specs.Encodings.{written_of}
use Rattle.container_writer.specs.Ordered.{asked_of}
use Rattle.container_writer.proofs.Filled.{both_ok, one_held, rows_are_data, vector_is_data}
use Rattle.container_writer.proofs.writing.write_marked.Goals as goal

pub returns-in-Err-clause-moved : goal.returns-in-Err-clause-moved
returns-in-Err-clause-moved g c = moved_wider g.D.Disk (rows_are_data c.args.base (length c.args.shape.now.columns)) (λ q is. is) c.write_rows.ensures.moved

pub returns-clause-held : goal.returns-clause-held
returns-clause-held g c =
    let columns = length c.args.shape.now.columns in
    let behind : c.args.base + c.files_of.result ≡ c.args.base + file_count columns = search rules in
    both_ok _ _ _ c.write_vector.result
    (λ k is vector.
    one_held g.D.Disk (written_of c.args.shape.now) columns c.args.base (c.args.base + c.files_of.result) (length c.args.rows.now) c.entry_of-entry.result k (map asked_of c.args.rows.now) c.args.marks.now.marks
    (c.entry_of-entry.ensures.stored ∙ ap length c.as_slice-columns.ensures) behind c.entry_of-entry.ensures.base c.entry_of-entry.ensures.rows c.entry_of-entry.ensures.within is c.in-Ok.ensures.held vector
    c.write_vector.ensures.moved)
    c.write_vector.ensures.entry c.write_vector.ensures.held

pub returns-clause-moved : goal.returns-clause-moved
returns-clause-moved g c =
    let base = c.args.base in
    let le : base ≤ base + c.files_of.result = omega arith in
    moved_join g.D.Disk (moved_wider g.D.Disk (rows_are_data base (length c.args.shape.now.columns)) (λ q is. is) c.write_rows.ensures.moved)
    (moved_wider g.D.Disk (λ q is. vector_is_data base (base + c.files_of.result) q le is) (λ q is. is) c.write_vector.ensures.moved)
