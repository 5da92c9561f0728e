use Rattle.std.proofs.Common.{◌≡◌, length, map, ap, ◌∙◌}
use Rattle.std.proofs.lemmas.List.{length-map}
use Rattle.col_disk.proofs.Moving.{moved_none}
use Rattle.ros_container.specs.Encodings.{written_of, encoding_at}
use Rattle.ros_container.specs.Rows.{stored_values}
use Rattle.ros_container.specs.Files.{body_of, index_of}
use Rattle.container_draft.specs.Placed.{asked_at, all_at}
use Rattle.container_writer.proofs.ByColumn.{held_of, stored_length, stored_same}
use Rattle.container_draft.proofs.columns.write_one.Goals as goal

pub returns-clause-held : goal.returns-clause-held
returns-clause-held g c =
    let rows = all_at c.args.rows.now c.args.places.now in
    let columns : length c.as_slice-columns.result.now ≡ length c.args.shape.now.columns = ap length c.as_slice-columns.ensures in
    let same = stored_same (length c.as_slice-columns.result.now) (length c.args.shape.now.columns) c.args.column rows c.as_slice.result.now c.in-Ok.values.items c.as_slice.ensures.value c.in-Ok.ensures.same columns in
    held_of c.encoding_of-encoding.result (encoding_at (written_of c.args.shape.now) c.args.column) c.body_of-body.result c.index_of-index.result (body_of c.args.base c.args.column) (index_of c.args.base c.args.column) (length c.args.places.now) c.as_slice.result.now
    (stored_values (length c.args.shape.now.columns) c.args.column rows) (g.D.Disk.holds c.write_column.new.disk) c.write_column.result c.encoding_of-encoding.ensures c.body_of-body.ensures c.index_of-index.ensures same
    (stored_length (length c.args.shape.now.columns) c.args.column rows ∙ length-map c.args.places.now (asked_at c.args.rows.now)) c.write_column.ensures.held

pub returns-in-Err-clause-moved : goal.returns-in-Err-clause-moved
returns-in-Err-clause-moved g c = moved_none g.D.Disk c.args.disk.now
