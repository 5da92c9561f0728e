use Rattle.std.proofs.Common.{length, map, ap, arith}
use Rattle.std.proofs.lemmas.List.{length-map}
use Rattle.col_disk.proofs.Moving.{moved_none}
use Rattle.ros_container.specs.Encodings.{written_as, written_of, encoding_at}
use Rattle.ros_container.specs.Rows.{stored_values}
use Rattle.container_writer.specs.Ordered.{asked_of}
use Rattle.container_writer.proofs.ByColumn.{moved_more, held_more, all_held}
use Rattle.container_writer.proofs.columns.write_rows.Goals as goal

pub returns-in-Err-clause-moved : goal.returns-in-Err-clause-moved
returns-in-Err-clause-moved g c =
    moved_more g.D.Disk c.args.base (length c.args.shape.now.columns) c.loop-column.column (omega (arith, ap length c.as_slice-columns.ensures)) c.loop-column.invariant.moved c.write_one.ensures.moved

pub loop-column-preserved : goal.loop-column-preserved
loop-column-preserved g c = record {
  moved = moved_more g.D.Disk c.args.base (length c.args.shape.now.columns) c.loop-column.column (omega (arith, ap length c.as_slice-columns.ensures)) c.loop-column.invariant.moved c.write_one.ensures.moved;
  held = held_more g.D.Disk (encoding_at (written_of c.args.shape.now)) c.args.base c.loop-column.column (length c.args.rows.now) (λ j. stored_values (length c.args.shape.now.columns) j (map asked_of c.args.rows.now)) c.write_one.ensures.moved
      c.loop-column.invariant.held c.in-Ok.ensures.held;
}

pub returns-clause-held : goal.returns-clause-held
returns-clause-held g c m told k same_base same_rows stored within =
    all_held c.args.base (length c.args.shape.now.columns) (length c.args.rows.now) (written_of c.args.shape.now) m (map asked_of c.args.rows.now) k (length-map c.args.shape.now.columns written_as)
    (λ j lt. c.loop-column.invariant.held j (omega (arith, ap length c.as_slice-columns.ensures)) m told) c.requires.wide same_base same_rows stored within

pub loop-column-init : goal.loop-column-init
loop-column-init g c = record { moved = moved_none g.D.Disk c.args.disk.now; held = λ j lt m told. absurd (omega (arith, lt)) }
