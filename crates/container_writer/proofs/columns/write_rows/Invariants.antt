use Rattle.std.proofs.Common.{◌≡◌, ℕ, ◌<◌, length, map}
use Rattle.std.specs.Prelude.{Some}
use Rattle.common_laws.specs.Maps.{Contents}
use Rattle.col_disk.specs.Moved.{Moved, NoName}
use Rattle.col_file.specs.Held.{HoldsColumn}
use Rattle.ros_container.specs.Encodings.{written_of, encoding_at}
use Rattle.ros_container.specs.Files.{body_of, index_of, IsFileOf}
use Rattle.ros_container.specs.Rows.{stored_values}
use Rattle.container_writer.specs.Ordered.{asked_of}
use Rattle.container_writer.proofs.columns.write_rows.Given as goal

abbrev pub invariant-loop-column : goal.invariant-loop-column
invariant-loop-column g l = record {
  moved : Moved g.D.Disk (IsFileOf l.base (length l.shape.columns)) NoName l.fn.disk l.disk;
  held :
      (j : ℕ) → j < l.column → (m : Contents) → g.D.Disk.holds l.disk ≡ Some m
      → HoldsColumn (encoding_at (written_of l.shape) j) (body_of l.base j) (index_of l.base j) (length l.rows) m (stored_values (length l.shape.columns) j (map asked_of l.rows));
}
