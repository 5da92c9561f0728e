use Rattle.std.proofs.Common.{◌≡◌, ℕ, ◌<◌, length}
use Rattle.std.specs.Prelude.{Some}
use Rattle.common_laws.specs.Maps.{Contents}
use Rattle.col_disk.specs.Moved.{Moved, NoName}
use Rattle.col_file.specs.Held.{HoldsColumn}
use Rattle.col_value.specs.declared.kinds.Encoding.TheVariants.{Auto}
use Rattle.ros_container.specs.Encodings.{written_of}
use Rattle.ros_container.specs.Files.{body_of, index_of}
use Rattle.ros_container.specs.Parts.{HasValues}
use Rattle.ros_container.specs.Rows.{column_values, epoch_values, AreRows, AreWide, AreWithin}
use Rattle.ros_container.proofs.read.rows.Given as goal

abbrev pub invariant-loop-i : goal.invariant-loop-i
invariant-loop-i g l = record {
  each : (j : ℕ) → j < l.i → (m : Contents) → g.D.Disk.holds l.fn.disk ≡ Some m → HasValues m (written_of l.shape) l.entry j (column_values j l.rows.items);
  epochs :
      (m : Contents) → g.D.Disk.holds l.fn.disk ≡ Some m
      → HoldsColumn Auto (body_of l.entry.base l.entry.stored) (index_of l.entry.base l.entry.stored) l.entry.rows m (epoch_values l.rows.items);
  long : length l.rows.items ≡ l.entry.rows;
  wide : AreWide l.i l.rows.items;
  values : AreRows l.rows.items;
  within : AreWithin l.entry l.rows.items;
  kept : g.D.Disk.holds l.disk ≡ g.D.Disk.holds l.fn.disk;
  moved : Moved g.D.Disk NoName NoName l.fn.disk l.disk;
}
