use Rattle.std.proofs.Common.{◌≡◌, length, take}
use Rattle.std.specs.Prelude.{Some}
use Rattle.common_laws.specs.Maps.{Contents}
use Rattle.col_disk.specs.Moved.{Moved, NoName}
use Rattle.ros_container.specs.Encodings.{written_of}
use Rattle.ros_container.specs.Rows.{AreWide}
use Rattle.merge_rows.specs.Inputs.{chosen}
use Rattle.container_draft.specs.Reading.{HoldEachOn}
use Rattle.container_draft.proofs.reading.read_chosen.Given as goal

abbrev pub invariant-loop-i : goal.invariant-loop-i
invariant-loop-i g l = record {
  read : (m : Contents) → g.D.Disk.holds l.fn.disk ≡ Some m → HoldEachOn m (written_of l.p.stored.entry) l.via (chosen (take l.i l.inputs) (take l.i l.p.stored.entry.containers)) l.rows;
  wide : AreWide (length l.via) l.rows;
  kept : g.D.Disk.holds l.disk ≡ g.D.Disk.holds l.fn.disk;
  moved : Moved g.D.Disk NoName NoName l.fn.disk l.disk;
}
