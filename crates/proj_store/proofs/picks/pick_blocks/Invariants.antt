use Rattle.std.proofs.Common.{◌≡◌, ◌≤◌}
use Rattle.col_disk.specs.Moved.{Moved, NoName}
use Rattle.ros_container.specs.Encodings.{written_of}
use Rattle.col_value.specs.declared.row.Asked.{Asked}
use Rattle.wanted_rows.specs.Wanted.{need_in}
use Rattle.proj_store.specs.Blocks.{HasIndexes, in_list}
use Rattle.proj_store.specs.Marking.{ArePlaces}
use Rattle.proj_store.proofs.BlockRows.{PickedUpto}
use Rattle.proj_store.proofs.picks.pick_blocks.Given as goal

abbrev pub invariant-loop-k : goal.invariant-loop-k
invariant-loop-k g l = record {
  picked : HasIndexes (written_of l.entry) l.container (g.D.Disk.holds l.fn.disk) l.indexes
      → PickedUpto (g.D.Disk.holds l.fn.disk) (written_of l.entry) l.container (in_list l.deletes) l.k l.places.items (need_in l.fn.wants) (need_in l.wants);
  inside : ArePlaces l.container l.places.items;
  fewer : (q : Asked) → need_in l.wants q ≤ need_in l.fn.wants q;
  kept : g.D.Disk.holds l.disk ≡ g.D.Disk.holds l.fn.disk;
  moved : Moved g.D.Disk NoName NoName l.fn.disk l.disk;
}
