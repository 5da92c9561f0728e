use Rattle.std.proofs.Common.{length, refl}
use Rattle.col_disk.proofs.Moving.{moved_none}
use Rattle.ros_container.specs.Encodings.{written_of}
use Rattle.container_draft.proofs.Ended.{finish_held, finish_numbers}
use Rattle.container_draft.proofs.draft.Draft.finish.Goals as goal

pub returns-then-is_empty-clause-moved : goal.returns-then-is_empty-clause-moved
returns-then-is_empty-clause-moved g c = moved_none g.D.Disk c.args.disk.now

pub returns-clause-held : goal.returns-clause-held
returns-clause-held g c =
    let shape = c.args.shape.now in
    let inside = c.self.inside in
    finish_held c.write_end.result (written_of shape) (length shape.columns) c.args.next inside.rows inside.rows inside.places.items c.as_slice-places.result.now inside.base inside.done c.args.dels.now c.args.self.now
    (g.D.Disk.holds c.args.disk.now) (g.D.Disk.holds c.write_end.new.disk) refl c.as_slice-places.ensures.value c.self.view_is c.write_end.ensures.held

pub returns-clause-numbers : goal.returns-clause-numbers
returns-clause-numbers g c =
    let inside = c.self.inside in
    finish_numbers c.write_end.result (length c.args.shape.now.columns) c.args.level c.args.next inside.rows inside.rows inside.places.items c.as_slice-places.result.now inside.base inside.done c.args.self.now refl
    c.as_slice-places.ensures.value c.self.view_is c.write_end.ensures.numbers
