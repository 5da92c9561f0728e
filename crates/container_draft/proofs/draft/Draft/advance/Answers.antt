use Rattle.std.proofs.Common.{length, refl, sym}
use Rattle.std.proofs.lemmas.List.{length-map}
use Rattle.ros_container.specs.Encodings.{written_as, written_of}
use Rattle.container_draft.proofs.Drafted.{goes_on_at}
use Rattle.container_draft.proofs.draft.Draft.advance.Goals as goal

pub returns-clause-goes_on : goal.returns-clause-goes_on
returns-clause-goes_on g c =
    let shape = c.args.shape.now in
    let inside = c.self.inside in
    goes_on_at g.D.Disk (written_of shape) (length shape.columns) inside.rows inside.rows inside.places.items c.as_slice.result.now inside.base inside.done c.args.self.now (sym (length-map shape.columns written_as))
    refl c.as_slice.ensures.value c.self.view_is c.in-Ok.ensures.held c.write_next.ensures.moved
