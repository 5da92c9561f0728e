use Rattle.std.proofs.Common.{◌∙◌, sym, subst}
use Rattle.std.proofs.lemmas.Slice.Zip.{AllZip-long}
use Rattle.proj_store.specs.Loaded.{Loaded}
use Rattle.proj_store.specs.Reading.{BlamesRows}
use Rattle.proj_store.specs.Marking.{ArePlaces}
use Rattle.proj_store.proofs.SavedRows.{kept_long}
use Rattle.proj_store.proofs.Prepared.{found_prepared, found_can_mark}
use Rattle.proj_store.proofs.store.ProjStore.prepare_marks.Goals as goal

pub returns-in-Err-clause-blamed : goal.returns-in-Err-clause-blamed
returns-in-Err-clause-blamed g c = subst (λ (p : Loaded). BlamesRows p.stored.entry (g.D.Disk.holds c.args.disk.now) c.in-Err.fault) c.self.view_is c.in-Err.ensures.blamed

pub with_room-requires : goal.with_room-requires
with_room-requires g c =
    AllZip-long ArePlaces c.self.inside.entry.containers c.in-Ok.found.each c.in-Ok.ensures.inside
    ∙ sym (kept_long c.self.inside.entry.containers c.self.inside.kept.items c.self.invariant.kept)

pub returns-clause-prepared : goal.returns-clause-prepared
returns-clause-prepared g c = λ m told.
    found_prepared m (g.D.Disk.holds c.args.disk.now) c.self.inside.entry c.as_slice-kept.result.now c.self.inside.kept.items c.self.inside.unsaved c.args.self.now c.rows-unsaved.result.now c.args.wanted.items c.in-Ok.found c.in-Ok-with_room.ready
    c.as_slice-kept.ensures.value c.self.view_is c.rows-unsaved.ensures.rows told c.in-Ok.ensures.found c.in-Ok-with_room.ensures.same

pub returns-clause-ready : goal.returns-clause-ready
returns-clause-ready g c =
    found_can_mark (g.D.Disk.holds c.args.disk.now) c.self.inside.entry c.as_slice-kept.result.now c.with_room.new.kept.items c.self.inside.unsaved c.rows-unsaved.result.now c.args.wanted.items c.in-Ok.found c.in-Ok-with_room.ready
    c.in-Ok.ensures.inside c.in-Ok-with_room.ensures.room c.rows-unsaved.ensures.rows c.in-Ok.ensures.found c.in-Ok-with_room.ensures.same
