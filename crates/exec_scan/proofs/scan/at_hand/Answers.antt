use Rattle.catalog_types.specs.Blank.{blank_container as blank}
use Rattle.std.proofs.Common.{◌≡◌, ◌<◌, ◌∙◌, List, length, get_or, ap, sym, subst}
use Rattle.std.specs.Prelude.{IsSomeAnd}
use Rattle.std.specs.List.{slice_get}
use Rattle.std.proofs.lemmas.Result.{IfErr-weaker, IfOk-weaker}
use Rattle.col_disk.proofs.Moving.{moved_none}
use Rattle.catalog_types.specs.declared.catalogue.Container.{Container}
use Rattle.catalog_types.specs.declared.catalogue.Projection.{Projection}
use Rattle.proj_store.specs.Sound.{MarksItsRows}
use Rattle.ros_container.specs.Encodings.{written_of}
use Rattle.ros_container.specs.Held.{BlamesContainer}
use Rattle.exec_scan.specs.Opened.{IsOpening}
use Rattle.exec_scan.proofs.Handed.{beside, kept_here, opened_at, some_at, zip_long}
use Rattle.exec_scan.proofs.scan.at_hand.Goals as goal

pub vector-requires : goal.vector-requires
vector-requires g c = subst (λ n. c.args.container < n) (zip_long MarksItsRows c.args.store.now.stored.entry.containers c.args.store.now.stored.beside c.entry-shape.ensures.sound.kept) c.requires.there

pub fresh_marks-requires : goal.fresh_marks-requires
fresh_marks-requires g c = subst (λ n. c.args.container < n) (zip_long MarksItsRows c.args.store.now.stored.entry.containers c.args.store.now.stored.beside c.entry-shape.ensures.sound.kept) c.requires.there

pub open-requires-clause-marks : goal.open-requires-clause-marks
open-requires-clause-marks g c =
    let are : c.as_slice.result.now ≡ c.args.store.now.stored.entry.containers = c.as_slice.ensures ∙ ap (λ (p : Projection). p.containers) c.entry-shape.ensures.entry in
    subst (λ (ks : List Container). MarksItsRows (get_or ks c.args.container blank) (beside c.vector.result.now c.fresh_marks.result.now)) (sym are)
    (kept_here c.args.store.now.stored.entry.containers c.args.store.now.stored.beside c.args.container blank c.vector.result.now c.fresh_marks.result.now c.entry-shape.ensures.sound.kept c.requires.there c.vector.ensures c.fresh_marks.ensures)

pub returns-in-Some-clause-moved : goal.returns-in-Some-clause-moved
returns-in-Some-clause-moved g c = moved_none g.D.Disk c.args.disk.now

pub returns-in-None-clause-opening : goal.returns-in-None-clause-opening
returns-in-None-clause-opening g c =
    let are : c.as_slice.result.now ≡ c.args.store.now.stored.entry.containers = c.as_slice.ensures ∙ ap (λ (p : Projection). p.containers) c.entry-shape.ensures.entry in
    IfOk-weaker c.open.result _ _
    (λ o is. subst (λ (ks : List Container). IsSomeAnd (slice_get ks c.args.container) (λ k. IsOpening k.rows c.args.places.now o)) are
    (some_at (λ k. IsOpening k.rows c.args.places.now o) c.as_slice.result.now c.args.container blank (subst (λ (ks : List Container). c.args.container < length ks) (sym are) c.requires.there) is)) c.open.ensures.opening

pub returns-in-None-clause-held : goal.returns-in-None-clause-held
returns-in-None-clause-held g c =
    let are : c.as_slice.result.now ≡ c.args.store.now.stored.entry.containers = c.as_slice.ensures ∙ ap (λ (p : Projection). p.containers) c.entry-shape.ensures.entry in
    IfOk-weaker c.open.result _ _
    (λ o has was. opened_at c.args.store.now.stored c.entry-shape.result.now c.as_slice.result.now c.args.container blank c.vector.result.now c.fresh_marks.result.now c.args.places.now (g.D.Disk.holds c.args.disk.now) o
    c.entry-shape.ensures.entry c.as_slice.ensures (subst (λ (ks : List Container). c.args.container < length ks) (sym are) c.requires.there) c.vector.ensures c.fresh_marks.ensures has) c.open.ensures.opened

pub returns-in-None-clause-blamed : goal.returns-in-None-clause-blamed
returns-in-None-clause-blamed g c =
    let are : c.as_slice.result.now ≡ c.args.store.now.stored.entry.containers = c.as_slice.ensures ∙ ap (λ (p : Projection). p.containers) c.entry-shape.ensures.entry in
    IfErr-weaker c.open.result _ _
    (λ fault blames. subst (λ (p : Projection). IsSomeAnd (slice_get p.containers c.args.container) (λ k. BlamesContainer (written_of p) k (g.D.Disk.holds c.args.disk.now) fault)) c.entry-shape.ensures.entry
    (subst (λ (ks : List Container). IsSomeAnd (slice_get ks c.args.container) (λ k. BlamesContainer (written_of c.entry-shape.result.now) k (g.D.Disk.holds c.args.disk.now) fault)) c.as_slice.ensures
    (some_at (λ k. BlamesContainer (written_of c.entry-shape.result.now) k (g.D.Disk.holds c.args.disk.now) fault) c.as_slice.result.now c.args.container blank
    (subst (λ (ks : List Container). c.args.container < length ks) (sym are) c.requires.there) blames))) c.open.ensures.blamed
