use Rattle.catalog_types.specs.Blank.{blank_container as blank}
use Rattle.std.proofs.Common.{◌≡◌, ◌<◌, ◌∙◌, List, length, get_or, ap, sym, subst}
use Rattle.std.proofs.lemmas.Result.{IfOk-weaker}
use Rattle.catalog_types.specs.declared.catalogue.Container.{Container}
use Rattle.catalog_types.specs.declared.catalogue.Projection.{Projection}
use Rattle.proj_store.specs.Sound.{MarksItsRows}
use Rattle.exec_scan.proofs.Handed.{beside, kept_here, zip_long}
use Rattle.exec_scan.proofs.Keeping.{keeps_here}
use Rattle.exec_scan.proofs.retained.container_keeps.Goals as goal

pub vector-requires : goal.vector-requires
vector-requires c = subst (λ n. c.args.i < n) (zip_long MarksItsRows c.args.store.now.stored.entry.containers c.args.store.now.stored.beside c.entry-shape.ensures.sound.kept) c.requires

pub fresh_marks-requires : goal.fresh_marks-requires
fresh_marks-requires c = subst (λ n. c.args.i < n) (zip_long MarksItsRows c.args.store.now.stored.entry.containers c.args.store.now.stored.beside c.entry-shape.ensures.sound.kept) c.requires

pub marks_keep-requires-clause-held : goal.marks_keep-requires-clause-held
marks_keep-requires-clause-held c =
    let are : c.as_slice.result.now ≡ c.args.store.now.stored.entry.containers = c.as_slice.ensures ∙ ap (λ (p : Projection). p.containers) c.entry-shape.ensures.entry in
    (subst (λ (ks : List Container). MarksItsRows (get_or ks c.args.i blank) (beside c.vector.result.now c.fresh_marks.result.now)) (sym are)
    (kept_here c.args.store.now.stored.entry.containers c.args.store.now.stored.beside c.args.i blank c.vector.result.now c.fresh_marks.result.now c.entry-shape.ensures.sound.kept c.requires c.vector.ensures c.fresh_marks.ensures)).held

pub marks_keep-requires-clause-fresh : goal.marks_keep-requires-clause-fresh
marks_keep-requires-clause-fresh c =
    let are : c.as_slice.result.now ≡ c.args.store.now.stored.entry.containers = c.as_slice.ensures ∙ ap (λ (p : Projection). p.containers) c.entry-shape.ensures.entry in
    (subst (λ (ks : List Container). MarksItsRows (get_or ks c.args.i blank) (beside c.vector.result.now c.fresh_marks.result.now)) (sym are)
    (kept_here c.args.store.now.stored.entry.containers c.args.store.now.stored.beside c.args.i blank c.vector.result.now c.fresh_marks.result.now c.entry-shape.ensures.sound.kept c.requires c.vector.ensures c.fresh_marks.ensures)).fresh

pub returns : goal.returns
returns c =
    let are : c.as_slice.result.now ≡ c.args.store.now.stored.entry.containers = c.as_slice.ensures ∙ ap (λ (p : Projection). p.containers) c.entry-shape.ensures.entry in
    IfOk-weaker c.marks_keep.result _ _
    (λ keeps is. keeps_here c.args.mark c.args.store.now.stored c.entry-shape.result.now c.as_slice.result.now c.args.i blank c.vector.result.now c.fresh_marks.result.now keeps
    c.entry-shape.ensures.entry c.as_slice.ensures (subst (λ (ks : List Container). c.args.i < length ks) (sym are) c.requires) c.vector.ensures c.fresh_marks.ensures is) c.marks_keep.ensures
