use Rattle.std.proofs.Common.{◌∙◌, sym, subst}
use Rattle.col_disk.specs.Calls.{ListsNames}
use Rattle.col_disk.proofs.Moving.{looks_join}
use Rattle.catalog_root.proofs.Bodies.{no_gate_blamed}
use Rattle.catalog_root.proofs.opening.find_root.Goals as goal

pub returns-in-Ok-None-clause-blamed : goal.returns-in-Ok-None-clause-blamed
returns-in-Ok-None-clause-blamed g c =
    let here = c.as_slice-in-Ok-None.ensures.value in
    let there = c.as_slice.ensures.value in
    no_gate_blamed c.without_gate.result (g.D.Disk.holds c.args.disk.now) c.as_slice-in-Ok-None.result.now
    (λ m told. subst (ListsNames m) (sym here) (c.in-Ok.ensures.answer m told))
    (λ m told lists. rw c.in-Ok-None.field-0-is at (c.in-Ok-None.ensures.found m (c.in-Ok.ensures.keeps.contents ∙ told) (subst (ListsNames m) (here ∙ sym there) lists)))
    c.without_gate.ensures.blamed

pub returns-in-Ok-catalogue_at-clause-looks : goal.returns-in-Ok-catalogue_at-clause-looks
returns-in-Ok-catalogue_at-clause-looks g c = looks_join g.D.Disk c.names.ensures.keeps (looks_join g.D.Disk c.greatest_gate.ensures.keeps c.catalogue_at.ensures.looks)

pub returns-in-Ok-Some-clause-looks : goal.returns-in-Ok-Some-clause-looks
returns-in-Ok-Some-clause-looks g c = looks_join g.D.Disk c.names.ensures.keeps (looks_join g.D.Disk c.greatest_gate.ensures.keeps c.catalogue_at.ensures.looks)

pub returns-in-Ok-None-clause-looks : goal.returns-in-Ok-None-clause-looks
returns-in-Ok-None-clause-looks g c = looks_join g.D.Disk c.names.ensures.keeps c.greatest_gate.ensures.keeps

pub returns-clause-looks : goal.returns-clause-looks
returns-clause-looks g c = looks_join g.D.Disk c.names.ensures.keeps c.greatest_gate.ensures.keeps
