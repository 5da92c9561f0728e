use Rattle.std.proofs.Common.{◌∙◌, ap, arith, sym, subst}
use Rattle.catalog_types.specs.declared.catalogue.ProjColumn.{ProjColumn}
use Rattle.catalog_types.specs.declared.catalogue.Projection.{Projection}
use Rattle.std.specs.Prelude.{List}
use Rattle.ros_container.specs.Encodings.{written_of}
use Rattle.ros_container.specs.Held.{BlamesContainer, HoldsNoRows}
use Rattle.ros_container.specs.Readable.{IsReadable}
use Rattle.container_cut.specs.Blamed.{BlamesOne}
use Rattle.container_cut.proofs.Faults.{on_errs, rows_blamed}
use Rattle.container_cut.proofs.Fronts.{front_written, front_within, front_reads}
use Rattle.container_cut.proofs.containers.rows_of.Goals as goal

pub rows-requires : goal.rows-requires
rows-requires g c =
    let p = c.args.shape.now in
    let k = c.args.container.now in
    let low = c.requires.below.files in
    let most = c.requires.numbers in
    record { entry = subst (λ (columns : List ProjColumn). IsReadable columns k) (sym (ap (λ (q : Projection). q.columns) c.requires.front)) (front_reads k p c.requires.below.of_columns (omega (arith, low, most))) }

pub returns-clause-blamed : goal.returns-clause-blamed
returns-clause-blamed g c =
    let p = c.args.shape.now in
    let k = c.args.container.now in
    let es = written_of c.args.front.now in
    let told = g.D.Disk.holds c.args.disk.now in
    on_errs c.rows.result (BlamesContainer es k told) (HoldsNoRows es k told) (BlamesOne p k told)
    (rows_blamed p k es told (ap written_of c.requires.front ∙ front_written k p) (front_within k p c.requires.below.of_columns.most)) c.rows.ensures.blamed c.rows.ensures.none
