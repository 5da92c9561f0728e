use Rattle.std.proofs.Common.{get_or, refl}
use Rattle.std.proofs.lemmas.Result.{on_ok_weaker}
use Rattle.exec_scan.proofs.Alive.{row_valid}
use Rattle.exec_scan.proofs.batch.copy_cells.Goals as goal

pub returns-clause-valid : goal.returns-clause-valid
returns-clause-valid c =
    on_ok_weaker c.set_cells.result
    (λ made. row_valid c.args.columns.now c.args.places.now c.args.place (get_or c.args.places.now c.args.place 0) c.set_cells.new.row.items c.requires.have c.requires.there refl made) c.set_cells.ensures
