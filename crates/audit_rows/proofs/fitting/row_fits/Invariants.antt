use Rattle.std.proofs.Common.{◌↔◌, drop}
use Rattle.std.specs.List.{AllZip}
use Rattle.audit_model.specs.Rows.{FitsColumn}
use Rattle.audit_rows.specs.Blocks.{row_at}
use Rattle.audit_rows.proofs.fitting.row_fits.Given as goal

abbrev pub invariant-loop-j : goal.invariant-loop-j
invariant-loop-j l = AllZip (FitsColumn l.table) (drop l.j l.own) (row_at (drop l.j l.columns) l.i) ↔ AllZip (FitsColumn l.table) l.own (row_at l.columns l.i)
