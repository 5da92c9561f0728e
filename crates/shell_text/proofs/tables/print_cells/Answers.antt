use Rattle.std.proofs.Common.{arith, false, get_or}
use Rattle.std.proofs.lemmas.List.{get_or_default}
use Rattle.shell_text.specs.declared.tables.Shape.{Shape}
use Rattle.shell_text.specs.Tables.{cell_text}
use Rattle.shell_text.proofs.Texts.{zipped_all, zipped_more}
use Rattle.shell_text.proofs.tables.print_cells.Goals as goal

pub loop-i-preserved : goal.loop-i-preserved
loop-i-preserved c =
    let blank : Shape = record { width = 0; right = false } in
    let shape = get_or c.args.shapes.now c.loop-i.i blank in
    zipped_more cell_text c.args.shapes.now c.args.cells.now c.loop-i.i shape c.index-cells-i.result c.args.out.now.items c.loop-i.out.items _ c.loop-i.invariant
    c.in_ok-print_cell.ensures (omega arith) (omega arith) (get_or_default c.args.shapes.now c.loop-i.i blank shape (omega arith)) c.index-cells-i.is

pub returns : goal.returns
returns c = zipped_all cell_text c.args.shapes.now c.args.cells.now c.loop-i.i c.args.out.now.items c.loop-i.out.items c.loop-i.invariant (omega arith)
