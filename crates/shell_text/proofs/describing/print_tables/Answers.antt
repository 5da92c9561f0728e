use Rattle.std.proofs.Common.{arith}
use Rattle.shell_text.specs.Schemas.{table_text}
use Rattle.shell_text.proofs.Texts.{flat_more}
use Rattle.shell_text.proofs.describing.print_tables.Goals as goal

pub loop-table-preserved : goal.loop-table-preserved
loop-table-preserved c =
    flat_more table_text c.args.tables.now c.loop-table.table-index c.table-item.result c.args.out.now.items c.loop-table.out.items _ c.loop-table.invariant
    c.in_ok-print_table.ensures (omega arith) c.table-item.is
