use Rattle.std.proofs.Common.{arith}
use Rattle.shell_text.specs.Schemas.{shape_text}
use Rattle.shell_text.proofs.Texts.{flat_more}
use Rattle.shell_text.proofs.schemas.print_shapes.Goals as goal

pub loop-projection-preserved : goal.loop-projection-preserved
loop-projection-preserved c =
    flat_more (shape_text c.args.table.now) c.args.projections.now c.loop-projection.projection-index c.projection-item.result c.args.out.now.items c.loop-projection.out.items _ c.loop-projection.invariant
    c.in_ok-print_shape.ensures (omega arith) c.projection-item.is
