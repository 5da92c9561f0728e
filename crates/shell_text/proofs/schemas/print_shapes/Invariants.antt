use Rattle.std.proofs.Common.{◌≡◌, ◌++◌, map, take, drop}
use Rattle.std.specs.List.{flat_map, list_any}
use Rattle.shell_text.specs.Schemas.{shape_text}
use Rattle.shell_text.proofs.schemas.print_shapes.Given as goal

abbrev pub invariant-loop-projection : goal.invariant-loop-projection
invariant-loop-projection l = l.out.items ≡ l.fn.out.items ++ flat_map (shape_text l.table) (take l.projection-index l.projections)
