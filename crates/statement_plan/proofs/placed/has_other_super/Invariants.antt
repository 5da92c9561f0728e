use Rattle.std.proofs.Common.{◌≡◌, map, drop}
use Rattle.std.specs.List.{list_any}
use Rattle.folder_model.specs.Projections.{shape_of}
use Rattle.statement_plan.specs.Bare.{bare_table}
use Rattle.statement_plan.specs.Places.{other_super}
use Rattle.statement_plan.proofs.placed.has_other_super.Given as goal

abbrev pub invariant-loop-projection : goal.invariant-loop-projection
invariant-loop-projection l =
    list_any (other_super l.name (bare_table l.table)) (map shape_of (drop l.projection-index l.table.projections))
    ≡ list_any (other_super l.name (bare_table l.table)) (map shape_of l.table.projections)
