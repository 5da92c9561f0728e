use Rattle.std.proofs.Common.{◌≡◌, map, drop}
use Rattle.std.specs.Prelude.{bytes_eq}
use Rattle.std.specs.List.{list_any}
use Rattle.folder_model.specs.Projections.{shape_of}
use Rattle.statement_plan.proofs.placed.is_projection.Given as goal

abbrev pub invariant-loop-projection : goal.invariant-loop-projection
invariant-loop-projection l =
    list_any (λ s. bytes_eq s.name l.name) (map shape_of (drop l.projection-index l.projections))
    ≡ list_any (λ s. bytes_eq s.name l.name) (map shape_of l.projections)
