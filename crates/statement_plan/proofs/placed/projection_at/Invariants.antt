use Rattle.std.proofs.Common.{◌≡◌, map, drop}
use Rattle.std.specs.Prelude.{find, bytes_eq}
use Rattle.std.specs.List.{enumerate_from}
use Rattle.folder_model.specs.Projections.{shape_of}
use Rattle.statement_plan.proofs.placed.projection_at.Given as goal

abbrev pub invariant-loop-place : goal.invariant-loop-place
invariant-loop-place l =
    find (λ e. bytes_eq e.1.name l.name) (enumerate_from l.place (map shape_of (drop l.place l.projections)))
    ≡ find (λ e. bytes_eq e.1.name l.name) (enumerate_from 0 (map shape_of l.projections))
