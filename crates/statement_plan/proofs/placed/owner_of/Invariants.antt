use Rattle.std.proofs.Common.{◌≡◌, map, drop}
use Rattle.std.specs.Prelude.{find}
use Rattle.std.specs.List.{enumerate_from}
use Rattle.statement_plan.specs.Bare.{bare_table}
use Rattle.statement_plan.specs.Places.{has_projection, owner_found}
use Rattle.statement_plan.proofs.placed.owner_of.Given as goal

abbrev pub invariant-loop-place : goal.invariant-loop-place
invariant-loop-place l =
    find (λ e. has_projection l.name e.1) (enumerate_from l.place (map bare_table (drop l.place l.tables)))
    ≡ owner_found l.name (map bare_table l.tables)
