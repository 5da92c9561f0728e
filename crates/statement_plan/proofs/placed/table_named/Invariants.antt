use Rattle.std.proofs.Common.{◌≡◌, map, drop}
use Rattle.std.specs.Prelude.{find, bytes_eq}
use Rattle.std.specs.List.{enumerate_from}
use Rattle.db_model.specs.Views.{table_found}
use Rattle.statement_plan.specs.Bare.{bare_table}
use Rattle.statement_plan.proofs.placed.table_named.Given as goal

abbrev pub invariant-loop-place : goal.invariant-loop-place
invariant-loop-place l =
    find (λ e. bytes_eq e.1.name l.name) (enumerate_from l.place (map bare_table (drop l.place l.tables)))
    ≡ table_found l.name (map bare_table l.tables)
