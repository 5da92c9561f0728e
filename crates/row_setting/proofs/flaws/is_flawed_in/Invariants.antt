use Rattle.std.proofs.Common.{◌≡◌, drop, map}
use Rattle.std.specs.List.{list_any}
use Rattle.sql_bound.specs.Values.{of_row, value_of}
use Rattle.row_setting.specs.Flaws.{has_flaw}
use Rattle.row_setting.proofs.flaws.is_flawed_in.Given as goal

abbrev pub invariant-loop-row : goal.invariant-loop-row
invariant-loop-row l = list_any (has_flaw l.flaw) (map (λ row. (l.column, value_of (of_row row) l.value)) (drop l.row-index l.rows)) ≡ list_any (has_flaw l.flaw) (map (λ row. (l.column, value_of (of_row row) l.value)) l.rows)
