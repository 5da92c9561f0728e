use Rattle.std.proofs.Common.{◌≡◌, drop}
use Rattle.std.specs.Prelude.{find, not}
use Rattle.sql_binding.specs.Sight.{is_grouped_by}
use Rattle.name_binder.proofs.look.first_ungrouped.Given as goal

abbrev pub invariant-loop-column : goal.invariant-loop-column
invariant-loop-column l = find (λ s. not (is_grouped_by l.last l.group s)) (drop l.column-index l.seen) ≡ find (λ s. not (is_grouped_by l.last l.group s)) l.seen
