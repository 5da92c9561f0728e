use Rattle.std.proofs.Common.{◌≡◌, drop}
use Rattle.std.specs.List.{list_all}
use Rattle.block_codec.specs.Held.{day_value}
use Rattle.col_file.specs.Read.{is_between}
use Rattle.col_file.proofs.checks.are_days_within.Given as goal

abbrev pub invariant-loop-d : goal.invariant-loop-d
invariant-loop-d l = list_all (λ d. is_between l.entry (day_value d)) (drop l.d-index l.days) ≡ list_all (λ d. is_between l.entry (day_value d)) l.days
