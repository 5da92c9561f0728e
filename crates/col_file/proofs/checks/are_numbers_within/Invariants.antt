use Rattle.std.proofs.Common.{◌≡◌, drop}
use Rattle.std.specs.List.{list_all}
use Rattle.block_codec.specs.Held.{number_value}
use Rattle.col_file.specs.Read.{is_between}
use Rattle.col_file.proofs.checks.are_numbers_within.Given as goal

abbrev pub invariant-loop-n : goal.invariant-loop-n
invariant-loop-n l = list_all (λ n. is_between l.entry (number_value n)) (drop l.n-index l.numbers) ≡ list_all (λ n. is_between l.entry (number_value n)) l.numbers
