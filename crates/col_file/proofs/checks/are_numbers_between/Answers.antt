use Rattle.std.proofs.Common.{◌∙◌}
use Rattle.col_file.proofs.Numbers.{of_values}
use Rattle.col_file.proofs.checks.are_numbers_between.Goals as goal

pub returns-in-Some-Some : goal.returns-in-Some-Some
returns-in-Some-Some c = c.are_numbers_within.ensures ∙ of_values c.args.entry.now c.args.numbers.now c.args.values.now c.requires
