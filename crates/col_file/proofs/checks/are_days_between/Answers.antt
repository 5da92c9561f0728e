use Rattle.std.proofs.Common.{◌∙◌}
use Rattle.col_file.proofs.Days.{of_days}
use Rattle.col_file.proofs.checks.are_days_between.Goals as goal

pub returns-in-Some-Some : goal.returns-in-Some-Some
returns-in-Some-Some c = c.are_days_within.ensures ∙ of_days c.args.entry.now c.args.days.now c.args.values.now c.requires
