use Rattle.std.proofs.Common.{◌∙◌, ap, filter, nat_le}
use Rattle.catch_tables.specs.declared.epochs.Keyed.{Keyed}
use Rattle.catch_tables.proofs.Keys.{of_one_epoch}
use Rattle.catch_tables.proofs.epochs.of_epoch.Goals as goal

pub returns : goal.returns
returns c = c.at_most.ensures ∙ ap (filter (λ (k : Keyed). nat_le k.epoch c.args.epoch)) c.at_least.ensures.rest ∙ of_one_epoch c.args.epoch c.args.rows.now
