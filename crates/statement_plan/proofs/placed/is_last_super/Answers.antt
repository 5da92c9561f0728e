use Rattle.std.proofs.Common.{not, sym, ◌∙◌, ap}
use Rattle.statement_plan.specs.Bare.{bare_table}
use Rattle.statement_plan.proofs.Owners.{last_is}
use Rattle.statement_plan.proofs.placed.is_last_super.Goals as goal

pub returns : goal.returns
returns c = ap not c.has_other_super.ensures ∙ sym (last_is c.args.name.now (bare_table c.args.table.now))
