use Rattle.statement_plan.proofs.Early.{refused_early, settled_early}
use Rattle.statement_plan.proofs.laws.early_refusals_stand.Goals as goal

pub returns : goal.returns
returns c = record { refused = refused_early; settled = settled_early }
