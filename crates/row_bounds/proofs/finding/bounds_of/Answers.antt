use Rattle.std.proofs.Common.{Some, sym, ap, ◌∙◌}
use Rattle.row_bounds.proofs.Sets.{unmoved_none}
use Rattle.row_bounds.proofs.finding.bounds_of.Goals as goal

pub returns-clause-set : goal.returns-clause-set
returns-clause-set c = λ b set. c.in_ok-add_all.ensures.set set.1.0 b set.1.1 (set.1.2 ∙ ap Some (sym (unmoved_none b))) set.0
