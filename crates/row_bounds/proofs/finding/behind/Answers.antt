use Rattle.std.proofs.Common.{◌∙◌, ap, sym}
use Rattle.std.specs.Ordering.{is_le}
use Rattle.col_value.specs.Order.{value_cmp}
use Rattle.col_value.specs.declared.value.Value.{Value}
use Rattle.row_bounds.proofs.Comparisons.{gt_on}
use Rattle.row_bounds.proofs.finding.behind.Goals as goal

pub returns-in-Text-clause-near : goal.returns-in-Text-clause-near
returns-in-Text-clause-near c = λ v e. ap (λ (x : Value). is_le (value_cmp x v)) (sym c.in-Text.is) ∙ gt_on v c.args.value e
