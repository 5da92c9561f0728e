use Rattle.std.proofs.Common.{◌∙◌, ap, refl, sym}
use Rattle.col_value.specs.Order.{widened}
use Rattle.sql_tree.specs.declared.tree.Cmp.{Cmp}
use Rattle.sql_bound.specs.Values.{compared, is_true}
use Rattle.row_bounds.proofs.Comparisons.{eq_lies, ge_on}
use Rattle.row_bounds.proofs.finding.bound_at.Goals as goal

pub returns-in_ok-copy-in-Eq-clause-lies : goal.returns-in_ok-copy-in-Eq-clause-lies
returns-in_ok-copy-in-Eq-clause-lies c = (refl, λ v is. eq_lies c.args.cmp c.in_ok-copy-in-Eq.field-0 v c.args.value c.in-Eq.is c.in_ok-copy-in-Eq.ensures is)

pub returns-in-Ge-clause-lies : goal.returns-in-Ge-clause-lies
returns-in-Ge-clause-lies c = (c.from_on-in-Ge.ensures.lies.0, λ v is. c.from_on-in-Ge.ensures.lies.1 v (ge_on v c.args.value (ap (λ (d : Cmp). is_true (compared d (widened v) (widened c.args.value))) (sym c.in-Ge.is) ∙ is)))
