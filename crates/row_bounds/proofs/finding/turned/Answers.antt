use Rattle.std.proofs.Common.{◌∙◌, ap, sym}
use Rattle.sql_tree.specs.declared.tree.Cmp.{Cmp}
use Rattle.sql_bound.specs.Values.{compared, is_true}
use Rattle.row_bounds.proofs.Comparisons.{eq_turned, ge_turned, gt_turned, le_turned, lt_turned, ne_turned}
use Rattle.row_bounds.proofs.finding.turned.Goals as goal

pub returns-in-Eq-clause-same : goal.returns-in-Eq-clause-same
returns-in-Eq-clause-same c = λ a b is. eq_turned a b (ap (λ (cmp : Cmp). is_true (compared cmp a b)) (sym c.in-Eq.is) ∙ is)

pub returns-in-Ne-clause-same : goal.returns-in-Ne-clause-same
returns-in-Ne-clause-same c = λ a b is. ne_turned a b (ap (λ (cmp : Cmp). is_true (compared cmp a b)) (sym c.in-Ne.is) ∙ is)

pub returns-in-Lt-clause-same : goal.returns-in-Lt-clause-same
returns-in-Lt-clause-same c = λ a b is. lt_turned a b (ap (λ (cmp : Cmp). is_true (compared cmp a b)) (sym c.in-Lt.is) ∙ is)

pub returns-in-Le-clause-same : goal.returns-in-Le-clause-same
returns-in-Le-clause-same c = λ a b is. le_turned a b (ap (λ (cmp : Cmp). is_true (compared cmp a b)) (sym c.in-Le.is) ∙ is)

pub returns-in-Gt-clause-same : goal.returns-in-Gt-clause-same
returns-in-Gt-clause-same c = λ a b is. gt_turned a b (ap (λ (cmp : Cmp). is_true (compared cmp a b)) (sym c.in-Gt.is) ∙ is)

pub returns-in-Ge-clause-same : goal.returns-in-Ge-clause-same
returns-in-Ge-clause-same c = λ a b is. ge_turned a b (ap (λ (cmp : Cmp). is_true (compared cmp a b)) (sym c.in-Ge.is) ∙ is)
