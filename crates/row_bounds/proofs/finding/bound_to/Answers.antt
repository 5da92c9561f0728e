use Rattle.std.proofs.Common.{◌≡◌, List, Option, subst}
use Rattle.std.specs.Option.{IfSome}
use Rattle.std.proofs.lemmas.Result.{IfOk-weaker}
use Rattle.col_value.specs.Order.{widened}
use Rattle.col_value.specs.declared.value.Value.{Value}
use Rattle.sql_bound.specs.Values.{of_row, value_of}
use Rattle.row_bounds.proofs.Comparisons.{side_lies}
use Rattle.row_bounds.proofs.finding.bound_to.Goals as goal

pub returns-in-Some-clause-lies : goal.returns-in-Some-clause-lies
returns-in-Some-clause-lies c =
    let worth = subst (λ (o : Option Value). IfSome o (λ v. (row : List Value) → value_of (of_row row) c.args.e.now ≡ widened v)) c.in-Some.is c.in_ok-value.ensures.worth in
    IfOk-weaker c.bound_at.result _ _ (λ o set. side_lies c.args.cmp c.args.column c.in-Some.value c.args.e.now o worth set) c.bound_at.ensures.lies
