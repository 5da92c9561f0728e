use Rattle.std.proofs.Common.{◌≡◌, List, Option, subst, sym, take, true}
use Rattle.std.specs.Prelude.{IsSomeAnd}
use Rattle.std.specs.Ordering.{is_lt}
use Rattle.std.proofs.lemmas.List.Elements.{All-weaker}
use Rattle.col_value.specs.declared.wide.Wide.{Wide}
use Rattle.exec_group.specs.Columns.{row_of}
use Rattle.sql_bound.specs.Printed.{printed_cmp}
use Rattle.sql_bound.specs.Values.{of_row}
use Rattle.query_run.specs.Outputs.{items_in}
use Rattle.query_run.proofs.past.barred_run.Goals as goal

pub returns-in-Some-clause-barred : goal.returns-in-Some-clause-barred
returns-in-Some-clause-barred c =
    let q = c.args.query.now in
    let row = row_of c.args.columns.now in
    All-weaker (λ i. is_lt (printed_cmp q.order c.in-Some.row (items_in q (of_row (row i)))) ≡ true) (λ i. IsSomeAnd c.args.bar.now (λ r. is_lt (printed_cmp q.order r (items_in q (of_row (row i)))) ≡ true))
    (λ i h. subst (λ (b : Option (List Wide)). IsSomeAnd b (λ r. is_lt (printed_cmp q.order r (items_in q (of_row (row i)))) ≡ true)) (sym c.in-Some.is) h) (take c.passed_run.result c.args.places.now) c.passed_run.ensures.passed
