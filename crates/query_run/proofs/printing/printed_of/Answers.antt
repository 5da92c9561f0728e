use Rattle.std.proofs.Common.{◌≡◌, ℕ, Bool, List, rules, subst}
use Rattle.sql_bound.specs.Outputs.{output}
use Rattle.sql_bound.specs.Printed.{IsPrinted}
use Rattle.query_run.proofs.printing.printed_of.Goals as goal

pub returns-in_ok-order_rows-in-Ok-clause-printed : goal.returns-in_ok-order_rows-in-Ok-clause-printed
returns-in_ok-order_rows-in-Ok-clause-printed c = λ inputs has.
    let q = c.args.query.now in
    let rows = c.in-Ok.rows.items in
    let listed = c.in_ok-order_rows-in-Ok.field-0.items in
    let own : c.as_slice.result.now ≡ q.order = search rules in
    let printed : IsPrinted q.order q.limit rows listed = subst (λ (order : List (ℕ × Bool)). IsPrinted order q.limit rows listed) own c.in_ok-order_rows-in-Ok.ensures in
    c.enough_is_printed.ensures q.order q.limit (output q inputs) rows listed (c.in-Ok.ensures.rows inputs has) printed
