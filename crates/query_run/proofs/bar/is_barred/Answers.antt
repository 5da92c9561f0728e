use Rattle.std.proofs.Common.{◌≡◌, true, subst}
use Rattle.std.specs.Ordering.{is_lt}
use Rattle.std.specs.Prelude.{IsSomeAnd}
use Rattle.sql_bound.specs.Printed.{printed_cmp}
use Rattle.sql_bound.specs.Values.{Scope}
use Rattle.query_run.specs.Outputs.{items_in}
use Rattle.query_run.proofs.bar.is_barred.Goals as goal

pub returns : goal.returns
returns c barred =
    let q = c.args.query.now in
    subst (λ (s : Scope). IsSomeAnd c.args.bar.now (λ row. is_lt (printed_cmp q.order row (items_in q s)) ≡ true)) c.of_row.ensures (c.is_sight_barred.ensures barred)
