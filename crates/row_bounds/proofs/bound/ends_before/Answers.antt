use Rattle.std.proofs.Common.{true, ◌∙◌, ap}
use Rattle.col_value.specs.Order.{value_cmp}
use Rattle.std.specs.Option.{option_map_or}
use Rattle.std.specs.Prelude.{Option}
use Rattle.std.specs.Ordering.{is_le}
use Rattle.col_value.specs.declared.value.Value.{Value}
use Rattle.row_bounds.proofs.Ends.{stands_above, told_lt}
use Rattle.row_bounds.proofs.bound.ends_before.Goals as goal

pub returns-in-Some-clause-out : goal.returns-in-Some-clause-out
returns-in-Some-clause-out c = λ less v from.
    ap (λ (o : Option Value). option_map_or (λ (greatest : Value). is_le (value_cmp v greatest)) o true) c.in-Some.is
    ∙ stands_above c.in-Some.end v c.args.least.now (told_lt c.order.result (value_cmp c.in-Some.end c.args.least.now) c.is_lt.result c.order.ensures c.is_lt.ensures less) from
