use Rattle.std.proofs.Common.{true, ◌∙◌, ap}
use Rattle.col_value.specs.Order.{value_cmp}
use Rattle.std.specs.Option.{option_map_or}
use Rattle.std.specs.Prelude.{Option}
use Rattle.std.specs.Ordering.{is_le}
use Rattle.col_value.specs.declared.value.Value.{Value}
use Rattle.row_bounds.proofs.Ends.{stands_below, told_lt}
use Rattle.row_bounds.proofs.bound.begins_behind.Goals as goal

pub returns-in-Some-clause-out : goal.returns-in-Some-clause-out
returns-in-Some-clause-out c = λ less v up.
    ap (λ (o : Option Value). option_map_or (λ (least : Value). is_le (value_cmp least v)) o true) c.in-Some.is
    ∙ stands_below c.args.greatest.now v c.in-Some.begin (told_lt c.order.result (value_cmp c.args.greatest.now c.in-Some.begin) c.is_lt.result c.order.ensures c.is_lt.ensures less) up
