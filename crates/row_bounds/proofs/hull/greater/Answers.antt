use Rattle.std.proofs.Common.{◌≡◌, true, ◌∙◌, ap, sym, rules}
use Rattle.std.specs.Option.{option_map_or}
use Rattle.std.specs.Ordering.{is_le}
use Rattle.std.specs.Prelude.{Option}
use Rattle.col_value.specs.Order.{value_cmp}
use Rattle.col_value.specs.declared.value.Value.{Value}
use Rattle.row_bounds.proofs.Hulls.{from_greater, from_other}
use Rattle.row_bounds.proofs.hull.greater.Goals as goal

pub returns-in_ok-copy-in-Some-Some-clause-first : goal.returns-in_ok-copy-in-Some-Some-clause-first
returns-in_ok-copy-in-Some-Some-clause-first c = λ v upto.
    let b : c.in_ok-copy-in-Some-Some.field-0 ≡ c.in-Some-Some.b = c.in_ok-copy-in-Some-Some.ensures in
    let below : is_le (value_cmp v c.in-Some-Some.a) ≡ true = sym (ap (λ (o : Option Value). option_map_or (λ (greatest : Value). is_le (value_cmp v greatest)) o true) c.in-Some-Some.is-0) ∙ upto in
    ap (λ (x : Value). is_le (value_cmp v x)) b ∙ from_greater c.in-Some-Some.a c.in-Some-Some.b v (search rules) below

pub returns-else-is_lt-clause-second : goal.returns-else-is_lt-clause-second
returns-else-is_lt-clause-second c = λ v upto.
    let below : is_le (value_cmp v c.in-Some-Some.b) ≡ true = sym (ap (λ (o : Option Value). option_map_or (λ (greatest : Value). is_le (value_cmp v greatest)) o true) c.in-Some-Some.is-1) ∙ upto in
    from_other c.in-Some-Some.a c.in-Some-Some.b v (search rules) below
