use Rattle.std.proofs.Common.{◌≡◌, true, ◌∙◌, ap, sym, rules}
use Rattle.std.specs.Option.{option_map_or}
use Rattle.std.specs.Ordering.{is_le}
use Rattle.std.specs.Prelude.{Option}
use Rattle.col_value.specs.Order.{value_cmp}
use Rattle.col_value.specs.declared.value.Value.{Value}
use Rattle.row_bounds.proofs.Hulls.{up_to_lesser, up_to_other}
use Rattle.row_bounds.proofs.hull.lesser.Goals as goal

pub returns-in_ok-copy-in-Some-Some-clause-first : goal.returns-in_ok-copy-in-Some-Some-clause-first
returns-in_ok-copy-in-Some-Some-clause-first c = λ v from.
    let b : c.in_ok-copy-in-Some-Some.field-0 ≡ c.in-Some-Some.b = c.in_ok-copy-in-Some-Some.ensures in
    let below : is_le (value_cmp c.in-Some-Some.a v) ≡ true = sym (ap (λ (o : Option Value). option_map_or (λ (least : Value). is_le (value_cmp least v)) o true) c.in-Some-Some.is-0) ∙ from in
    ap (λ (x : Value). is_le (value_cmp x v)) b ∙ up_to_lesser c.in-Some-Some.a c.in-Some-Some.b v (search rules) below

pub returns-else-is_lt-clause-second : goal.returns-else-is_lt-clause-second
returns-else-is_lt-clause-second c = λ v from.
    let below : is_le (value_cmp c.in-Some-Some.b v) ≡ true = sym (ap (λ (o : Option Value). option_map_or (λ (least : Value). is_le (value_cmp least v)) o true) c.in-Some-Some.is-1) ∙ from in
    up_to_other c.in-Some-Some.a c.in-Some-Some.b v (search rules) below
