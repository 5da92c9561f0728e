-- The days of a lane between those of an entry's least and greatest.
use Rattle.std.proofs.Common.{◌≡◌, ◌∙◌, ◌<◌, ◌≤◌, ℕ, Bool, true, false, List, map, ap, ap₂, sym, arith}
use Rattle.std.specs.Prelude.{◌&&◌, nat_le}
use Rattle.std.specs.List.{list_all}
use Rattle.std.specs.Ordering.{is_le, nat_cmp}
use Rattle.std.proofs.lemmas.Bool.Decides.{nat_tests}
use Rattle.std.proofs.lemmas.List.Folds.{list_all-map}
use Rattle.block_codec.specs.Held.{day_value}
use Rattle.block_codec.proofs.Ordered.{day_cmp}
use Rattle.col_value.specs.declared.value.Value.{Value}
use Rattle.col_value.specs.Order.{value_cmp}
use Rattle.col_file.specs.Read.{is_between}
use Rattle.pos_index.specs.declared.index.Entry.{Entry}

pub of_days : (e : Entry) (ds : List ℕ) (vs : List Value) → map day_value ds ≡ vs → list_all (λ d. is_between e (day_value d)) ds ≡ list_all (is_between e) vs
of_days e ds vs are = sym (list_all-map (is_between e) day_value ds) ∙ ap (list_all (is_between e)) are

at_most : (a b : ℕ) → nat_le a b ≡ is_le (nat_cmp a b)
at_most a b = grind (arith, nat_tests)

lane_at_most : (a b : ℕ) → nat_le a b ≡ is_le (value_cmp (day_value a) (day_value b))
lane_at_most a b = at_most a b ∙ ap is_le (sym (day_cmp a b))

between : (e : Entry) (a b d : ℕ) → day_value a ≡ e.least → day_value b ≡ e.greatest → (nat_le a d && nat_le d b) ≡ is_between e (day_value d)
between e a b d least greatest =
    ap₂ (λ (x y : Bool). x && y) (lane_at_most a d ∙ ap (λ (v : Value). is_le (value_cmp v (day_value d))) least) (lane_at_most d b ∙ ap (λ (v : Value). is_le (value_cmp (day_value d) v)) greatest)

is_from : (a d : ℕ) → a ≤ d → true ≡ nat_le a d
is_from a d le = grind (arith, nat_tests)

is_before : (a d : ℕ) → d < a → false ≡ nat_le a d
is_before a d lt = grind (arith, nat_tests)

pub from_least : (e : Entry) (a b d : ℕ) → day_value a ≡ e.least → day_value b ≡ e.greatest → a ≤ d → nat_le d b ≡ is_between e (day_value d)
from_least e a b d least greatest le = ap (λ (t : Bool). t && nat_le d b) (is_from a d le) ∙ between e a b d least greatest

pub before_least : (e : Entry) (a b d : ℕ) → day_value a ≡ e.least → day_value b ≡ e.greatest → d < a → nat_le a d ≡ is_between e (day_value d)
before_least e a b d least greatest lt = sym (is_before a d lt) ∙ ap (λ (t : Bool). t && nat_le d b) (is_before a d lt) ∙ between e a b d least greatest
