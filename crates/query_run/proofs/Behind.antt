-- Numbers of a lane behind that of the bar.
use Rattle.std.proofs.Common.{◌≡◌, ℕ, ℤ, ◌<ℤ◌, FitsSigned, w64, Bool, true, if◌then◌else◌, List, ◌∷◌, map, Option, sym, ap, ap₂, ◌∙◌, arith}
use Rattle.std.specs.Prelude.{slice_index_or}
use Rattle.std.specs.List.{All}
use Rattle.std.specs.Ordering.{int_cmp, is_lt, ordering_reverse, ordering_then}
use Rattle.std.specs.declared.cmp.Ordering.{Ordering}
use Rattle.std.specs.declared.cmp.Ordering.TheVariants.{Greater, Less}
use Rattle.std.proofs.lemmas.Int.{ints}
use Rattle.std.proofs.lemmas.List.Elements.{All-weaker}
use Rattle.block_codec.specs.Held.{number_value}
use Rattle.block_codec.proofs.Ordered.{lane_cmp}
use Rattle.col_value.specs.Order.{value_cmp, wide_cmp, widened}
use Rattle.col_value.specs.declared.value.Value.{Value}
use Rattle.col_value.specs.declared.value.Value.TheVariants as value
use Rattle.col_value.specs.declared.wide.Wide.{Wide}
use Rattle.col_value.specs.declared.wide.Wide.TheVariants as wide
use Rattle.exec_group.specs.Columns.{row_of}
use Rattle.sql_bound.specs.Printed.{key_cmp, printed_cmp}
use Rattle.sql_bound.specs.Values.{of_row}
use Rattle.sql_bound.specs.declared.query.BoundQuery.{BoundQuery}
use Rattle.query_run.specs.Outputs.{items_in, IsLaneOf}

abbrev pub turned : Bool → Ordering → Ordering
turned descending o = if descending then ordering_reverse o else o

-- the number at a place stands behind the bar's
abbrev pub IsPast : List ℤ → ℤ → Bool → ℕ → Type 0
IsPast numbers bar descending i =
    (if descending then ordering_reverse (value_cmp (number_value bar) (slice_index_or (map number_value numbers) i value.Null)) else value_cmp (number_value bar) (slice_index_or (map number_value numbers) i value.Null)) ≡ Less

less : (a b : ℤ) → a <ℤ b → int_cmp a b ≡ Less
less a b lt = grind (arith, ints)

greater : (a b : ℤ) → b <ℤ a → int_cmp a b ≡ Greater
greater a b lt = grind (arith, ints)

pub past_down : (bar n : ℤ) → FitsSigned w64 bar → FitsSigned w64 n → n <ℤ bar → ordering_reverse (value_cmp (number_value bar) (number_value n)) ≡ Less
past_down bar n fb fn lt = ap ordering_reverse (lane_cmp bar n fb fn ∙ greater bar n lt)

pub past_up : (bar n : ℤ) → FitsSigned w64 bar → FitsSigned w64 n → bar <ℤ n → value_cmp (number_value bar) (number_value n) ≡ Less
past_up bar n fb fn lt = lane_cmp bar n fb fn ∙ less bar n lt

-- the output rows of a lane's numbers behind the bar's stand behind the bar by this key
pub lane_behind : (q : BoundQuery) (row : List Wide) (columns : List (Option (List Value))) (column : ℕ) (descending : Bool) (numbers : List ℤ) (bar : ℤ) (places : List ℕ) → IsLaneOf q columns column numbers → slice_index_or row column wide.Null ≡ widened (number_value bar)
    → All (IsPast numbers bar descending) places → All (λ i. key_cmp (column, descending) row (items_in q (of_row (row_of columns i))) ≡ Less) places
lane_behind q row columns column descending numbers bar places lane is past =
    All-weaker (IsPast numbers bar descending) (λ i. key_cmp (column, descending) row (items_in q (of_row (row_of columns i))) ≡ Less) (λ i before. ap (turned descending) (ap₂ wide_cmp is (lane i)) ∙ before) places past

-- what stands behind by the first key stands behind
pub key_bars : (q : BoundQuery) (row : List Wide) (columns : List (Option (List Value))) (key : ℕ × Bool) (keys order : List (ℕ × Bool)) (places : List ℕ) → order ≡ q.order → order ≡ key ∷ keys
    → All (λ i. key_cmp key row (items_in q (of_row (row_of columns i))) ≡ Less) places → All (λ i. is_lt (printed_cmp q.order row (items_in q (of_row (row_of columns i)))) ≡ true) places
key_bars q row columns key keys order places own first behind =
    All-weaker (λ i. key_cmp key row (items_in q (of_row (row_of columns i))) ≡ Less) (λ i. is_lt (printed_cmp q.order row (items_in q (of_row (row_of columns i)))) ≡ true)
    (λ i less_is.
    let other = items_in q (of_row (row_of columns i)) in
    ap (λ (o : List (ℕ × Bool)). is_lt (printed_cmp o row other)) (sym own ∙ first) ∙ ap (λ (o : Ordering). is_lt (ordering_then o (printed_cmp keys row other))) less_is) places behind
