-- An aggregate over a row more.
use Rattle.std.proofs.Common.{◌≡◌, ℕ, ℤ, pos, ◌+◌, ◌+ℤ◌, ◌<◌, ◌++◌, not, nat_le, Bool, true, false, if◌then◌else◌, List, [], ◌∷◌, length, map, filter, Option, Some, None, refl, sym, ap, ap₂, ◌∙◌, arith}
use Rattle.std.proofs.lemmas.Bool.Decides.{nat_tests}
use Rattle.std.proofs.lemmas.List.{append-nil, length-append, map-append}
use Rattle.std.proofs.lemmas.List.Elements.{filter-append}
use Rattle.std.proofs.lemmas.List.Sums.{fold_push}
use Rattle.col_value.specs.declared.value.Value.{Value}
use Rattle.col_value.specs.declared.wide.Wide.{Wide}
use Rattle.sql_tree.specs.declared.tree.AggKind.{AggKind}
use Rattle.sql_bound.specs.declared.expr.Expr.{Expr}
use Rattle.sql_bound.specs.declared.query.Aggregate.{Aggregate}
use Rattle.sql_bound.specs.Bounds.{magnitude, result_bound}
use Rattle.sql_bound.specs.Outputs.{aggregated, aggregate_over, greater, lesser, number_or_zero, plain_sum, size_of, values_over, IsGreatSum}
use Rattle.sql_bound.specs.Values.{is_null, of_row, value_of}
use Rattle.exec_group.specs.Accumulators.{accumulated, accumulated_over, argument_in, counted, passed, taken, total_of, worth_or_null}
use Rattle.exec_group.specs.declared.accumulator.Accumulator.{Accumulator}
use Rattle.exec_group.specs.declared.accumulator.Accumulator.TheVariants as accumulator

-- the value that a row adds to those of an argument: none where it is NULL
abbrev shown : Wide → List Wide
shown w = if is_null w then [] else w ∷ []

values_more : (arg : Option Expr) (rows : List (List Value)) (row : List Value) → values_over arg (rows ++ row ∷ []) ≡ values_over arg rows ++ shown (argument_in arg row)
values_more None rows row = refl
values_more (Some e) rows row =
    let f = λ (r : List Value). value_of (of_row r) e in
    let kept = λ (w : Wide). not (is_null w) in
    ap (filter kept) (map-append f rows (row ∷ [])) ∙ filter-append kept (map f rows) (f row ∷ [])
    ∙ ap (λ (ws : List Wide). filter kept (map f rows) ++ ws) (one (is_null (f row)) (f row))
  where
    one : (b : Bool) (w : Wide) → (if not b then w ∷ [] else []) ≡ (if b then [] else w ∷ [])
    one true w = refl
    one false w = refl

abbrev summed : ℤ → ℕ → Accumulator
summed n size = if nat_le size result_bound then accumulator.Sum (Some (n, size)) else accumulator.TooGreat

size_more : (ws : List Wide) (w : Wide) → size_of (ws ++ w ∷ []) ≡ size_of ws + magnitude (number_or_zero w)
size_more ws w = fold_push (λ (n : ℕ) (v : Wide). n + magnitude (number_or_zero v)) 0 ws w

sum_more : (ws : List Wide) (w : Wide) → plain_sum (ws ++ w ∷ []) ≡ plain_sum ws +ℤ number_or_zero w
sum_more ws w = fold_push (λ (n : ℤ) (v : Wide). n +ℤ number_or_zero v) (pos 0) ws w

total_counted : (ws : List Wide) (w : Wide) → counted (accumulator.Sum (total_of ws)) w ≡ accumulated AggKind.Sum 0 (ws ++ w ∷ [])
total_counted [] w = refl
total_counted (v ∷ vs) w = ap₂ summed (sym (sum_more (v ∷ vs) w)) (sym (size_more (v ∷ vs) w))

great_stays : (ws : List Wide) (w : Wide) → nat_le (size_of ws) result_bound ≡ false → accumulator.TooGreat ≡ accumulated AggKind.Sum 0 (ws ++ w ∷ [])
great_stays ws w e =
    let more = size_more ws w in
    let great : nat_le (size_of (ws ++ w ∷ [])) result_bound ≡ false = grind (arith, nat_tests) in
    ap (λ (b : Bool). if b then accumulator.Sum (total_of (ws ++ w ∷ [])) else accumulator.TooGreat) (sym great)

counted_more : (kind : AggKind) (rows : ℕ) (ws : List Wide) (w : Wide) → counted (accumulated kind rows ws) w ≡ accumulated kind (rows + 1) (ws ++ w ∷ [])
counted_more AggKind.CountAll rows ws w = refl
counted_more AggKind.Count rows ws w = ap accumulator.Values (sym (length-append ws (w ∷ [])))
counted_more AggKind.Sum rows ws w =
    elim (nat_le (size_of ws) result_bound) as (λ b. nat_le (size_of ws) result_bound ≡ b → counted (if b then accumulator.Sum (total_of ws) else accumulator.TooGreat) w ≡ accumulated AggKind.Sum 0 (ws ++ w ∷ [])) [
      | true ↦ λ e. total_counted ws w
      | false ↦ λ e. great_stays ws w e
    ] refl
counted_more AggKind.Min rows [] w = refl
counted_more AggKind.Min rows (v ∷ vs) w = ap (λ (x : Wide). accumulator.Least (Some x)) (sym (fold_push lesser v vs w))
counted_more AggKind.Max rows [] w = refl
counted_more AggKind.Max rows (v ∷ vs) w = ap (λ (x : Wide). accumulator.Greatest (Some x)) (sym (fold_push greater v vs w))

passed_on : (kind : AggKind) (rows : ℕ) (ws : List Wide) → passed (accumulated kind rows ws) ≡ accumulated kind (rows + 1) ws
passed_on AggKind.CountAll rows ws = refl
passed_on AggKind.Count rows ws = refl
passed_on AggKind.Sum rows ws = same (nat_le (size_of ws) result_bound) (total_of ws)
  where
    same : (b : Bool) (t : Option (ℤ × ℕ)) → passed (if b then accumulator.Sum t else accumulator.TooGreat) ≡ (if b then accumulator.Sum t else accumulator.TooGreat)
    same true t = refl
    same false t = refl
passed_on AggKind.Min rows ws = refl
passed_on AggKind.Max rows ws = refl

value_taken : (kind : AggKind) (rows : ℕ) (ws : List Wide) (w : Wide) → taken (accumulated kind rows ws) w ≡ accumulated kind (rows + 1) (ws ++ shown w)
value_taken kind rows ws w =
    elim (is_null w) as (λ b. (if b then passed (accumulated kind rows ws) else counted (accumulated kind rows ws) w) ≡ accumulated kind (rows + 1) (ws ++ (if b then [] else w ∷ []))) [
      | true ↦ passed_on kind rows ws ∙ ap (accumulated kind (rows + 1)) (sym (append-nil ws))
      | false ↦ counted_more kind rows ws w
    ]

pub row_taken : (rows : List (List Value)) (row : List Value) (a : Aggregate) → taken (accumulated_over rows a) (argument_in a.arg row) ≡ accumulated_over (rows ++ row ∷ []) a
row_taken rows row a =
    value_taken a.kind (length rows) (values_over a.arg rows) (argument_in a.arg row)
    ∙ ap₂ (accumulated a.kind) (sym (length-append rows (row ∷ []))) (sym (values_more a.arg rows row))

pub no_values : (arg : Option Expr) → values_over arg [] ≡ []
no_values None = refl
no_values (Some e) = refl

total_worth : (ws : List Wide) → worth_or_null (accumulator.Sum (total_of ws)) ≡ aggregated AggKind.Sum 0 ws
total_worth [] = refl
total_worth (w ∷ ws) = refl

least_worth : (ws : List Wide) → worth_or_null (accumulated AggKind.Min 0 ws) ≡ aggregated AggKind.Min 0 ws
least_worth [] = refl
least_worth (w ∷ ws) = refl

greatest_worth : (ws : List Wide) → worth_or_null (accumulated AggKind.Max 0 ws) ≡ aggregated AggKind.Max 0 ws
greatest_worth [] = refl
greatest_worth (w ∷ ws) = refl

worth_is : (kind : AggKind) (rows : ℕ) (ws : List Wide) → (accumulated kind rows ws ≡ accumulator.TooGreat → ⊥) → worth_or_null (accumulated kind rows ws) ≡ aggregated kind rows ws
worth_is AggKind.CountAll rows ws fits = refl
worth_is AggKind.Count rows ws fits = refl
worth_is AggKind.Sum rows ws fits =
    elim (nat_le (size_of ws) result_bound) as (λ b. ((if b then accumulator.Sum (total_of ws) else accumulator.TooGreat) ≡ accumulator.TooGreat → ⊥) → worth_or_null (if b then accumulator.Sum (total_of ws) else accumulator.TooGreat) ≡ aggregated AggKind.Sum 0 ws) [
      | true ↦ λ h. total_worth ws
      | false ↦ λ h. absurd (h refl)
    ] fits
worth_is AggKind.Min rows ws fits = least_worth ws
worth_is AggKind.Max rows ws fits = greatest_worth ws

pub worth_over : (rows : List (List Value)) (a : Aggregate) → (accumulated_over rows a ≡ accumulator.TooGreat → ⊥) → worth_or_null (accumulated_over rows a) ≡ aggregate_over rows a
worth_over rows a fits = worth_is a.kind (length rows) (values_over a.arg rows) fits

great_means : (kind : AggKind) (rows : ℕ) (ws : List Wide) → accumulated kind rows ws ≡ accumulator.TooGreat → (kind ≡ AggKind.Sum) × (result_bound < size_of ws)
great_means AggKind.CountAll rows ws e = cc
great_means AggKind.Count rows ws e = cc
great_means AggKind.Sum rows ws e = (
  refl,
  elim (nat_le (size_of ws) result_bound) as (λ b. nat_le (size_of ws) result_bound ≡ b → (if b then accumulator.Sum (total_of ws) else accumulator.TooGreat) ≡ accumulator.TooGreat → result_bound < size_of ws) [
    | true ↦ λ t h. cc
    | false ↦ λ t h. grind (arith, nat_tests)
  ] refl e,
)
great_means AggKind.Min rows ws e = cc
great_means AggKind.Max rows ws e = cc

pub great_over : (rows : List (List Value)) (a : Aggregate) → accumulated_over rows a ≡ accumulator.TooGreat → IsGreatSum rows a
great_over rows a e = great_means a.kind (length rows) (values_over a.arg rows) e

great_is : (kind : AggKind) (rows : ℕ) (ws : List Wide) → kind ≡ AggKind.Sum → result_bound < size_of ws → accumulated kind rows ws ≡ accumulator.TooGreat
great_is kind rows ws e h =
    let great : nat_le (size_of ws) result_bound ≡ false = grind (arith, nat_tests) in
    ap (λ (k : AggKind). accumulated k rows ws) e ∙ ap (λ (b : Bool). if b then accumulator.Sum (total_of ws) else accumulator.TooGreat) great

pub is_great : (rows : List (List Value)) (a : Aggregate) → IsGreatSum rows a → accumulated_over rows a ≡ accumulator.TooGreat
is_great rows a great = great_is a.kind (length rows) (values_over a.arg rows) great.0 great.1
