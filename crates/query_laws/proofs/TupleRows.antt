-- The tuples of rows of values, and those that are kept, are rows of values.
use Rattle.std.proofs.Common.{◌≡◌, ℕ, zero, suc, ◌<◌, ◌++◌, List, [], ◌∷◌, length, get_or, map, filter, sym, subst, arith}
use Rattle.std.proofs.lemmas.List.Elements.{All-append, All-filter, All-map, All-get_or}
use Rattle.std.specs.List.{All, flat_map}
use Rattle.col_value.specs.Order.{IsRow, IsValue}
use Rattle.col_value.specs.declared.value.Value.{Value}
use Rattle.sql_bound.specs.declared.expr.Expr.{Expr}
use Rattle.sql_bound.specs.Outputs.{is_kept, tuples}

all_flat : {X Y : Type 0} (P : Y → Type 0) (f : X → List Y) (xs : List X) → All (λ x. All P (f x)) xs → All P (flat_map f xs)
all_flat P f [] p = λ k d h. absurd (omega arith)
all_flat P f (x ∷ xs) p = All-append P (f x) (flat_map f xs) (p 0 x (omega arith)) (all_flat P f xs (λ k d h. p (suc k) d (omega arith)))

unit_row : (k : ℕ) (d : List Value) → k < 1 → IsRow (get_or ([] ∷ []) k d)
unit_row zero d h = λ i v l. absurd (omega arith)
unit_row (suc k) d h = absurd (omega arith)

tuples_are_rows : (inputs : List (List (List Value))) → All (All IsRow) inputs → All IsRow (tuples inputs)
tuples_are_rows [] p = λ k d h. unit_row k d h
tuples_are_rows (rows ∷ inputs) p =
    let more : All IsRow (tuples inputs) = tuples_are_rows inputs (λ k d h. p (suc k) d (omega arith)) in
    all_flat IsRow (λ row. map (λ rest. row ++ rest) (tuples inputs)) rows
    (λ k d h. All-map IsRow (λ rest. get_or rows k d ++ rest) (tuples inputs) (λ j e l. All-append IsValue (get_or rows k d) (get_or (tuples inputs) j e) (p 0 rows (omega arith) k d h) (more j e l)))

pub made_are_rows : (inputs : List (List (List Value))) (rows : List (List Value)) → rows ≡ tuples inputs → All (All IsRow) inputs → All IsRow rows
made_are_rows inputs rows e p = subst (All IsRow) (sym e) (tuples_are_rows inputs p)

pub kept_are_rows : (keep : List Expr) (inputs : List (List (List Value))) (rows : List (List Value)) → rows ≡ filter (is_kept keep) (tuples inputs) → All (All IsRow) inputs → All IsRow rows
kept_are_rows keep inputs rows e p = subst (All IsRow) (sym e) (All-filter (is_kept keep) IsRow (tuples inputs) (tuples_are_rows inputs p))

-- what holds of each element holds of the one at a place
pub all_at : {X : Type 0} (P : X → Type 0) (xs : List X) (i : ℕ) (x : X) → All P xs → i < length xs → x ≡ get_or xs i x → P x
all_at P xs i x p h is = subst P (sym is) (All-get_or P xs i x h p)
