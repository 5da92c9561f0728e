-- Rows of a table with the columns of a projection are rows of values, too.
use Rattle.std.proofs.Common.{◌≡◌, ℕ, zero, suc, List, [], ◌∷◌, map, get_or, subst, sym}
use Rattle.std.specs.List.{All}
use Rattle.std.proofs.lemmas.List.Elements.{All-cons, All-head, All-nil, All-tail}
use Rattle.col_value.specs.declared.value.Value.{Value}
use Rattle.col_value.specs.declared.value.Value.TheVariants.{Null}
use Rattle.col_value.specs.Order.{IsRow, IsValue, projected}

value_in : (row : List Value) (c : ℕ) → IsRow row → IsValue (get_or row c Null)
value_in [] c is = tt
value_in (v ∷ row) zero is = All-head IsValue v row is
value_in (v ∷ row) (suc c) is = value_in row c (All-tail IsValue v row is)

row_projected : (columns : List ℕ) (row : List Value) → IsRow row → IsRow (projected row columns)
row_projected [] row is = All-nil IsValue
row_projected (c ∷ columns) row is = All-cons IsValue (get_or row c Null) (projected row columns) (value_in row c is) (row_projected columns row is)

all_projected : (columns : List ℕ) (rows : List (List Value)) → All IsRow rows → All IsRow (map (λ row. projected row columns) rows)
all_projected columns [] are = All-nil IsRow
all_projected columns (row ∷ rows) are =
    All-cons IsRow (projected row columns) (map (λ r. projected r columns) rows) (row_projected columns row (All-head IsRow row rows are)) (all_projected columns rows (All-tail IsRow row rows are))

-- and so are rows that were made so
pub made_rows : (columns : List ℕ) (rows coming : List (List Value)) → coming ≡ map (λ row. projected row columns) rows → All IsRow rows → All IsRow coming
made_rows columns rows coming is are = subst (λ (xs : List (List Value)). All IsRow xs) (sym is) (all_projected columns rows are)
