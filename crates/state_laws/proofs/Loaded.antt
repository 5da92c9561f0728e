-- The rows of a load file fit the columns that it is read into.
use Rattle.std.proofs.Common.{◌≡◌, ℕ, List, [], ◌∷◌, map, refl, sym, subst}
use Rattle.std.specs.List.{All, AllZip}
use Rattle.std.proofs.lemmas.List.Elements.{All-nil, All-cons}
use Rattle.col_value.specs.declared.value.Value.{Value}
use Rattle.col_value.specs.declared.kinds.ColType.{ColType}
use Rattle.col_value.specs.declared.column.Column.{Column}
use Rattle.col_value.specs.Order.{IsValue, IsRow}
use Rattle.load_reader.specs.Fields.{Says, SaysIn, IsRowOf}
use Rattle.load_reader.specs.Load.{ReadsRows}
use Rattle.db_model.specs.Loading.{Load, Loads, load_column}
use Rattle.db_model.specs.Sound.{TextFits, ValueFits, RowFits}

-- a value that fits a column is one of a table
abbrev Stands : Column → Value → Type 0
Stands c v = ValueFits c v × IsValue v

-- what a row of some columns is
abbrev StandsIn : List Column → List Value → Type 0
StandsIn columns row = AllZip ValueFits columns row × IsRow row

said_in : (c : Column) (kind : ColType) (field : List ℕ) (v : Value) → c.kind ≡ kind → SaysIn kind field v → Stands c v
said_in c ColType.Integer field v is (n, says, holds, same) = subst (Stands c) (sym same) (is, holds)
said_in c ColType.Boolean field v is (b, says, same) = subst (Stands c) (sym same) (is, tt)
said_in c ColType.Date field v is (n, says, same) = subst (Stands c) (sym same) (is, says.0)
said_in c (ColType.Varchar most) field v is (says, holds, same) =
    subst (Stands c) (sym same) (subst (λ (k : ColType). TextFits k field) (sym is) says.1, holds)

said : (c : Column) (field : List ℕ) (v : Value) → Says (load_column c) field v → Stands c v
said c [] v (may, same) = subst (Stands c) (sym same) (may, tt)
said c (b ∷ field) v says = said_in c c.kind (b ∷ field) v refl says

row_stands : (columns : List Column) (fields : List (List ℕ)) (row : List Value) → IsRowOf (map load_column columns) fields row → StandsIn columns row
row_stands [] [] row same = subst (StandsIn []) (sym same) (tt, All-nil IsValue)
row_stands [] (f ∷ fields) row is = absurd is
row_stands (c ∷ columns) [] row is = absurd is
row_stands (c ∷ columns) (f ∷ fields) row (v, rest, says, behind, same) =
    let here = said c f v says in
    let others = row_stands columns fields rest behind in
    subst (StandsIn (c ∷ columns)) (sym same) ((here.0, others.0), All-cons IsValue v rest here.1 others.1)

row_fits : (columns : List Column) (fields : List (List ℕ)) (row : List Value) → IsRowOf (map load_column columns) fields row → RowFits columns row
row_fits columns fields row is = let stands = row_stands columns fields row is in record { values = stands.1; each = stands.0 }

rows_fit : (columns : List Column) (records : List (List (List ℕ))) (rows : List (List Value)) → ReadsRows (map load_column columns) records rows → All (RowFits columns) rows
rows_fit columns [] [] has = All-nil (RowFits columns)
rows_fit columns [] (row ∷ rows) has = absurd has
rows_fit columns (r ∷ records) [] has = absurd has
rows_fit columns (r ∷ records) (row ∷ rows) has = All-cons (RowFits columns) row rows (row_fits columns r row has.0) (rows_fit columns records rows has.1)

pub loaded_fit : (columns : List Column) (bytes : List ℕ) (rows : List (List Value)) → Loads columns bytes (Load.Rows rows) → All (RowFits columns) rows
loaded_fit columns bytes rows (records, read, has) = rows_fit columns records rows has

pub loaded_rows : (columns : List Column) (bytes : List ℕ) (rows : List (List Value)) → Loads columns bytes (Load.Rows rows) → All IsRow rows
loaded_rows columns bytes rows loads = let fit = loaded_fit columns bytes rows loads in λ k row there. (fit k row there).values
