-- The first column that is set to a value that is so.
use Rattle.std.proofs.Common.{◌≡◌, ℕ, ◌+◌, ◌<◌, ◌++◌, Bool, true, false, cond, List, [], ◌∷◌, length, get_or, drop, map, filter, Option, Some, refl, sym, ap, ◌∙◌}
use Rattle.std.specs.Prelude.{◌==◌, ◌||◌, find, option_map}
use Rattle.std.specs.List.{flat_map, enumerate_from, list_any}
use Rattle.std.proofs.lemmas.List.{at_drop_more}
use Rattle.std.proofs.lemmas.List.Concat.{flat_map-cons}
use Rattle.std.proofs.lemmas.List.Folds.{list_any-append}
use Rattle.col_value.specs.declared.column.Column.{Column}
use Rattle.col_value.specs.declared.value.Value.{Value}
use Rattle.col_value.specs.declared.wide.Wide.{Wide}
use Rattle.sql_bound.specs.declared.expr.Expr.{Expr}
use Rattle.sql_bound.specs.Values.{of_row, value_of}
use Rattle.sql_binding.specs.Firsts.{first_of, given_where}
use Rattle.sql_binding.specs.Inserts.{first_such}
use Rattle.db_model.specs.Refusals.{set_pairs}

abbrev Pair : Type 0
Pair = Column × Wide

-- a column with what an expression is worth in a row
abbrev pub worth_in : Column → ℕ × Expr → List Value → Column × Wide
worth_in column s row = (column, value_of (of_row row) s.1)

-- ---- one column

-- the name of a column that stands beside all values, where one of them is so
named_once : (p : Pair → Bool) (column : Column) (s : ℕ × Expr) (rows : List (List Value)) (more : Option (List ℕ)) (rest : List Pair) → first_such p rest ≡ more
    → first_such p (map (worth_in column s) rows ++ rest) ≡ first_of (given_where (list_any p (map (worth_in column s) rows)) column.name) more
named_once p column s [] more rest is = is
named_once p column s (row ∷ rows) more rest is = by (p (worth_in column s row)) (named_once p column s rows more rest is)
  where
    by : (b : Bool) → first_such p (map (worth_in column s) rows ++ rest) ≡ first_of (given_where (list_any p (map (worth_in column s) rows)) column.name) more
        → option_map (λ x. x.0.name) (cond b (Some (worth_in column s row)) (find p (map (worth_in column s) rows ++ rest))) ≡ first_of (given_where (b || list_any p (map (worth_in column s) rows)) column.name) more
    by true more_is = refl
    by false more_is = more_is

either_named : (a b : Bool) (name : List ℕ) (more : Option (List ℕ)) → first_of (given_where a name) (first_of (given_where b name) more) ≡ first_of (given_where (a || b) name) more
either_named true b name more = refl
either_named false b name more = refl

abbrev sets_pairs : Column → List (List Value) → List (ℕ × Expr) → List Pair
sets_pairs column rows sets = flat_map (λ s. map (worth_in column s) rows) sets

-- of one column, before other values
named_first : (p : Pair → Bool) (column : Column) (rows : List (List Value)) (sets : List (ℕ × Expr)) (rest : List Pair)
    → first_such p (sets_pairs column rows sets ++ rest) ≡ first_of (given_where (list_any p (sets_pairs column rows sets)) column.name) (first_such p rest)
named_first p column rows [] rest = refl
named_first p column rows (s ∷ sets) rest =
    let here = map (worth_in column s) rows in
    let behind = sets_pairs column rows sets in
    let cons : sets_pairs column rows (s ∷ sets) ≡ here ++ behind = flat_map-cons (λ (x : ℕ × Expr). map (worth_in column x) rows) s sets in
    let any : list_any p (sets_pairs column rows (s ∷ sets)) ≡ (list_any p here || list_any p behind) = ap (list_any p) cons ∙ list_any-append p here behind in
    ap (λ (xs : List Pair). first_such p (xs ++ rest)) cons ∙ ap (first_such p) (turned here behind)
    ∙ named_once p column s rows (first_of (given_where (list_any p behind) column.name) (first_such p rest)) (behind ++ rest) (named_first p column rows sets rest)
    ∙ either_named (list_any p here) (list_any p behind) column.name (first_such p rest)
    ∙ ap (λ (b : Bool). first_of (given_where b column.name) (first_such p rest)) (sym any)
  where
    turned : (xs ys : List Pair) → (xs ++ ys) ++ rest ≡ xs ++ (ys ++ rest)
    turned [] ys = refl
    turned (x ∷ xs) ys = ap (λ (zs : List Pair). x ∷ zs) (turned xs ys)

-- ---- all columns

-- the columns from a place on
abbrev pub pairs_from : List (ℕ × Expr) → List (List Value) → ℕ → List Column → List (Column × Wide)
pairs_from sets rows i columns = flat_map (set_pairs sets rows) (enumerate_from i columns)

-- the first of some columns, else one behind it
pub first_cons : (p : Column × Wide → Bool) (sets : List (ℕ × Expr)) (rows : List (List Value)) (c : ℕ × Column) (cs : List (ℕ × Column))
    → first_such p (flat_map (set_pairs sets rows) (c ∷ cs)) ≡ first_of (given_where (list_any p (set_pairs sets rows c)) c.1.name) (first_such p (flat_map (set_pairs sets rows) cs))
first_cons p sets rows c cs =
    ap (first_such p) (flat_map-cons (set_pairs sets rows) c cs) ∙ named_first p c.1 rows (filter (λ s. s.0 == c.0) sets) (flat_map (set_pairs sets rows) cs)

-- the column at a place, else one behind it
pub first_from : (p : Column × Wide → Bool) (sets : List (ℕ × Expr)) (rows : List (List Value)) (columns : List Column) (i : ℕ) (column : Column) → i < length columns → column ≡ get_or columns i column
    → first_such p (pairs_from sets rows i (drop i columns)) ≡ first_of (given_where (list_any p (set_pairs sets rows (i, column))) column.name) (first_such p (pairs_from sets rows (i + 1) (drop (i + 1) columns)))
first_from p sets rows columns i column lt is =
    at_drop_more (λ (cs : List Column). first_such p (pairs_from sets rows i cs)) columns i column lt
    ∙ first_cons p sets rows (i, get_or columns i column) (enumerate_from (i + 1) (drop (i + 1) columns))
    ∙ ap (λ (x : Column). first_of (given_where (list_any p (set_pairs sets rows (i, x))) x.name) (first_such p (pairs_from sets rows (i + 1) (drop (i + 1) columns)))) (sym is)

abbrev AtPlace : (Column × Wide → Bool) → List (ℕ × Expr) → List (List Value) → List Column → ℕ → Type 0
AtPlace p sets rows columns i = first_such p (pairs_from sets rows i (drop i columns)) ≡ first_such p (pairs_from sets rows 0 columns)

pub column_found : (p : Column × Wide → Bool) (sets : List (ℕ × Expr)) (rows : List (List Value)) (columns : List Column) (i : ℕ) (column : Column) → i < length columns → column ≡ get_or columns i column → AtPlace p sets rows columns i
    → list_any p (set_pairs sets rows (i, column)) ≡ true → Some column.name ≡ first_such p (pairs_from sets rows 0 columns)
column_found p sets rows columns i column lt is so_far any =
    sym (ap (λ (b : Bool). first_of (given_where b column.name) (first_such p (pairs_from sets rows (i + 1) (drop (i + 1) columns)))) any) ∙ sym (first_from p sets rows columns i column lt is) ∙ so_far

pub column_passed : (p : Column × Wide → Bool) (sets : List (ℕ × Expr)) (rows : List (List Value)) (columns : List Column) (i : ℕ) (column : Column) → i < length columns → column ≡ get_or columns i column → AtPlace p sets rows columns i
    → list_any p (set_pairs sets rows (i, column)) ≡ false → AtPlace p sets rows columns (i + 1)
column_passed p sets rows columns i column lt is so_far any =
    sym (ap (λ (b : Bool). first_of (given_where b column.name) (first_such p (pairs_from sets rows (i + 1) (drop (i + 1) columns)))) any) ∙ sym (first_from p sets rows columns i column lt is) ∙ so_far

-- ---- one row after the other

row_next : {X Y : Type 0} (p : Y → Bool) (f : X → Y) (xs : List X) (i : ℕ) (x : X) → i < length xs → x ≡ get_or xs i x → list_any p (map f (drop i xs)) ≡ (p (f x) || list_any p (map f (drop (i + 1) xs)))
row_next {X} p f xs i x lt is =
    at_drop_more (λ (ys : List X). list_any p (map f ys)) xs i x lt ∙ ap (λ (y : X). p (f y) || list_any p (map f (drop (i + 1) xs))) (sym is)

pub row_found : {X Y : Type 0} (p : Y → Bool) (f : X → Y) (xs : List X) (i : ℕ) (x : X) → i < length xs → x ≡ get_or xs i x → list_any p (map f (drop i xs)) ≡ list_any p (map f xs) → p (f x) ≡ true → true ≡ list_any p (map f xs)
row_found p f xs i x lt is so_far here = sym (ap (λ (b : Bool). b || list_any p (map f (drop (i + 1) xs))) here) ∙ sym (row_next p f xs i x lt is) ∙ so_far

pub row_passed : {X Y : Type 0} (p : Y → Bool) (f : X → Y) (xs : List X) (i : ℕ) (x : X) → i < length xs → x ≡ get_or xs i x → list_any p (map f (drop i xs)) ≡ list_any p (map f xs) → p (f x) ≡ false
    → list_any p (map f (drop (i + 1) xs)) ≡ list_any p (map f xs)
row_passed p f xs i x lt is so_far here = sym (ap (λ (b : Bool). b || list_any p (map f (drop (i + 1) xs))) here) ∙ sym (row_next p f xs i x lt is) ∙ so_far
