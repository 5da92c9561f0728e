-- What is so of all queries.
use Rattle.std.specs.Prelude.{◌≡◌, ◌⊎◌, true, false, List, [], ◌∷◌, None, map}
use Rattle.std.specs.List.{Contains}
use Rattle.std.specs.List.Sorted.{IsPermutation}
use Rattle.col_value.specs.declared.value.Value.{Value}
use Rattle.col_value.specs.declared.wide.Wide.{Wide}
use Rattle.sql_tree.specs.declared.tree.Cmp.{Cmp}
use Rattle.sql_bound.specs.declared.expr.Expr.{Expr}
use Rattle.sql_bound.specs.declared.expr.Expr.TheVariants as expr
use Rattle.sql_bound.specs.declared.query.BoundQuery.{BoundQuery}
use Rattle.sql_bound.specs.Outputs.{is_kept, output, tuples, IsSumTooGreat}
use Rattle.sql_bound.specs.Printed.{IsPrinted}
use Rattle.sql_bound.specs.Values.{is_null, of_row, value_of}

-- the same lists of rows, each perhaps in another order
abbrev pub ArePermuted : List (List (List Value)) → List (List (List Value)) → Type 0
ArePermuted [] [] = Unit {0}
ArePermuted [] (ys ∷ others) = ⊥
ArePermuted (xs ∷ inputs) [] = ⊥
ArePermuted (xs ∷ inputs) (ys ∷ others) = IsPermutation xs ys × ArePermuted inputs others

-- the printed list is the same for every order of the rows of the FROM items
abbrev pub PrintsTheSame : BoundQuery → Type 0
PrintsTheSame q =
    (inputs others : List (List (List Value))) (a b : List (List Wide)) → ArePermuted inputs others
    → IsPrinted q.order q.limit (output q inputs) a → IsPrinted q.order q.limit (output q others) b → a ≡ b

-- and so is whether a sum passes what a result holds
abbrev pub FailsTheSame : BoundQuery → Type 0
FailsTheSame q = (inputs others : List (List (List Value))) → ArePermuted inputs others → IsSumTooGreat q inputs → IsSumTooGreat q others

-- a query without groups and windows, without a condition of ON or WHERE, and without LIMIT
pub record IsBare (q : BoundQuery) : Type 0 where
  pub rows : q.grouped ≡ false
  pub alone : q.windows ≡ []
  pub all : q.keep ≡ []
  pub whole : q.limit ≡ None

-- it prints the items over each tuple of the product, as often as the tuple stands there
abbrev pub PrintsAll : BoundQuery → Type 0
PrintsAll q =
    (inputs : List (List (List Value))) (listed : List (List Wide)) → IsPrinted q.order q.limit (output q inputs) listed
    → IsPermutation (map (λ row. map (value_of (of_row row)) q.items) (tuples inputs)) listed

-- a tuple on which a side of one of the comparisons is NULL is not kept
abbrev pub NullIsNotKept : List Expr → List Value → Type 0
NullIsNotKept keep row =
    (a : Expr) (c : Cmp) (b : Expr) → Contains keep (expr.Compare a c b)
    → (is_null (value_of (of_row row) a) ≡ true) ⊎ (is_null (value_of (of_row row) b) ≡ true) → is_kept keep row ≡ false
