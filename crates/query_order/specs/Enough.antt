-- Rows that are enough: what is printed of them is what is printed of all rows.
use Rattle.std.specs.Prelude.{◌≡◌, ℕ, ◌+◌, ◌*◌, ◌<◌, ◌≤◌, Bool, List, [], ◌++◌, length, All, count_by, Option, Some, None}
use Rattle.std.specs.List.Sorted.{IsPermutation}
use Rattle.std.specs.Ordering.{is_le}
use Rattle.col_value.specs.declared.wide.Wide.{Wide}
use Rattle.sql_bound.specs.Printed.{printed_cmp, IsPrinted}

-- how many of some rows stand before a row in the printed order, or beside it
abbrev pub count_up_to : List (ℕ × Bool) → List Wide → List (List Wide) → ℕ
count_up_to order row rows = count_by (λ k. is_le (printed_cmp order k row)) rows

-- where there is a limit n, each of the others has n of the kept rows before it or beside it; where there is none, there are no others
abbrev pub AreBehind : List (ℕ × Bool) → Option ℕ → List (List Wide) → List (List Wide) → Type 0
AreBehind order None kept others = others ≡ []
AreBehind order (Some n) kept others = All (λ row. n ≤ count_up_to order row kept) others

-- the kept rows are enough of all rows: all others stand behind as many of them as are printed
pub record IsEnough (order : List (ℕ × Bool)) (limit : Option ℕ) (all kept : List (List Wide)) : Type 0 where
  pub others : List (List Wide)
  pub same : IsPermutation all (kept ++ others)
  pub behind : AreBehind order limit kept others

-- the printed list of rows that are enough is the printed list of all rows
abbrev pub IsPrintedOfEnough : List (ℕ × Bool) → Option ℕ → Type 0
IsPrintedOfEnough order limit = (all kept listed : List (List Wide)) → IsEnough order limit all kept → IsPrinted order limit kept listed → IsPrinted order limit all listed

-- where there is a limit, the rows are fewer than twice as many and 4096
abbrev pub AreFew : Option ℕ → List (List Wide) → Type 0
AreFew None rows = Unit {0}
AreFew (Some n) rows = length rows < 2 * n + 4096
