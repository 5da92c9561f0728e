-- The order of stamped rows, and the least row in which two bags differ.
use Rattle.std.specs.Prelude.{ℕ, ◌≡◌, ◌≢◌, true, List, count_by}
use Rattle.std.specs.Option.{option_cmp}
use Rattle.std.specs.Ordering.{is_eq, is_lt, nat_cmp, on, then_cmp}
use Rattle.std.specs.declared.cmp.Ordering.{Ordering}
use Rattle.col_value.specs.declared.row.Stamped.{Stamped}
use Rattle.col_value.specs.Order.{row_cmp}

-- rows by their values, then by the epoch that inserted them, then by the one that deleted them, which is least where there is none
abbrev pub stamped_cmp : Stamped → Stamped → Ordering
stamped_cmp = then_cmp (on (λ s. s.row) row_cmp) (then_cmp (on (λ s. s.ins) nat_cmp) (on (λ s. s.del) (option_cmp nat_cmp)))

-- how often a row stands in a list
abbrev pub count_of : Stamped → List Stamped → ℕ
count_of s rows = count_by (λ x. is_eq (stamped_cmp x s)) rows

-- the least row that stands a different number of times in the two, and both numbers
pub record IsLeastDifference (xs ys : List Stamped) (row : Stamped) (a b : ℕ) : Type 0 where
  pub first : a ≡ count_of row xs
  pub second : b ≡ count_of row ys
  pub differ : a ≢ b
  pub least : (s : Stamped) → is_lt (stamped_cmp s row) ≡ true → count_of s xs ≡ count_of s ys
