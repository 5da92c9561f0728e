-- In which order output rows are printed, and how many of them.
use Rattle.std.specs.Prelude.{◌≡◌, ℕ, if◌then◌else◌, Bool, List, [], ◌∷◌, take, Option, Some, None}
use Rattle.std.specs.List.{slice_index_or}
use Rattle.std.specs.List.Sorted.{IsPermutation, IsSorted}
use Rattle.std.specs.Ordering.{then_cmp, ordering_reverse}
use Rattle.std.specs.declared.cmp.Ordering.{Ordering}
use Rattle.col_value.specs.declared.wide.Wide.{Wide}
use Rattle.col_value.specs.declared.wide.Wide.TheVariants as wide
use Rattle.col_value.specs.Order.{wide_cmp, wide_row_cmp}

-- by one output column, NULL least; DESC turns it round
abbrev pub key_cmp : ℕ × Bool → List Wide → List Wide → Ordering
key_cmp key a b = if key.1 then ordering_reverse (wide_cmp (slice_index_or a key.0 wide.Null) (slice_index_or b key.0 wide.Null)) else wide_cmp (slice_index_or a key.0 wide.Null) (slice_index_or b key.0 wide.Null)

-- by the keys of ORDER BY, and rows that tie by all output columns
abbrev pub printed_cmp : List (ℕ × Bool) → List Wide → List Wide → Ordering
printed_cmp [] = wide_row_cmp
printed_cmp (key ∷ keys) = then_cmp (key_cmp key) (printed_cmp keys)

-- the first n where LIMIT n stands
abbrev pub limited : Option ℕ → List (List Wide) → List (List Wide)
limited None rows = rows
limited (Some n) rows = take n rows

-- the printed list of some rows: they are brought into order, and then the first are taken
pub record IsPrinted (order : List (ℕ × Bool)) (limit : Option ℕ) (rows listed : List (List Wide)) : Type 0 where
  pub sorted : List (List Wide)
  pub same : IsPermutation rows sorted
  pub ascending : IsSorted (printed_cmp order) sorted
  pub front : listed ≡ limited limit sorted
