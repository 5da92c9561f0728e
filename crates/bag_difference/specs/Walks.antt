-- Rows with their ranks, and where two lists of rows begin to differ.
use Rattle.std.specs.Prelude.{List, [], ◌∷◌, map, Option, Some, None}
use Rattle.std.specs.declared.cmp.Ordering.{Ordering}
use Rattle.std.specs.declared.cmp.Ordering.TheVariants.{Less, Equal, Greater}
use Rattle.col_value.specs.declared.row.Stamped.{Stamped}
use Rattle.bag_difference.specs.Differences.{stamped_cmp}
use Rattle.bag_difference.specs.declared.ranks.Keyed.{Keyed}

-- the row that is referred to
abbrev pub stamped_of : Keyed → Stamped
stamped_of k = k.stamped.now

abbrev pub rows_of : List Keyed → List Stamped
rows_of = map stamped_of

-- the lesser of two rows, or what is found behind them
abbrev pub lesser : Ordering → Stamped → Stamped → Option Stamped → Option Stamped
lesser Less x y behind = Some x
lesser Equal x y behind = behind
lesser Greater x y behind = Some y

-- the lesser of the two rows at the first place where the lists differ, or the only one there
abbrev pub first_apart : List Stamped → List Stamped → Option Stamped
first_apart [] [] = None
first_apart [] (y ∷ ys) = Some y
first_apart (x ∷ xs) [] = Some x
first_apart (x ∷ xs) (y ∷ ys) = lesser (stamped_cmp x y) x y (first_apart xs ys)
