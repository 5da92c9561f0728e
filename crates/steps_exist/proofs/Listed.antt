-- Output rows have a printed list.
use Rattle.std.proofs.Common.{ℕ, ◌+◌, Bool, List, Option, IsSorted, refl, arith}
use Rattle.std.proofs.lemmas.List.MinMax.{ranks_by}
use Rattle.std.specs.Cmp.{IsStrictWeakOrder}
use Rattle.std.specs.Ordering.{is_lt}
use Rattle.col_value.specs.declared.wide.Wide.{Wide}
use Rattle.sql_bound.specs.Printed.{printed_cmp, limited, IsPrinted}
use Rattle.query_order.proofs.OneList.{printed_total}
use Rattle.query_order.proofs.Ordered.{Rises, in_order, in_order_same, in_order_rises}

module _ (order : List (ℕ × Bool)) where
  abbrev before : List Wide → List Wide → Bool
  before a b = is_lt (printed_cmp order a b)

  ranked : IsStrictWeakOrder before
  ranked = ranks_by (printed_total order) (λ (r : List Wide). r)

  sorted_from_rises : (rows : List (List Wide)) → Rises before rows → IsSorted (printed_cmp order) rows
  sorted_from_rises rows up k d low inside = up k (k + 1) d (omega arith) inside

  pub list_there : (limit : Option ℕ) (rows : List (List Wide)) → (listed : List (List Wide)) × IsPrinted order limit rows listed
  list_there limit rows = (
    limited limit (in_order before rows),
    record { sorted = in_order before rows; same = in_order_same before rows; ascending = sorted_from_rises (in_order before rows) (in_order_rises before ranked rows); front = refl },
  )
