-- Rows on their way into a container, and its order.
use Rattle.std.specs.Prelude.{ℕ, List, map, get_or, Option, None}
use Rattle.std.specs.Ordering.{nat_cmp, on, then_cmp}
use Rattle.std.specs.declared.cmp.Ordering.{Ordering}
use Rattle.catalog_types.specs.declared.catalogue.Projection.{Projection}
use Rattle.col_value.specs.Order.{row_cmp, projected}
use Rattle.col_value.specs.declared.row.Asked.{Asked}
use Rattle.col_value.specs.declared.row.Stamped.{Stamped}
use Rattle.container_writer.specs.declared.refs.Keyed.{Keyed}
use Rattle.container_writer.specs.declared.refs.StampedRef.{StampedRef}

-- the row that is referred to, with its epochs
abbrev pub stamped_of : StampedRef → Stamped
stamped_of s = record { row = s.row.now; ins = s.ins; del = s.del }

abbrev pub restamp : Keyed → Stamped
restamp k = record { row = k.stamped.row.now; ins = k.stamped.ins; del = k.stamped.del }

-- the row without its delete epoch, as the columns of a container have it
abbrev pub asked_of : Keyed → Asked
asked_of k = record { row = k.stamped.row.now; ins = k.stamped.ins }

-- the delete epoch at a place
abbrev pub del_at : List Keyed → ℕ → Option ℕ
del_at rows i = get_or (map (λ k. k.stamped.del) rows) i None

-- By the sort columns, then by the columns in their order, then by epoch. Rows that tie on the sort columns tie there
-- in the second comparison too, so it is one by the other columns.
abbrev pub container_cmp : Projection → Asked → Asked → Ordering
container_cmp shape = then_cmp (on (λ a. projected a.row shape.sort) row_cmp) (then_cmp (on (λ a. a.row) row_cmp) (on (λ a. a.ins) nat_cmp))
