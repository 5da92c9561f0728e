use Rattle.std.proofs.Common.{length}
use Rattle.std.specs.List.{All}
use Rattle.col_value.specs.Order.{IsRow}
use Rattle.wanted_rows.specs.Wanted.{need_in}
use Rattle.store_query.proofs.Lessens.{Lessens}
use Rattle.store_query.proofs.lessening.less.Given as goal

abbrev pub invariant-loop-row : goal.invariant-loop-row
invariant-loop-row l = record {
  lessens : Lessens (need_in l.fn.wants) l.fn.rows.items (need_in l.wants) l.rest.items l.out.items;
  left : All IsRow l.rest.items;
  valid : All IsRow l.out.items;
}

abbrev pub decreases-loop-row : goal.decreases-loop-row
decreases-loop-row l = length l.rest.items
