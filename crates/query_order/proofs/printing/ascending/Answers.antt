use Rattle.std.proofs.Common.{List, rules}
use Rattle.std.proofs.lemmas.List.MinMax.{ranks_by}
use Rattle.std.proofs.lemmas.Fn.{always_returns_same}
use Rattle.std.specs.Ordering.{is_lt}
use Rattle.col_value.specs.declared.wide.Wide.{Wide}
use Rattle.query_order.proofs.OneList.{printed_total}
use Rattle.sql_bound.specs.Printed.{printed_cmp}
use Rattle.query_order.proofs.printing.ascending.Goals as goal

pub returns-clause-sorted : goal.returns-clause-sorted
returns-clause-sorted c = c.in_ok-sort_by.ensures.sorted (λ x y. is_lt (printed_cmp c.args.order.now x y)) (ranks_by (printed_total c.args.order.now) (λ (r : List Wide). r)) (always_returns_same _ _ _ (λ a r g h. search rules))
