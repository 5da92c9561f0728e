use Rattle.std.proofs.Common.{rules}
use Rattle.std.proofs.lemmas.List.MinMax.{ranks_by}
use Rattle.std.proofs.lemmas.Fn.{always_returns_same}
use Rattle.std.specs.Ordering.{is_lt}
use Rattle.exec_window.specs.declared.tuples.Tuple.{Tuple}
use Rattle.exec_window.specs.Leads.{led_cmp}
use Rattle.exec_window.proofs.Leading.{led_total}
use Rattle.exec_window.proofs.tuples.in_order.Goals as goal

pub returns-clause-ascending : goal.returns-clause-ascending
returns-clause-ascending c =
    c.in_ok-sort_by.ensures.sorted (λ x y. is_lt (led_cmp c.args.window.now x y)) (ranks_by (led_total c.args.window.now) (λ (t : Tuple). t)) (always_returns_same _ _ _ (λ a r g h. search rules))
