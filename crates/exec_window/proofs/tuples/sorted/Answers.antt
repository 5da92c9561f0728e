use Rattle.exec_window.proofs.Leading.{sorted_walk}
use Rattle.exec_window.proofs.tuples.sorted.Goals as goal

pub returns-clause-ascending : goal.returns-clause-ascending
returns-clause-ascending c =
    sorted_walk c.args.window.now c.in_ok-tuples.tuples.items c.in_ok-ordered.ordered.items c.in_ok-tuples.ensures.led c.in_ok-ordered.ensures.same c.in_ok-ordered.ensures.ascending
