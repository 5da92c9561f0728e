use Rattle.std.proofs.lemmas.Result.{err_from_is_err_and}
use Rattle.buddy_link.proofs.Begun.{begin_ends, begun}
use Rattle.buddy_link.proofs.link.Link.begin.Goals as goal

pub returns-in_err-tables-clause-ends : goal.returns-in_err-tables-clause-ends
returns-in_err-tables-clause-ends g c =
    let fault = err_from_is_err_and c.from_residual.result c.from_residual.ensures.1 in
    rw (fault.1, fault.2)
    (λ a b here there. begin_ends g.A.Disk c.args.at.now c.args.behind.now a b.database c.last-e.result c.in_err-tables.field-0.0 here c.last-e.ensures (c.in_err-tables.ensures.ends a b here there))

pub returns-clause-begun : goal.returns-clause-begun
returns-clause-begun g c = λ a b here there.
    begun g.A.Disk g.B.Disk c.args.at.now c.args.from.now c.args.behind.now c.args.ahead.now a b c.last-e.result c.last-e.result c.last-f.result c.mark_of-mark.result c.in_ok-tables.tables.items here there c.last-e.ensures c.last-e.ensures c.last-f.ensures c.mark_of-mark.ensures
    (c.in_ok-tables.ensures.checked a b here there)
