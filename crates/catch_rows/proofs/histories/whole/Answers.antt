use Rattle.std.proofs.lemmas.Result.{err_from_is_err_and}
use Rattle.col_disk.proofs.Moving.{moved_none}
use Rattle.catch_rows.proofs.histories.whole.Goals as goal

pub returns-in_err-old-clause-short : goal.returns-in_err-old-clause-short
returns-in_err-old-clause-short g c =
    let fault = err_from_is_err_and c.from_residual.result c.from_residual.ensures.1 in
    rw (fault.1, fault.2) (λ a b here there. c.in_err-old.ensures.short a here)

pub returns-in_err-old-clause-ahead_moved : goal.returns-in_err-old-clause-ahead_moved
returns-in_err-old-clause-ahead_moved g c = moved_none g.B.Disk c.args.from.now

pub returns-in_err-new-clause-short : goal.returns-in_err-new-clause-short
returns-in_err-new-clause-short g c =
    let fault = err_from_is_err_and c.from_residual-in_err-new.result c.from_residual-in_err-new.ensures.1 in
    rw (fault.1, fault.2) (λ a b here there. c.in_err-new.ensures.short b there)
