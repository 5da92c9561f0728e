use Rattle.store_opening.proofs.Unblamed.{reopening_unblamed}
use Rattle.buddy_run.proofs.linking.open_behind.Goals as goal

pub returns-in-Ok-clause-opened : goal.returns-in-Ok-clause-opened
returns-in-Ok-clause-opened g c = λ m a told reopens.
    let (parts, start, here) = c.in-Ok.ensures.opened m a told reopens in
    (parts, here)

pub returns-in-Err-Damaged-clause-short : goal.returns-in-Err-Damaged-clause-short
returns-in-Err-Damaged-clause-short g c = λ m a told reopens.
    let blamed = rw c.in-Err-Damaged.field-0-is at c.in-Err-Damaged.ensures.blamed in
    reopening_unblamed (g.A.Disk.holds c.args.behind.now) m a c.in-Err-Damaged.name told reopens blamed
