use Rattle.std.proofs.Common.{arith}
use Rattle.db_model.specs.State.{opened_with}
use Rattle.catch_model.specs.declared.fault.LinkFault.TheVariants.{BehindDisk, AheadDisk}
use Rattle.buddy_run.proofs.Coming.{caused_later, not_caused, short_stops}
use Rattle.buddy_run.proofs.Following.{short_stands}
use Rattle.buddy_run.proofs.Opening.{opened_is, opening_leaves, read_only, still_leaves, way_leaves}
use Rattle.buddy_run.proofs.linking.bring_up.Goals as goal

pub returns-in-Err-clause-brings : goal.returns-in-Err-clause-brings
returns-in-Err-clause-brings g c = λ m n a b told reopens there_told there_reopens. record { done = tt; stopped = short_stops a b c.in-Err.fault (c.in-Err.ensures.short m a told reopens); stands = short_stands g.A.Disk c.open_behind.new.behind a b c.in-Err.fault (c.in-Err.ensures.short m a told reopens) }

pub returns-in-Err-clause-any_moment : goal.returns-in-Err-clause-any_moment
returns-in-Err-clause-any_moment g c = λ m n a b told reopens there_told there_reopens. opening_leaves g.A.Disk a b (c.in-Err.ensures.any_moment m a told reopens)

pub returns-in-Err-clause-ahead_cause : goal.returns-in-Err-clause-ahead_cause
returns-in-Err-clause-ahead_cause g c = not_caused c.in-Err.fault AheadDisk (g.B.Disk.faults c.args.ahead.now) (g.B.Disk.faults c.args.ahead.now) (omega arith) c.in-Err.ensures.own

pub returns-in-Err-open_ahead-clause-brings : goal.returns-in-Err-open_ahead-clause-brings
returns-in-Err-open_ahead-clause-brings g c = λ m n a b told reopens there_told there_reopens. record { done = tt; stopped = short_stops a b c.in-Err-open_ahead.fault (c.in-Err-open_ahead.ensures.short n b there_told there_reopens); stands = short_stands g.A.Disk c.open_behind.new.behind a b c.in-Err-open_ahead.fault (c.in-Err-open_ahead.ensures.short n b there_told there_reopens) }

pub returns-in-Err-open_ahead-clause-any_moment : goal.returns-in-Err-open_ahead-clause-any_moment
returns-in-Err-open_ahead-clause-any_moment g c = λ m n a b told reopens there_told there_reopens. opening_leaves g.A.Disk a b (c.in-Ok.ensures.any_moment m a told reopens)

pub returns-in-Err-open_ahead-clause-ahead_stays : goal.returns-in-Err-open_ahead-clause-ahead_stays
returns-in-Err-open_ahead-clause-ahead_stays g c = λ n b told reopens. still_leaves g.B.Disk b (c.in-Err-open_ahead.ensures.any_moment n b told reopens)

pub returns-in-Err-open_ahead-clause-behind_cause : goal.returns-in-Err-open_ahead-clause-behind_cause
returns-in-Err-open_ahead-clause-behind_cause g c =
    not_caused c.in-Err-open_ahead.fault BehindDisk (g.A.Disk.faults c.args.behind.now) (g.A.Disk.faults c.open_behind.new.behind) c.in-Ok.ensures.cause.later c.in-Err-open_ahead.ensures.own

pub returns-clause-brings : goal.returns-clause-brings
returns-clause-brings g c = λ m n a b told reopens there_told there_reopens.
    let (parts, here) = c.in-Ok.ensures.opened m a told reopens in
    let (more, there) = c.in-Ok-open_ahead.ensures.opened n b there_told there_reopens in
    let start = opened_with c.in-Ok.store.seen.catalogue.next parts a in
    let other = opened_with c.in-Ok-open_ahead.source.seen.catalogue.next more b in
    let opened = opened_is m a c.in-Ok.store.seen.catalogue.next parts reopens in
    c.follow.ensures.brings start other here there opened

pub returns-clause-any_moment : goal.returns-clause-any_moment
returns-clause-any_moment g c = λ m n a b told reopens there_told there_reopens.
    let (parts, here) = c.in-Ok.ensures.opened m a told reopens in
    let (more, there) = c.in-Ok-open_ahead.ensures.opened n b there_told there_reopens in
    let start = opened_with c.in-Ok.store.seen.catalogue.next parts a in
    let other = opened_with c.in-Ok-open_ahead.source.seen.catalogue.next more b in
    let opened = opened_is m a c.in-Ok.store.seen.catalogue.next parts reopens in
    way_leaves g.A.Disk a b (c.in-Ok.ensures.any_moment m a told reopens) (c.follow.ensures.any_moment start other here there opened)

pub returns-clause-ahead_stays : goal.returns-clause-ahead_stays
returns-clause-ahead_stays g c = λ n b told reopens.
    let (more, there) = c.in-Ok-open_ahead.ensures.opened n b told reopens in
    read_only g.B.Disk n b c.in-Ok-open_ahead.source c.in-Ok-open_ahead.source.seen.catalogue.next more reopens there (c.in-Ok-open_ahead.ensures.any_moment n b told reopens) c.follow.ensures.ahead_moved

pub returns-clause-ahead_cause : goal.returns-clause-ahead_cause
returns-clause-ahead_cause g c =
    caused_later AheadDisk c.follow.result (g.B.Disk.faults c.args.ahead.now) (g.B.Disk.faults c.open_ahead.new.ahead) (g.B.Disk.faults c.follow.new.ahead) c.in-Ok-open_ahead.ensures.cause.later c.follow.ensures.ahead_cause
