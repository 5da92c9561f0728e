use Rattle.std.proofs.Common.{◌∙◌, List, subst, sym}
use Rattle.std.proofs.lemmas.Result.{err_from_is_err_and}
use Rattle.col_disk.specs.Moved.{Leaves}
use Rattle.col_disk.proofs.Moving.{leaves_join}
use Rattle.db_model.specs.State.{State}
use Rattle.store_core.specs.Running.{IsState}
use Rattle.catch_model.specs.Caught.{later_mark}
use Rattle.catch_tables.specs.Told.{History}
use Rattle.buddy_link.specs.Linked.{Linked}
use Rattle.buddy_link.specs.Linking.{GoesOn, MayGoOn, MayReplay, ReopensBehindOrCaught}
use Rattle.buddy_link.proofs.Begun.{goes_on, goes_refused, may_replay, read_leaves, refused}
use Rattle.buddy_link.proofs.Stays.{state_stays}
use Rattle.buddy_link.proofs.link.Link.current.Goals as goal

pub returns-in_err-tables-clause-goes_on : goal.returns-in_err-tables-clause-goes_on
returns-in_err-tables-clause-goes_on g c =
    let fault = err_from_is_err_and c.from_residual.result c.from_residual.ensures.1 in
    rw (fault.1, fault.2)
    (subst
    (λ (link : Linked). (a b : State) → IsState g.A.Disk c.args.behind.now c.args.at.now a → IsState g.B.Disk c.args.ahead.now c.args.from.now b → MayGoOn link.f a → GoesOn g.A.Disk link.f c.args.behind.now c.check.new.at (refused c.in_err-tables.field-0.0) a b.database)
    c.self.view_is
    (λ a b here there may.
    goes_refused g.A.Disk c.self.inside.f c.args.behind.now c.check.new.at c.in_err-tables.field-0.0 a b.database (c.in_err-tables.ensures.ends a b here there may.last)
    (state_stays g.A.Disk c.args.at.now c.check.new.at c.args.behind.now a c.check.ensures.behind_moved c.check.ensures.behind_kept here)))

pub returns-in_err-tables-clause-any_moment : goal.returns-in_err-tables-clause-any_moment
returns-in_err-tables-clause-any_moment g c =
    subst
    (λ (link : Linked). (a b : State) → IsState g.A.Disk c.args.behind.now c.args.at.now a → IsState g.B.Disk c.args.ahead.now c.args.from.now b → MayGoOn link.f a → Leaves g.A.Disk (ReopensBehindOrCaught (later_mark a.database b.database) a b.database) c.args.at.now c.check.new.at)
    c.self.view_is
    (λ a b here there may. read_leaves g.A.Disk c.args.at.now c.check.new.at c.args.behind.now a (later_mark a.database b.database) c.self.inside.f b.database here may c.check.ensures.behind_moved)

pub returns-clause-goes_on : goal.returns-clause-goes_on
returns-clause-goes_on g c =
    subst
    (λ (link : Linked). (a b : State) → IsState g.A.Disk c.args.behind.now c.args.at.now a → IsState g.B.Disk c.args.ahead.now c.args.from.now b → MayGoOn link.f a → GoesOn g.A.Disk link.f c.replay.new.behind c.replay.new.at c.replay.result a b.database)
    c.self.view_is
    (λ a b here there may.
    let is = c.in_ok-tables.ensures.checked a b here there may.last in
    goes_on g.A.Disk c.self.inside.f c.last.result c.replay.new.behind c.replay.new.at c.replay.result a b.database (c.last.ensures ∙ sym there.database.are.last) is.accepted
    (c.replay.ensures.replays (later_mark a.database b.database) a b.database (state_stays g.A.Disk c.args.at.now c.check.new.at c.args.behind.now a c.check.ensures.behind_moved c.check.ensures.behind_kept here)
    (subst (λ (hs : List History). MayReplay (later_mark a.database b.database) c.self.inside.f c.last.result hs a b.database) (sym c.as_slice.ensures.value)
    (may_replay g.B.Disk c.args.from.now c.args.ahead.now a b c.self.inside.f c.last.result c.in_ok-tables.tables.items there may c.last.ensures is))))

pub returns-clause-any_moment : goal.returns-clause-any_moment
returns-clause-any_moment g c =
    subst
    (λ (link : Linked). (a b : State) → IsState g.A.Disk c.args.behind.now c.args.at.now a → IsState g.B.Disk c.args.ahead.now c.args.from.now b → MayGoOn link.f a → Leaves g.A.Disk (ReopensBehindOrCaught (later_mark a.database b.database) a b.database) c.args.at.now c.replay.new.at)
    c.self.view_is
    (λ a b here there may.
    let is = c.in_ok-tables.ensures.checked a b here there may.last in
    leaves_join g.A.Disk (read_leaves g.A.Disk c.args.at.now c.check.new.at c.args.behind.now a (later_mark a.database b.database) c.self.inside.f b.database here may c.check.ensures.behind_moved)
    (c.replay.ensures.any_moment (later_mark a.database b.database) a b.database (state_stays g.A.Disk c.args.at.now c.check.new.at c.args.behind.now a c.check.ensures.behind_moved c.check.ensures.behind_kept here)
    (subst (λ (hs : List History). MayReplay (later_mark a.database b.database) c.self.inside.f c.last.result hs a b.database) (sym c.as_slice.ensures.value)
    (may_replay g.B.Disk c.args.from.now c.args.ahead.now a b c.self.inside.f c.last.result c.in_ok-tables.tables.items there may c.last.ensures is))))
