use Rattle.std.proofs.Common.{◌≡◌, ℕ, sym, ap, ◌∙◌, subst}
use Rattle.buddy_link.specs.Running.{IsState}
use Rattle.catch_model.specs.declared.fault.LinkFault.TheVariants.{AheadDisk}
use Rattle.buddy_link.specs.Linked.{Linked}
use Rattle.buddy_link.specs.Linking.{GoesOn, MayGoOn}
use Rattle.col_disk.proofs.Moving.{moved_join}
use Rattle.buddy_link.proofs.Stays.{state_stays}
use Rattle.buddy_run.proofs.Coming.{ends_stops, left_stops, not_caused}
use Rattle.buddy_run.proofs.Following.{brings_done, brings_stopped, done, first_made, first_stands, left, left_stands, may_replay, moment_first, moment_second, moment_third}
use Rattle.buddy_run.proofs.linking.follow.Goals as goal

pub returns-in-Err-clause-brings : goal.returns-in-Err-clause-brings
returns-in-Err-clause-brings g c = λ a b here there opened. record { done = tt; stopped = ends_stops a.database b.database c.in-Err.fault (c.in-Err.ensures.ends a b here there); stands = first_stands g.A.Disk c.args.store.now a b.database c.in-Err.fault here opened c.in-Err.ensures.behind_moved }

pub returns-in-Err-clause-any_moment : goal.returns-in-Err-clause-any_moment
returns-in-Err-clause-any_moment g c = λ a b here there opened. moment_first g.A.Disk c.args.store.now a b.database here opened c.in-Err.ensures.behind_moved

pub returns-in-Err-historical-clause-brings : goal.returns-in-Err-historical-clause-brings
returns-in-Err-historical-clause-brings g c = λ a b here there opened.
    let (accepted, tells) = c.in-Ok.ensures.begun a b here there in
    let at = state_stays g.A.Disk c.args.behind.now c.begin.new.at c.args.store.now a c.in-Ok.ensures.behind_moved c.in-Ok.ensures.behind_kept here in
    let may = may_replay c.in-Ok.link a b g.B.Disk c.args.source.now c.args.ahead.now there opened accepted tells in
    let stays = (c.in-Err-historical.ensures.replays a b.database at may).left in
    record {
      done = tt;
      stopped = left_stops a.database b.database (IsState g.A.Disk c.historical.new.behind c.historical.new.at) c.in-Ok.link.mark a b.database c.in-Err-historical.fault stays;
      stands = left_stands g.A.Disk a.database b.database (IsState g.A.Disk c.historical.new.behind c.historical.new.at) c.in-Ok.link.mark a b.database c.in-Err-historical.fault stays
          (moment_second g.A.Disk c.in-Ok.link.mark c.args.store.now a b.database tells.mark here opened c.in-Ok.ensures.behind_moved (c.in-Err-historical.ensures.any_moment a b.database at may));
    }

pub returns-in-Err-historical-clause-any_moment : goal.returns-in-Err-historical-clause-any_moment
returns-in-Err-historical-clause-any_moment g c = λ a b here there opened.
    let (accepted, tells) = c.in-Ok.ensures.begun a b here there in
    let at = state_stays g.A.Disk c.args.behind.now c.begin.new.at c.args.store.now a c.in-Ok.ensures.behind_moved c.in-Ok.ensures.behind_kept here in
    let may = may_replay c.in-Ok.link a b g.B.Disk c.args.source.now c.args.ahead.now there opened accepted tells in
    moment_second g.A.Disk c.in-Ok.link.mark c.args.store.now a b.database tells.mark here opened c.in-Ok.ensures.behind_moved (c.in-Err-historical.ensures.any_moment a b.database at may)

pub returns-in-Err-historical-clause-ahead_cause : goal.returns-in-Err-historical-clause-ahead_cause
returns-in-Err-historical-clause-ahead_cause g c =
    not_caused c.in-Err-historical.fault AheadDisk (g.B.Disk.faults c.args.ahead.now) (g.B.Disk.faults c.begin.new.from) c.in-Ok.ensures.ahead_cause.later c.in-Err-historical.ensures.own

pub returns-in-Ok-current-clause-brings : goal.returns-in-Ok-current-clause-brings
returns-in-Ok-current-clause-brings g c = λ a b here there opened.
    let (accepted, tells) = c.in-Ok.ensures.begun a b here there in
    let at = state_stays g.A.Disk c.args.behind.now c.begin.new.at c.args.store.now a c.in-Ok.ensures.behind_moved c.in-Ok.ensures.behind_kept here in
    let may = may_replay c.in-Ok.link a b g.B.Disk c.args.source.now c.args.ahead.now there opened accepted tells in
    let (same, mid, after, replayed, ahm) = (c.in-Ok-historical.ensures.replays a b.database at may).done in
    let made = first_made c.in-Ok.link.mark a b mid tells.mark replayed ahm in
    let from = state_stays g.B.Disk c.args.ahead.now c.begin.new.from c.args.source.now b c.in-Ok.ensures.ahead_moved c.in-Ok.ensures.ahead_kept there in
    let epoch : c.historical.new.self.f ≡ b.database.last = ap (λ (l : Linked). l.f) c.in-Ok-historical.ensures.same ∙ tells.f in
    let may_go = subst (λ (n : ℕ). MayGoOn n mid) (sym epoch) made.may in
    brings_done g.A.Disk c.current.new.at c.current.new.behind a b mid c.last-first.result c.in-Ok-historical.second c.in-Ok-current.last made (c.last-first.ensures ∙ sym here.database.are.last) (same ∙ tells.f)
    (subst (λ (n : ℕ). GoesOn g.A.Disk n c.current.new.behind c.current.new.at (done c.in-Ok-current.last) mid b.database) epoch (c.in-Ok-current.ensures.goes_on mid b after from may_go))

pub returns-in-Ok-current-clause-any_moment : goal.returns-in-Ok-current-clause-any_moment
returns-in-Ok-current-clause-any_moment g c = λ a b here there opened.
    let (accepted, tells) = c.in-Ok.ensures.begun a b here there in
    let at = state_stays g.A.Disk c.args.behind.now c.begin.new.at c.args.store.now a c.in-Ok.ensures.behind_moved c.in-Ok.ensures.behind_kept here in
    let may = may_replay c.in-Ok.link a b g.B.Disk c.args.source.now c.args.ahead.now there opened accepted tells in
    let (same, mid, after, replayed, ahm) = (c.in-Ok-historical.ensures.replays a b.database at may).done in
    let made = first_made c.in-Ok.link.mark a b mid tells.mark replayed ahm in
    let from = state_stays g.B.Disk c.args.ahead.now c.begin.new.from c.args.source.now b c.in-Ok.ensures.ahead_moved c.in-Ok.ensures.ahead_kept there in
    let epoch : c.historical.new.self.f ≡ b.database.last = ap (λ (l : Linked). l.f) c.in-Ok-historical.ensures.same ∙ tells.f in
    let may_go = subst (λ (n : ℕ). MayGoOn n mid) (sym epoch) made.may in
    moment_third g.A.Disk a b mid made (moment_second g.A.Disk c.in-Ok.link.mark c.args.store.now a b.database tells.mark here opened c.in-Ok.ensures.behind_moved (c.in-Ok-historical.ensures.any_moment a b.database at may))
    (c.in-Ok-current.ensures.any_moment mid b after from may_go)

pub returns-in-Ok-current-clause-ahead_moved : goal.returns-in-Ok-current-clause-ahead_moved
returns-in-Ok-current-clause-ahead_moved g c = moved_join g.B.Disk c.in-Ok.ensures.ahead_moved c.in-Ok-current.ensures.ahead_moved

pub returns-clause-brings : goal.returns-clause-brings
returns-clause-brings g c = λ a b here there opened.
    let (accepted, tells) = c.in-Ok.ensures.begun a b here there in
    let at = state_stays g.A.Disk c.args.behind.now c.begin.new.at c.args.store.now a c.in-Ok.ensures.behind_moved c.in-Ok.ensures.behind_kept here in
    let may = may_replay c.in-Ok.link a b g.B.Disk c.args.source.now c.args.ahead.now there opened accepted tells in
    let (same, mid, after, replayed, ahm) = (c.in-Ok-historical.ensures.replays a b.database at may).done in
    let made = first_made c.in-Ok.link.mark a b mid tells.mark replayed ahm in
    let from = state_stays g.B.Disk c.args.ahead.now c.begin.new.from c.args.source.now b c.in-Ok.ensures.ahead_moved c.in-Ok.ensures.ahead_kept there in
    let epoch : c.historical.new.self.f ≡ b.database.last = ap (λ (l : Linked). l.f) c.in-Ok-historical.ensures.same ∙ tells.f in
    let may_go = subst (λ (n : ℕ). MayGoOn n mid) (sym epoch) made.may in
    brings_stopped g.A.Disk c.current.new.at c.current.new.behind a b mid c.in-Err-current.fault made g.B.Disk c.args.source.now c.args.ahead.now there
    (moment_third g.A.Disk a b mid made (moment_second g.A.Disk c.in-Ok.link.mark c.args.store.now a b.database tells.mark here opened c.in-Ok.ensures.behind_moved (c.in-Ok-historical.ensures.any_moment a b.database at may))
    (c.in-Err-current.ensures.any_moment mid b after from may_go))
    (subst (λ (n : ℕ). GoesOn g.A.Disk n c.current.new.behind c.current.new.at (left c.in-Err-current.fault) mid b.database) epoch (c.in-Err-current.ensures.goes_on mid b after from may_go))

pub returns-clause-any_moment : goal.returns-clause-any_moment
returns-clause-any_moment g c = λ a b here there opened.
    let (accepted, tells) = c.in-Ok.ensures.begun a b here there in
    let at = state_stays g.A.Disk c.args.behind.now c.begin.new.at c.args.store.now a c.in-Ok.ensures.behind_moved c.in-Ok.ensures.behind_kept here in
    let may = may_replay c.in-Ok.link a b g.B.Disk c.args.source.now c.args.ahead.now there opened accepted tells in
    let (same, mid, after, replayed, ahm) = (c.in-Ok-historical.ensures.replays a b.database at may).done in
    let made = first_made c.in-Ok.link.mark a b mid tells.mark replayed ahm in
    let from = state_stays g.B.Disk c.args.ahead.now c.begin.new.from c.args.source.now b c.in-Ok.ensures.ahead_moved c.in-Ok.ensures.ahead_kept there in
    let epoch : c.historical.new.self.f ≡ b.database.last = ap (λ (l : Linked). l.f) c.in-Ok-historical.ensures.same ∙ tells.f in
    let may_go = subst (λ (n : ℕ). MayGoOn n mid) (sym epoch) made.may in
    moment_third g.A.Disk a b mid made (moment_second g.A.Disk c.in-Ok.link.mark c.args.store.now a b.database tells.mark here opened c.in-Ok.ensures.behind_moved (c.in-Ok-historical.ensures.any_moment a b.database at may))
    (c.in-Err-current.ensures.any_moment mid b after from may_go)

pub returns-clause-ahead_moved : goal.returns-clause-ahead_moved
returns-clause-ahead_moved g c = moved_join g.B.Disk c.in-Ok.ensures.ahead_moved c.in-Err-current.ensures.ahead_moved
