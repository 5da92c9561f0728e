use Rattle.std.proofs.Common.{subst, sym}
use Rattle.std.specs.List.{AllZip}
use Rattle.std.proofs.lemmas.Result.{err_from_is_err_and}
use Rattle.catch_tables.specs.Keyed.{AreChangesOf}
use Rattle.buddy_link.proofs.Coming.{replayed_ok}
use Rattle.buddy_link.proofs.Replayed.{begins_leaves, comes_leaves, commits_come, moved_ok, replays_all, replays_leave, replays_some, started, stopped, stops_first, stops_short, upto_ahead}
use Rattle.buddy_link.proofs.replay.replay.Goals as goal

pub returns-in_err-ordered-clause-replays : goal.returns-in_err-ordered-clause-replays
returns-in_err-ordered-clause-replays g c = λ mark a b here may.
    let fault = err_from_is_err_and c.from_residual.result c.from_residual.ensures.1 in
    rw (fault.1, fault.2)
    (stops_first g.A.Disk mark c.args.after c.args.last c.args.tables.now a b c.use_session.new.self c.args.at.now may (started g.A.Disk c.args.at.now c.sessions_stand.ensures c.args.behind.now c.use_session.new.self a c.use_session.ensures here))

pub returns-in_err-ordered-clause-any_moment : goal.returns-in_err-ordered-clause-any_moment
returns-in_err-ordered-clause-any_moment g c = λ mark a b here may.
    begins_leaves g.A.Disk mark c.args.after c.args.last c.args.tables.now a b c.use_session.new.self c.args.at.now may
    (started g.A.Disk c.args.at.now c.sessions_stand.ensures c.args.behind.now c.use_session.new.self a c.use_session.ensures here)

pub returns-in_err-commit_all-clause-replays : goal.returns-in_err-commit_all-clause-replays
returns-in_err-commit_all-clause-replays g c = λ mark a b here may.
    let began = started g.A.Disk c.args.at.now c.sessions_stand.ensures c.args.behind.now c.use_session.new.self a c.use_session.ensures here in
    let are = subst (AllZip (AreChangesOf c.args.after) c.args.tables.now) (sym c.as_slice.ensures.value) c.in_ok-ordered.ensures in
    let fault = err_from_is_err_and c.from_residual-in_err-commit_all.result c.from_residual-in_err-commit_all.ensures.1 in
    rw (fault.1, fault.2)
    (stops_short g.A.Disk mark c.args.after c.args.last a b c.commit_all.new.behind c.args.at.now c.commit_all.new.at c.in_err-commit_all.field-0.0 (upto_ahead mark c.args.after c.args.last c.args.tables.now a b may)
    (commits_come g.A.Disk mark c.args.after c.args.last c.args.tables.now a b c.as_slice.result.now c.use_session.new.self c.commit_all.new.behind c.args.at.now c.commit_all.new.at (stopped c.in_err-commit_all.field-0.0) here.sound may are began c.in_err-commit_all.ensures.comes))

pub returns-in_err-commit_all-clause-any_moment : goal.returns-in_err-commit_all-clause-any_moment
returns-in_err-commit_all-clause-any_moment g c = λ mark a b here may.
    let began = started g.A.Disk c.args.at.now c.sessions_stand.ensures c.args.behind.now c.use_session.new.self a c.use_session.ensures here in
    let are = subst (AllZip (AreChangesOf c.args.after) c.args.tables.now) (sym c.as_slice.ensures.value) c.in_ok-ordered.ensures in
    comes_leaves g.A.Disk mark c.args.after c.args.last a b c.commit_all.new.behind c.args.at.now c.commit_all.new.at (stopped c.in_err-commit_all.field-0.0)
    (commits_come g.A.Disk mark c.args.after c.args.last c.args.tables.now a b c.as_slice.result.now c.use_session.new.self c.commit_all.new.behind c.args.at.now c.commit_all.new.at (stopped c.in_err-commit_all.field-0.0) here.sound may are began c.in_err-commit_all.ensures.comes)

pub returns-in_err-move_all-clause-replays : goal.returns-in_err-move_all-clause-replays
returns-in_err-move_all-clause-replays g c = λ mark a b here may.
    let began = started g.A.Disk c.args.at.now c.sessions_stand.ensures c.args.behind.now c.use_session.new.self a c.use_session.ensures here in
    let are = subst (AllZip (AreChangesOf c.args.after) c.args.tables.now) (sym c.as_slice.ensures.value) c.in_ok-ordered.ensures in
    let comes = commits_come g.A.Disk mark c.args.after c.args.last c.args.tables.now a b c.as_slice.result.now c.use_session.new.self c.commit_all.new.behind c.args.at.now c.commit_all.new.at replayed_ok here.sound may are began c.in_ok-commit_all.ensures.comes in
    let fault = err_from_is_err_and c.from_residual-in_err-move_all.result c.from_residual-in_err-move_all.ensures.1 in
    rw (fault.1, fault.2)
    (replays_some g.A.Disk mark c.args.after c.args.last c.args.tables.now a b c.commit_all.new.behind c.move_all.new.behind c.args.at.now c.commit_all.new.at c.move_all.new.at c.in_err-move_all.field-0.0 here.sound may comes c.in_err-move_all.ensures.moves)

pub returns-in_err-move_all-clause-any_moment : goal.returns-in_err-move_all-clause-any_moment
returns-in_err-move_all-clause-any_moment g c = λ mark a b here may.
    let began = started g.A.Disk c.args.at.now c.sessions_stand.ensures c.args.behind.now c.use_session.new.self a c.use_session.ensures here in
    let are = subst (AllZip (AreChangesOf c.args.after) c.args.tables.now) (sym c.as_slice.ensures.value) c.in_ok-ordered.ensures in
    let comes = commits_come g.A.Disk mark c.args.after c.args.last c.args.tables.now a b c.as_slice.result.now c.use_session.new.self c.commit_all.new.behind c.args.at.now c.commit_all.new.at replayed_ok here.sound may are began c.in_ok-commit_all.ensures.comes in
    replays_leave g.A.Disk mark c.args.after c.args.last c.args.tables.now a b c.commit_all.new.behind c.move_all.new.behind c.args.at.now c.commit_all.new.at c.move_all.new.at (stopped c.in_err-move_all.field-0.0) here.sound may comes c.in_err-move_all.ensures.moves

pub returns-clause-replays : goal.returns-clause-replays
returns-clause-replays g c = λ mark a b here may.
    let began = started g.A.Disk c.args.at.now c.sessions_stand.ensures c.args.behind.now c.use_session.new.self a c.use_session.ensures here in
    let are = subst (AllZip (AreChangesOf c.args.after) c.args.tables.now) (sym c.as_slice.ensures.value) c.in_ok-ordered.ensures in
    let comes = commits_come g.A.Disk mark c.args.after c.args.last c.args.tables.now a b c.as_slice.result.now c.use_session.new.self c.commit_all.new.behind c.args.at.now c.commit_all.new.at replayed_ok here.sound may are began c.in_ok-commit_all.ensures.comes in
    replays_all g.A.Disk mark c.args.after c.args.last c.args.tables.now a b c.commit_all.new.behind c.move_all.new.behind c.args.at.now c.commit_all.new.at c.move_all.new.at here.sound may comes c.in_ok-move_all.ensures.moves

pub returns-clause-any_moment : goal.returns-clause-any_moment
returns-clause-any_moment g c = λ mark a b here may.
    let began = started g.A.Disk c.args.at.now c.sessions_stand.ensures c.args.behind.now c.use_session.new.self a c.use_session.ensures here in
    let are = subst (AllZip (AreChangesOf c.args.after) c.args.tables.now) (sym c.as_slice.ensures.value) c.in_ok-ordered.ensures in
    let comes = commits_come g.A.Disk mark c.args.after c.args.last c.args.tables.now a b c.as_slice.result.now c.use_session.new.self c.commit_all.new.behind c.args.at.now c.commit_all.new.at replayed_ok here.sound may are began c.in_ok-commit_all.ensures.comes in
    replays_leave g.A.Disk mark c.args.after c.args.last c.args.tables.now a b c.commit_all.new.behind c.move_all.new.behind c.args.at.now c.commit_all.new.at c.move_all.new.at moved_ok here.sound may comes c.in_ok-move_all.ensures.moves
