use Rattle.std.proofs.Common.{◌≡◌, ◌∙◌, List, sym, subst}
use Rattle.std.proofs.lemmas.Result.{err_from_is_err_and}
use Rattle.col_disk.proofs.Moving.{moved_none}
use Rattle.catch_tables.specs.Told.{AreToldBy, History}
use Rattle.buddy_link.specs.Linking.{mark_between}
use Rattle.buddy_link.proofs.Begun.{checked, mark_within}
use Rattle.buddy_link.proofs.checks.check.Goals as goal

pub returns-in_err-check_frame-clause-ends : goal.returns-in_err-check_frame-clause-ends
returns-in_err-check_frame-clause-ends g c =
    let fault = err_from_is_err_and c.from_residual.result c.from_residual.ensures.1 in
    rw (fault.1, fault.2) (λ a b here there last. c.in_err-check_frame.ensures.ends a b here there)

pub returns-in_err-check_frame-clause-behind_moved : goal.returns-in_err-check_frame-clause-behind_moved
returns-in_err-check_frame-clause-behind_moved g c = moved_none g.A.Disk c.args.at.now

pub returns-in_err-check_frame-clause-ahead_moved : goal.returns-in_err-check_frame-clause-ahead_moved
returns-in_err-check_frame-clause-ahead_moved g c = moved_none g.B.Disk c.args.from.now

pub returns-in_err-tables-clause-ends : goal.returns-in_err-tables-clause-ends
returns-in_err-tables-clause-ends g c =
    let r = c.args.pair.now.behind.now in
    let t = c.args.pair.now.ahead.now in
    let fault = err_from_is_err_and c.from_residual-in_err-tables.result c.from_residual-in_err-tables.ensures.1 in
    rw (fault.1, fault.2)
    (λ a b here there last.
    let is = c.in_ok-check_frame.ensures.ahead a b here there in
    c.in_err-tables.ensures.ends a b here there is last (mark_within g.A.Disk g.B.Disk c.args.at.now c.args.from.now r t a b c.args.pair.now.epoch here there last is))

pub returns-in_err-check_epochs-clause-ends : goal.returns-in_err-check_epochs-clause-ends
returns-in_err-check_epochs-clause-ends g c =
    let r = c.args.pair.now.behind.now in
    let t = c.args.pair.now.ahead.now in
    let fault = err_from_is_err_and c.from_residual-in_err-check_epochs.result c.from_residual-in_err-check_epochs.ensures.1 in
    rw (fault.1, fault.2)
    (λ a b here there last.
    let is = c.in_ok-check_frame.ensures.ahead a b here there in
    let le = mark_within g.A.Disk g.B.Disk c.args.at.now c.args.from.now r t a b c.args.pair.now.epoch here there last is in
    let (told, older) = c.in_ok-tables.ensures.told a b here there is last le in
    c.in_err-check_epochs.ensures.ends (mark_between r t) a.database b.database there.sound.database le (c.last.ensures ∙ sym there.database.are.last)
    (subst (λ (hs : List History). AreToldBy (mark_between r t) c.args.pair.now.epoch hs b.database) (sym c.as_slice.ensures.value) told) is older)

pub returns-clause-checked : goal.returns-clause-checked
returns-clause-checked g c = λ a b here there last.
    let r = c.args.pair.now.behind.now in
    let t = c.args.pair.now.ahead.now in
    let is = c.in_ok-check_frame.ensures.ahead a b here there in
    let le = mark_within g.A.Disk g.B.Disk c.args.at.now c.args.from.now r t a b c.args.pair.now.epoch here there last is in
    let (told, older) = c.in_ok-tables.ensures.told a b here there is last le in
    let closed : c.last.result ≡ b.database.last = c.last.ensures ∙ sym there.database.are.last in
    let (gaps, many) = c.in_ok-check_epochs.ensures.good (mark_between r t) b.database there.sound.database le closed (subst (λ (hs : List History). AreToldBy (mark_between r t) c.args.pair.now.epoch hs b.database) (sym c.as_slice.ensures.value) told) in
    checked g.A.Disk g.B.Disk c.args.at.now c.args.from.now r t a b c.args.pair.now.epoch c.last.result c.in_ok-tables.tables.items here there is told older closed gaps many
