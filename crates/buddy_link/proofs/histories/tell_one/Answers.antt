use Rattle.std.proofs.Common.{List, subst}
use Rattle.std.proofs.lemmas.Result.{err_from_is_err_and}
use Rattle.common_laws.specs.Bags.{SameBag}
use Rattle.col_disk.proofs.Moving.{moved_none}
use Rattle.col_value.specs.declared.row.Stamped.{Stamped}
use Rattle.row_history.specs.History.{cut_rows}
use Rattle.catch_tables.specs.Told.{IsLeastIn}
use Rattle.buddy_link.specs.Linking.{mark_between}
use Rattle.buddy_link.proofs.Begun.{read_at}
use Rattle.buddy_link.proofs.Compared.{differ_at, none_is, short_at, some_is, told_at}
use Rattle.buddy_link.proofs.histories.tell_one.Goals as goal

pub returns-in_err-name-clause-behind_moved : goal.returns-in_err-name-clause-behind_moved
returns-in_err-name-clause-behind_moved g c = moved_none g.A.Disk c.args.at.now

pub returns-in_err-name-clause-ahead_moved : goal.returns-in_err-name-clause-ahead_moved
returns-in_err-name-clause-ahead_moved g c = moved_none g.B.Disk c.args.from.now

pub returns-in_err-behind-clause-ends : goal.returns-in_err-behind-clause-ends
returns-in_err-behind-clause-ends g c =
    let fault = err_from_is_err_and c.from_residual-in_err-behind.result c.from_residual-in_err-behind.ensures.1 in
    rw (fault.1, fault.2)
    (λ a b here there last le. short_at (mark_between c.args.pair.now.behind.now c.args.pair.now.ahead.now) c.args.pair.now.epoch c.args.place a.database b.database c.in_err-behind.field-0.0 (c.in_err-behind.ensures.short a b here there))

pub returns-in-Some-clause-ends : goal.returns-in-Some-clause-ends
returns-in-Some-clause-ends g c = λ a b here there last le.
    let r = c.args.pair.now.behind.now in
    let t = c.args.pair.now.ahead.now in
    let xs : List Stamped = c.in_ok-behind.field-0.behind.items in
    let ys : List Stamped = c.in_ok-behind.field-0.ahead.items in
    differ_at (mark_between r t) c.args.pair.now.epoch c.args.place c.in_ok-name.name c.in-Some.row xs ys a.database b.database last le
    (read_at g.A.Disk g.B.Disk c.args.at.now c.args.from.now r t a b c.args.place c.in_ok-name.name xs ys here there c.in_ok-name.ensures.found (c.in_ok-behind.ensures.found a b here there))
    (subst (λ (zs : List Stamped). IsLeastIn xs (cut_rows c.args.pair.now.epoch zs) c.in-Some.row) c.as_slice.ensures.value
    (some_is c.in_ok-row.field-0 c.in-Some.row (λ row. IsLeastIn xs (cut_rows c.args.pair.now.epoch c.as_slice.result.now) row) c.in-Some.is c.in_ok-row.ensures.differ))

pub returns-in-None-clause-told : goal.returns-in-None-clause-told
returns-in-None-clause-told g c = λ a b here there last le.
    let r = c.args.pair.now.behind.now in
    let t = c.args.pair.now.ahead.now in
    let xs : List Stamped = c.in_ok-behind.field-0.behind.items in
    let ys : List Stamped = c.in_ok-behind.field-0.ahead.items in
    told_at (mark_between r t) c.args.pair.now.epoch c.args.place c.in_ok-name.name xs ys c.new.result a.database b.database c.new.ensures.name c.new.ensures.rows last le
    (read_at g.A.Disk g.B.Disk c.args.at.now c.args.from.now r t a b c.args.place c.in_ok-name.name xs ys here there c.in_ok-name.ensures.found (c.in_ok-behind.ensures.found a b here there))
    (subst (λ (zs : List Stamped). SameBag xs (cut_rows c.args.pair.now.epoch zs)) c.as_slice.ensures.value
    (none_is c.in_ok-row.field-0 (SameBag xs (cut_rows c.args.pair.now.epoch c.as_slice.result.now)) c.in-None.is c.in_ok-row.ensures.same))
