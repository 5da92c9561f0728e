use Rattle.std.proofs.Common.{arith}
use Rattle.buddy_link.proofs.Begun.{gone_ends, is_ahead, later_ends, of_tables, schema_ends}
use Rattle.buddy_link.proofs.checks.check_frame.Goals as goal

pub returns-in-Some-clause-ends : goal.returns-in-Some-clause-ends
returns-in-Some-clause-ends g c = λ a b here there.
    schema_ends g.A.Disk g.B.Disk c.args.at.now c.args.from.now c.args.pair.now.behind.now c.args.pair.now.ahead.now a b c.args.pair.now.epoch c.tables.result.now c.tables-2.result.now c.in-Some.name.now c.in_ok-copy.field-0 here there c.tables.ensures c.tables-2.ensures c.in_ok-copy.ensures
    c.in-Some.ensures.differ

pub returns-then-ahead-behind-clause-ends : goal.returns-then-ahead-behind-clause-ends
returns-then-ahead-behind-clause-ends g c = λ a b here there.
    let r = c.args.pair.now.behind.now in
    let t = c.args.pair.now.ahead.now in
    later_ends g.A.Disk g.B.Disk c.args.at.now c.args.from.now r t a b c.args.pair.now.epoch c.last-behind.result c.last-ahead.result here there
    (of_tables c.tables.result.now c.tables-2.result.now r.seen.catalogue.tables t.seen.catalogue.tables c.tables.ensures c.tables-2.ensures c.in_default.ensures.same) c.last-behind.ensures c.last-ahead.ensures c.if-ahead-behind.true

pub returns-then-at-ahm-clause-ends : goal.returns-then-at-ahm-clause-ends
returns-then-at-ahm-clause-ends g c = λ a b here there.
    let r = c.args.pair.now.behind.now in
    let t = c.args.pair.now.ahead.now in
    let le = c.if-ahead-behind.false in
    let one = c.last-behind.ensures in
    let two = c.last-ahead.ensures in
    gone_ends g.A.Disk g.B.Disk c.args.at.now c.args.from.now r t a b c.args.pair.now.epoch c.mark-ahm.result here there
    (of_tables c.tables.result.now c.tables-2.result.now r.seen.catalogue.tables t.seen.catalogue.tables c.tables.ensures c.tables-2.ensures c.in_default.ensures.same) (omega (arith, le, one, two)) c.mark-ahm.ensures c.if-at-ahm.true

pub returns-clause-ahead : goal.returns-clause-ahead
returns-clause-ahead g c = λ a b here there.
    let r = c.args.pair.now.behind.now in
    let t = c.args.pair.now.ahead.now in
    let le = c.if-ahead-behind.false in
    let within = c.if-at-ahm.false in
    let one = c.last-behind.ensures in
    let two = c.last-ahead.ensures in
    let three = c.mark-ahm.ensures in
    is_ahead g.A.Disk g.B.Disk c.args.at.now c.args.from.now r t a b c.args.pair.now.epoch here there
    (of_tables c.tables.result.now c.tables-2.result.now r.seen.catalogue.tables t.seen.catalogue.tables c.tables.ensures c.tables-2.ensures c.in_default.ensures.same) (omega (arith, le, one, two)) (omega (arith, within, three))
