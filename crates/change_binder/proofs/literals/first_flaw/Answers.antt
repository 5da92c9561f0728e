use Rattle.std.proofs.Common.{arith}
use Rattle.std.proofs.lemmas.Grind.{common_steps}
use Rattle.change_binder.specs.Flaws.{has_flaw}
use Rattle.change_binder.proofs.FirstOnes.{first_such_from}
use Rattle.change_binder.proofs.literals.first_flaw.Goals as goal

pub returns-in-Some : goal.returns-in-Some
returns-in-Some c =
    let e = first_such_from (has_flaw c.args.flaw) c.args.columns.now c.args.rows.now c.loop-row.row-index c.row-item.result (omega arith) c.row-item.is in
    let h = c.as_slice.ensures in
    let f = c.in-Some.ensures in
    grind (arith, common_steps, e, f)

pub loop-row-preserved : goal.loop-row-preserved
loop-row-preserved c =
    let e = first_such_from (has_flaw c.args.flaw) c.args.columns.now c.args.rows.now c.loop-row.row-index c.row-item.result (omega arith) c.row-item.is in
    let f = c.in_default.ensures in
    grind (arith, common_steps, e, f)
