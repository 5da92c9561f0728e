use Rattle.std.proofs.Common.{◌∙◌, sym, arith}
use Rattle.row_setting.specs.Flaws.{has_flaw}
use Rattle.row_setting.proofs.Flawed.{column_found, column_passed}
use Rattle.row_setting.proofs.flaws.first_flaw.Goals as goal

pub returns-then-is_flawed : goal.returns-then-is_flawed
returns-then-is_flawed c =
    column_found (has_flaw c.args.flaw) c.args.sets.now c.args.rows.now c.args.columns.now c.loop-i.i c.index-columns-i.result (omega arith) c.index-columns-i.is c.loop-i.invariant
    (sym c.is_flawed.ensures ∙ c.if-is_flawed.true)

pub loop-i-preserved : goal.loop-i-preserved
loop-i-preserved c =
    column_passed (has_flaw c.args.flaw) c.args.sets.now c.args.rows.now c.args.columns.now c.loop-i.i c.index-columns-i.result (omega arith) c.index-columns-i.is c.loop-i.invariant
    (sym c.is_flawed.ensures ∙ c.if-is_flawed.false)
