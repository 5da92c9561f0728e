use Rattle.std.proofs.Common.{◌<◌, get_or, false, subst, sym, ◌∙◌}
use Rattle.col_value.specs.declared.value.Value.{Value}
use Rattle.exec_scan.specs.Reading.{Stays}
use Rattle.exec_scan.proofs.Narrowing.{stay_more}
use Rattle.exec_scan.proofs.ruling.rule_out_values.Goals as goal

pub loop-i-preserved : goal.loop-i-preserved
loop-i-preserved c =
    stay_more c.args.bound.now c.args.values.now c.loop-i.i c.args.alive.now c.loop-i.alive c.stays.result (subst (λ n. c.loop-i.i < n) (sym c.loop-i.auto.alive) c.loop-i-test.true)
    (subst (λ (v : Value). Stays c.args.bound.now v (get_or c.loop-i.alive c.loop-i.i false) c.stays.result) (c.value.ensures ∙ c.cell-cell.ensures) c.stays.ensures) c.loop-i.invariant
