use Rattle.std.proofs.Common.{◌-◌, ◌∙◌, arith}
use Rattle.std.proofs.Common.{rules}
use Rattle.col_disk.proofs.Moving.{looks_join, looks_none}
use Rattle.catalog_root.proofs.Searches.{gate_is_greatest, no_gate_more, no_gate}
use Rattle.catalog_root.proofs.gates.greatest_gate.Goals as goal

pub returns-in-Ok-true-clause-found : goal.returns-in-Ok-true-clause-found
returns-in-Ok-true-clause-found g c = λ m told lists.
    gate_is_greatest m c.args.names.now c.loop-left.left (c.loop-left.left - 1) lists (omega (arith, c.loop-left-test.true)) (omega (arith, c.loop-left-test.true, c.loop-left.invariant.within))
    ((c.in-Ok-true.ensures.told m (c.loop-left.invariant.keeps.contents ∙ told)).0 c.in-Ok-true.field-0-test) (c.loop-left.invariant.searched m told)

pub loop-left-preserved : goal.loop-left-preserved
loop-left-preserved g c = record {
  searched = λ m told. no_gate_more m c.args.names.now c.loop-left.left (c.loop-left.left - 1) (omega (arith, c.loop-left-test.true))
      (λ is. let t = (c.in-Ok-false.ensures.told m (c.loop-left.invariant.keeps.contents ∙ told)).1 is in let e = c.in-Ok-false.field-0-test in absurd cc) (c.loop-left.invariant.searched m told);
  keeps = looks_join g.D.Disk c.loop-left.invariant.keeps c.in-Ok-false.ensures.keeps;
  within = omega (arith, c.loop-left.invariant.within);
}

pub returns-clause-found : goal.returns-clause-found
returns-clause-found g c = λ m told lists. no_gate m c.args.names.now c.loop-left.left lists (omega (arith, c.loop-left-test.false)) (c.loop-left.invariant.searched m told)

pub loop-left-init : goal.loop-left-init
loop-left-init g c = record { searched = search rules; keeps = looks_none g.D.Disk c.args.disk.now; within = search rules }

pub returns-in-Ok-true-clause-keeps : goal.returns-in-Ok-true-clause-keeps
returns-in-Ok-true-clause-keeps g c = looks_join g.D.Disk c.loop-left.invariant.keeps c.is_open.ensures.keeps

pub returns-in-Err-clause-keeps : goal.returns-in-Err-clause-keeps
returns-in-Err-clause-keeps g c = looks_join g.D.Disk c.loop-left.invariant.keeps c.is_open.ensures.keeps
