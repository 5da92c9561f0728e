use Rattle.std.proofs.Common.{◌∙◌, ap, sym}
use Rattle.pos_index.specs.declared.index.PosIndex.{PosIndex}
use Rattle.exec_scan.proofs.Passed.{missed_here, misses_here}
use Rattle.exec_scan.proofs.passing.misses.Goals as goal

pub returns-in-Some-clause-missed : goal.returns-in-Some-clause-missed
returns-in-Some-clause-missed c = λ hit.
    misses_here c.args.bound.now c.args.indexes.now c.args.block c.in-Some-Some.field-0.now c.in-Some-Some.at c.as_slice.result.now c.in-Some.entry.now c.in-Some-Some.ensures.lookup.0 c.in-Some-Some.ensures.lookup.1 c.in-Some-Some.field-0-is
    (c.as_slice.ensures ∙ ap (λ (x : PosIndex). x.entries) c.get-in-Some-Some.ensures) c.in-Some.ensures.lookup.0 c.in-Some.ensures.lookup.1 (c.misses.ensures.out hit)

pub returns-in-Some-clause-told : goal.returns-in-Some-clause-told
returns-in-Some-clause-told c =
    c.misses.ensures.ends
    ∙ sym (missed_here c.args.bound.now c.args.indexes.now c.args.block c.in-Some-Some.field-0.now c.in-Some-Some.at c.as_slice.result.now c.in-Some.entry.now c.in-Some-Some.ensures.lookup.0 c.in-Some-Some.ensures.lookup.1 c.in-Some-Some.field-0-is
    (c.as_slice.ensures ∙ ap (λ (x : PosIndex). x.entries) c.get-in-Some-Some.ensures) c.in-Some.ensures.lookup.0 c.in-Some.ensures.lookup.1)
