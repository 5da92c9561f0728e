use Rattle.std.proofs.Common.{subst}
use Rattle.std.specs.List.{All}
use Rattle.std.proofs.lemmas.List.{take_all}
use Rattle.std.proofs.lemmas.List.Elements.{All-more}
use Rattle.del_vector.specs.Spelling.{FitsMark}
use Rattle.del_vector.proofs.gaps.have_spellings.Goals as goal

pub loop-mark-preserved : goal.loop-mark-preserved
loop-mark-preserved c = All-more FitsMark c.args.marks.now c.loop-mark.mark-index (record { position = 0; epoch = 0 }) c.loop-mark-test.true c.loop-mark.invariant c.has_spelling.ensures

pub returns-clause-fits : goal.returns-clause-fits
returns-clause-fits c = subst (All FitsMark) (take_all c.loop-mark.mark-index c.args.marks.now c.loop-mark-test.false) c.loop-mark.invariant
