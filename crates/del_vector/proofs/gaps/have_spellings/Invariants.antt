use Rattle.std.proofs.Common.{take}
use Rattle.std.specs.List.{All}
use Rattle.del_vector.specs.Spelling.{FitsMark}
use Rattle.del_vector.proofs.gaps.have_spellings.Given as goal

abbrev pub invariant-loop-mark : goal.invariant-loop-mark
invariant-loop-mark l = All FitsMark (take l.mark-index l.marks)
