use Rattle.std.proofs.Common.{◌≡◌, ◌++◌, drop, true}
use Rattle.std.specs.List.{flat_map}
use Rattle.del_vector.specs.Marks.{are_marks}
use Rattle.del_vector.specs.Spelling.{gap_spelling, gaps_from}
use Rattle.del_vector.proofs.gaps.put_marks.Given as goal

abbrev pub invariant-loop-mark : goal.invariant-loop-mark
invariant-loop-mark l =
    (l.out.items ++ flat_map gap_spelling (gaps_from l.from (drop l.mark-index l.marks)) ≡ l.fn.out.items ++ flat_map gap_spelling (gaps_from 0 l.marks))
    × (are_marks l.from (drop l.mark-index l.marks) ≡ true)
