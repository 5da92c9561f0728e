use Rattle.std.proofs.Common.{◌≡◌, map, take}
use Rattle.col_value.specs.Order.{widened}
use Rattle.sql_bound.specs.Values.{compared, is_true}
use Rattle.query_run.proofs.filter.words_hold.Given as goal

abbrev pub invariant-loop-word : goal.invariant-loop-word
invariant-loop-word l = l.marks.items ≡ map (λ w. is_true (compared l.cmp (widened w) l.literal)) (take l.word-index l.words)
