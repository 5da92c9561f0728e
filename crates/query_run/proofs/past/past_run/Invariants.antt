use Rattle.std.proofs.Common.{take}
use Rattle.std.specs.List.{All}
use Rattle.query_run.proofs.Behind.{IsPast}
use Rattle.query_run.proofs.past.past_run.Given as goal

abbrev pub invariant-loop-n : goal.invariant-loop-n
invariant-loop-n l = All (IsPast l.numbers l.fn.bar l.descending) (take l.n l.places)
